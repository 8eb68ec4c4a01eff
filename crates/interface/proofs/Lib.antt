pub mod InTurn
pub mod Decoded
pub mod Orderly
pub mod InUse
