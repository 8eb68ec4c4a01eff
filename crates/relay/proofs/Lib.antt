pub mod Decoded
pub mod Unchanged
pub mod Unasked
