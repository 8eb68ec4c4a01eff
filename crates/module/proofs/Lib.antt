pub mod Bytes
pub mod Sent
pub mod First
pub mod Passing
pub mod Answered
pub mod Bitwise
pub mod Unwritten
