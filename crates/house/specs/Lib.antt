pub mod Faults
pub mod Answers
pub mod Turns
pub mod Houses
pub mod Groups
