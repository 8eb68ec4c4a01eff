pub mod Commands
pub mod Chimes
pub mod Lawful
