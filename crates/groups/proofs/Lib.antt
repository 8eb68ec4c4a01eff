pub mod Below
pub mod Members
pub mod Searching
