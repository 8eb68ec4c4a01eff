pub mod Links
pub mod Marks
