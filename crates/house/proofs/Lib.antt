pub mod Builders
pub mod Checking
pub mod Grouping
