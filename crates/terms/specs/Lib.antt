pub mod Sizes
pub mod EdgeNames
pub mod Flaws
