pub mod Kinds
pub mod Bench
