pub mod Alike
pub mod Grouped
pub mod Sent
