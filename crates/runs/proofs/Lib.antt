pub mod Alone
pub mod Bytes
pub mod Grouped
pub mod Isolated
pub mod Making
pub mod Remembered
pub mod Stations
