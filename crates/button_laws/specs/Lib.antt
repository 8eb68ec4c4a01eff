pub mod Interfaces
pub mod Holding
pub mod ModuleStatus
pub mod Clocks
pub mod Examples
