pub mod WorkedRun
pub mod Denied
