pub mod TimeCodes
pub mod Holds
pub mod Times
pub mod Shown
