pub mod Statuses
pub mod Sources
