pub mod Outboxes
pub mod Commands
