pub mod Frames
pub mod Outboxes
pub mod Refusals
