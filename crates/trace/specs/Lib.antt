pub mod Traces
pub mod Noted
