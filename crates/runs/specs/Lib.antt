pub mod Runs
pub mod Ledgers
pub mod Memory
pub mod Isolation
pub mod Replays
pub mod Making
