pub mod Channels
pub mod Shown
pub mod Links
pub mod States
pub mod Interfaces
