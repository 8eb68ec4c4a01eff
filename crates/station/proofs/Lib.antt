pub mod Joined
pub mod Puts
