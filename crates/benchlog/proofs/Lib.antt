pub mod Passing
pub mod Joined
pub mod RoundTrip
pub mod Copies
pub mod Served
pub mod Ran
