pub mod Digits
pub mod Reading
pub mod Messages
pub mod Lines
pub mod RoundTrip
pub mod Words
