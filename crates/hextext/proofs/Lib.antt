pub mod Readings
pub mod RoundTrips
