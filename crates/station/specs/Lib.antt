pub mod Edges
pub mod Kinds
pub mod Listed
pub mod Rules
pub mod Seats
pub mod Sieves
pub mod SeatsLemmas
