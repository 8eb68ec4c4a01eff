pub mod RelayCommands
pub mod RelayPairs
pub mod RelayReports
pub mod RelayListener
pub mod RelayTimes
pub mod RelayLayout
mod RelayStarts
mod RelayExamples
