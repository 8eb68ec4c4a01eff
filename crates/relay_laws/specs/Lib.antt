pub mod RelayCommands
pub mod RelayPairs
pub mod RelayReports
pub mod RelayListener
pub mod RelayTimes
pub mod RelayLayout
pub mod RelayStarts
pub mod RelayExamples
