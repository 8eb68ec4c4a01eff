mod Borders
mod Runs
mod Worked
mod SeatsDenied
mod GroupsDenied
mod RunsDenied
mod MemoryDenied
mod IsolationDenied
