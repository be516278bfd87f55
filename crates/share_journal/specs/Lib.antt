pub mod ArrivalRows
pub mod Arrivals
pub mod Entries
pub mod Records
pub mod Replays
pub mod Rows
