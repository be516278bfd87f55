-- Runs: the fold of events from the empty link, its history, and what holds of every run.
pub mod Ends
pub mod Events
pub mod Fold
pub mod History
pub mod Shares
pub mod Sound
