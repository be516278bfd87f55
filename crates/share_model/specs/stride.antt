-- Scheduling: the clients of the stride queue, its moves, and the shares that they keep.
pub mod Bound
pub mod Level
pub mod Moves
pub mod Rows
pub mod Runs
pub mod Shares
