pub mod Kinds
pub mod Lines
pub mod Limits
pub mod Runs
