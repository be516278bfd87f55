pub mod Faults
pub mod Shutdown
