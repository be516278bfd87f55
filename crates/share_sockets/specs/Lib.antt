pub mod Failure
pub mod Packets
pub mod Progress
