pub mod Passing
pub mod States
pub mod Uplink
