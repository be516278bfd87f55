pub mod Deliveries
pub mod Door
pub mod Fills
pub mod Outgoing
pub mod Packets
pub mod Takes
