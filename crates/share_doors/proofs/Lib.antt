pub mod DeliveryLemmas
pub mod FillLemmas
pub mod OutgoingLemmas
pub mod PacketLemmas
pub mod RecordLemmas
