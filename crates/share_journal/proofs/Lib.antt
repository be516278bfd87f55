pub mod ArrivalLemmas
pub mod AuditLemmas
pub mod EventAnswerLemmas
pub mod RunLemmas
