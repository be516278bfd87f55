pub mod BoundLemmas
pub mod DivisionLemmas
pub mod LevellingLemmas
pub mod MapLemmas
pub mod MoveLemmas
pub mod NextFlowLemmas
pub mod ShareLemmas
pub mod SoundQueueLemmas
