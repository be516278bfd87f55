pub mod DistinctFlowLemmas
pub mod FirstItemLemmas
pub mod RingLemmas
pub mod StampLemmas
