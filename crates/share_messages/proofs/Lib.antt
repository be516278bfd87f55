pub mod KindLemmas
pub mod RunLemmas
