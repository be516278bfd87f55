pub mod PacedLemmas
pub mod TransitLemmas
pub mod TurnLemmas
