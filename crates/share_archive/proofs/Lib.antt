pub mod StepLemmas
pub mod SettleLemmas
