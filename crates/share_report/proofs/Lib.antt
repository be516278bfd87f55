pub mod FitLemmas
pub mod FlowLemmas
pub mod LineLemmas
pub mod ShownLemmas
pub mod WidthLemmas
