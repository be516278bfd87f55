pub mod CleanLemmas
pub mod ReadBackLemmas
pub mod BookLemmas
pub mod ReplayLemmas
