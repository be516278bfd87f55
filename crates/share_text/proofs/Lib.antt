mod DigitLemmas
pub mod HexLemmas
mod LaneLemmas
mod NumberLemmas
pub mod ReadingLemmas
mod SpellingLemmas
pub mod TextLemmas
pub mod WordLemmas
