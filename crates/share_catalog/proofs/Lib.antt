pub mod DigestLemmas
pub mod BilledLemmas
pub mod NameLemmas
pub mod NumberLemmas
pub mod PieceLemmas
pub mod RowLemmas
pub mod TariffLemmas
pub mod TimeLemmas
