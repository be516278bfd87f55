pub mod CountLemmas
pub mod FirstItemLemmas
pub mod ItemSumLemmas
pub mod OrderLemmas
pub mod RemovalLemmas
pub mod SumLemmas
