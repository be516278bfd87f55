pub mod Lending
pub mod LifeHistory
pub mod Lives
pub mod NextBooks
pub mod NextPlan
pub mod Remainders
pub mod Tariffs
