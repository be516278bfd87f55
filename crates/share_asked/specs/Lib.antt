pub mod Rates
pub mod Statuses
pub mod Tariffs
