pub mod OpenText
pub mod Paths
pub mod Rates
pub mod Texts
