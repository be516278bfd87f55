pub mod Members
pub mod Status
