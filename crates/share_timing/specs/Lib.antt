pub mod Allowance
pub mod Limiter
pub mod Redial
