pub mod Addresses
pub mod Amounts
