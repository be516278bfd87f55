pub mod Calls
pub mod Chains
pub mod Receipts
pub mod Settles
pub mod Views
