pub mod Body
pub mod Name
pub mod Refusal
pub mod Version
