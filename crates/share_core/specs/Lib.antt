pub mod Found
pub mod Lent
pub mod Levels
pub mod Life
pub mod NextWrite
pub mod Room
