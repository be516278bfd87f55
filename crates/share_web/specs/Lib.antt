pub mod Answers
pub mod Fields
pub mod Heads
pub mod Page
pub mod Parts
pub mod Requests
