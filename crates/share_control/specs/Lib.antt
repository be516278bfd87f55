pub mod Attends
pub mod Requests
