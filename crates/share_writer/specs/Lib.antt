pub mod Ends
pub mod Queue
