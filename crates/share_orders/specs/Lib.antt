pub mod Obeys
pub mod Orders
pub mod OrderRows
pub mod Replies
