-- Lists: a fact of each item, and laws of lists that std does not have.
pub mod Change
pub mod Each
pub mod Rises
