pub mod Conversation
pub mod Replies
