pub mod ConversationLemmas
