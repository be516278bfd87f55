pub mod AskLemmas
pub mod FieldLemmas
pub mod HeadLemmas
