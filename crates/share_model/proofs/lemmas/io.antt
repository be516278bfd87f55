pub mod CallLemmas
pub mod CountEncodingLemmas
pub mod OutputLemmas
pub mod PrintingLemmas
