pub mod CellLemmas
pub mod ShelfLemmas
