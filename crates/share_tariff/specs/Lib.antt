pub mod PlainRates
pub mod PlainShelf
pub mod Rules
pub mod Shelf
pub mod ShelfLength
