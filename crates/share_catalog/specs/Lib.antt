pub mod Billed
pub mod Folder
pub mod Names
pub mod Pieces
pub mod Reads
pub mod Rows
pub mod Texts
pub mod Times
