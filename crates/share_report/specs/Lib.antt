pub mod Columns
pub mod Widths
