pub mod Fits
pub mod Heap
pub mod Index
pub mod Queue
pub mod Seating
pub mod Table
