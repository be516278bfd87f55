pub mod Digits
pub mod Lengths
pub mod Printing
pub mod Words
