pub mod Lines
pub mod Printing
pub mod Script
pub mod Session
