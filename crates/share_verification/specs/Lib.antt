pub mod Figures
pub mod Given
pub mod Lines
pub mod Tables
