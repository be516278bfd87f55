pub mod Paced
pub mod Transit
