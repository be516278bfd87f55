pub mod funding
pub mod io
pub mod link
pub mod lists
pub mod run
pub mod stride
pub mod text
