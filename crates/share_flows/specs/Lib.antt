pub mod Limit
pub mod BufferHandles
pub mod Stamps
