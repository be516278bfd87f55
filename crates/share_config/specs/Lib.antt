pub mod Endpoints
pub mod Files
pub mod Keys
pub mod Lists
pub mod Reading
pub mod Sections
pub mod Tenants
