pub mod Faults
pub mod Holds
pub mod Origins
pub mod Rosters
pub mod Sections
