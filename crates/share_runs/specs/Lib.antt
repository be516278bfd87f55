pub mod Lines
pub mod LinesLaws
pub mod Printout
pub mod Strict
pub mod StrictLaws
