-- Readers and writers that report what they gave and took.
pub mod Calls
pub mod Counts
pub mod Given
pub mod Patient
pub mod PatientLaws
pub mod Printing
pub mod Scripted
pub mod ScriptedReader
pub mod Told
pub mod ToldLaws
