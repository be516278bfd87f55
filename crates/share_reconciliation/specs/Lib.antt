pub mod Reconciled
pub mod Replayed
