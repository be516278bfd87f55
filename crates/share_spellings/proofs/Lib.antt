pub mod AddressLemmas
pub mod AmountLemmas
