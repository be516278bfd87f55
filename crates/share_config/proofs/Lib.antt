pub mod EndpointLemmas
pub mod KeyLemmas
pub mod ListLemmas
pub mod TariffLemmas
pub mod TextLemmas
