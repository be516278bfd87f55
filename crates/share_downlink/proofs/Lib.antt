pub mod DatagramLemmas
pub mod GivenLemmas
