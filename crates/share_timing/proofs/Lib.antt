pub mod AllowanceLemmas
