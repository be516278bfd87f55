-- The text of the open book.
use Rattle.std.specs.Prelude.{ℕ, List}
use Rattle.sha2.specs.Hashers.{Holds256}
use Rattle.sha2.specs.declared.Sha256.{Sha256}

-- the number of the book, and the state of the digest
pub record OpenTextView : Type 0 where
  pub number : ℕ
  pub hasher : Sha256

-- these bytes were written
abbrev pub HasText : OpenTextView → List ℕ → Type 0
HasText text bytes = Holds256 text.hasher bytes
