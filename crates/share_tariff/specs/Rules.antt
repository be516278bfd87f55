-- The rule of a tariff's stored closures: when they may be called, and what they answer.
use Rattle.std.specs.Prelude.{◌≡◌, ◌<◌, ◌≤◌, ◌^◌, ℕ}
use Rattle.share_model.specs.declared.rates.Rate.{Rate}
use Rattle.share_model.specs.link.Tariff.{units_of, post_of}

-- it may be called with each count of bytes up to 65535, and gives the tariff's units and nothing else
abbrev pub ChargesRightly : Rate → (ℕ → Type 0) → (ℕ → ℕ → Type 0) → Type 0
ChargesRightly r may gives = (n : ℕ) → n < 2 ^ 16 → may n × ((u : ℕ) → gives n u → u ≡ units_of r n)

-- it may be called with each account up to 2^62 and up to 2^17 units, and gives the posted account and nothing else
abbrev pub BooksRightly : Rate → (ℕ → ℕ → Type 0) → (ℕ → ℕ → ℕ → Type 0) → Type 0
BooksRightly r may gives =
    (account units : ℕ) → account ≤ 2 ^ 62 → units ≤ 2 ^ 17
    → may account units × ((after : ℕ) → gives account units after → after ≡ post_of r account units)
