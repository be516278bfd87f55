-- The findings of a start in a folder of books.
use Rattle.std.specs.Prelude.{◌≡◌, ◌≢◌, ◌≤◌, ◌<◌, ◌+◌, ℕ, List, [], ◌∷◌, length, max, slice_index}

-- the greatest of these numbers, and 0 if there are none
abbrev pub greatest : List ℕ → ℕ
greatest [] = 0
greatest (n ∷ ns) = max n (greatest ns)

-- that many bytes are whole lines, and the bytes after them are part of one
pub record IsWholeLines (text : List ℕ) (count : ℕ) : Type 0 where
  pub inside : count ≤ length text
  pub ends : (k : ℕ) → k + 1 ≡ count → slice_index text k ≡ 10
  pub rest : (k : ℕ) → count ≤ k → k < length text → slice_index text k ≢ 10
