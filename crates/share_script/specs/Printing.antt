-- The bytes that were printed on a writer, and those that wait to be printed.
use Rattle.std.specs.Prelude.{◌≡◌, ℕ, List, ◌++◌, Option}
use Rattle.std.specs.Io.KnownBytes.{Appends}

-- a text was printed, after what waited before: some of it is out, and the rest waits
pub record Spooled (before : Option (List ℕ)) (waited : List ℕ) (after : Option (List ℕ)) (waits : List ℕ)
    (text : List ℕ) : Type 0 where
  pub out : List ℕ
  pub appends : Appends before after out
  pub same : waited ++ text ≡ out ++ waits

-- no more of a text was printed, after what waited before, than a beginning
pub record SpooledPart (before : Option (List ℕ)) (waited : List ℕ) (after : Option (List ℕ))
    (text : List ℕ) : Type 0 where
  pub out : List ℕ
  pub rest : List ℕ
  pub appends : Appends before after out
  pub same : waited ++ text ≡ out ++ rest
