-- Texts that are put together from parts.
use Rattle.std.specs.Prelude.{ℕ, List, ◌++◌}

-- three parts, one after the other
unfoldable pub three : List ℕ → List ℕ → List ℕ → List ℕ
three a b c = a ++ b ++ c
