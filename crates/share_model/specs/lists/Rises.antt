-- Numbers in rising order.
use Rattle.std.specs.Prelude.{ℕ, ◌<◌, List, [], ◌∷◌, Bool, nat_eq}
use Rattle.share_model.specs.lists.Each.{Each}
use Rattle.std.specs.List.{list_any}

-- the numbers rise, and stay below a limit
unfoldable pub Rises : ℕ → List ℕ → Type 0
Rises limit [] = Unit {0}
Rises limit (n ∷ ns) = (n < limit) × Each (λ m. n < m) ns × Rises limit ns

-- Numbers as keys

-- whether a number is in a list
abbrev pub has_number : ℕ → List ℕ → Bool
has_number n ns = list_any (nat_eq n) ns
