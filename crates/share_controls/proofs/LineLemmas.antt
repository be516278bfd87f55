-- Lines that are looked for call by call.
use Rattle.std.proofs.Common.{◌≡◌, ◌++◌, List, ℕ, sym, subst}
use Rattle.share_controls.specs.Controls.{Comes, Seeks, nothing, looked, came}
use Rattle.share_controls.specs.declared.connection.Front.{Front}
use Rattle.share_controls.specs.declared.connection.Front.TheVariants.{Line, OverLong, Nothing}

-- one call after others
pub comes_more : (a b c : List ℕ) → Comes a b → Comes b c → Comes a c
comes_more a _ _ first (nothing b) = first
comes_more a b c first (looked _ d _ line more unfinished) =
    looked a d c line (comes_more a b d first more) unfinished
comes_more a b _ first (came _ d more_bytes more) = came a d more_bytes (comes_more a b d first more)

pub seeks_more : (a b : List ℕ) (front : Front) (line rest : List ℕ) → Comes a b → Seeks b front line rest
    → Seeks a front line rest
seeks_more a b Nothing line rest first more = comes_more a b rest first more
seeks_more a b Line line rest first more = (more.0, comes_more a b more.0 first more.1, more.2)
seeks_more a b OverLong line rest first more = (more.0, comes_more a b more.0 first more.1, more.2)

-- no byte came
pub comes_same : (a b : List ℕ) → b ≡ a → Comes a b
comes_same a b same = subst (λ (x : List ℕ). Comes a x) (sym same) (nothing a)

-- these bytes came
pub comes_then : (a b c more : List ℕ) → Comes a b → c ≡ b ++ more → Comes a c
comes_then a b c more first is = subst (λ (x : List ℕ). Comes a x) (sym is) (came a b more first)
