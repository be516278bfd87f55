-- A list of tariffs is short, or has a fault.
use Rattle.std.proofs.Common.{◌≡◌, ◌<◌, ◌≤◌, ◌==◌, false, List, [], ◌∷◌, length, refl, arith}
use Rattle.std.proofs.lemmas.Bool.{lt-ltb, le-ltb}
use Rattle.toml.specs.View.{items_view}
use Rattle.toml.specs.declared.value.Value.{Value}
use Rattle.share_config.specs.declared.key.Key.TheVariants as key
use Rattle.share_config.specs.declared.key.Location.TheVariants as location
use Rattle.share_config.specs.declared.fault.Reason.TheVariants as reason
use Rattle.share_config.specs.Lists.{count, some_tariffs, tariff_of}
use Rattle.share_config.specs.Reading.{wrong, each}

count_of : (vs : List Value) → count (items_view vs) ≡ length vs
count_of [] = refl
count_of (v ∷ vs) = let h : count (items_view vs) ≡ length vs = count_of vs in omega arith

pub too_many : (vs : List Value) → 8 < length vs
    → some_tariffs (items_view vs) ≡ wrong location.File key.Tariff (reason.TooMany 8)
too_many [] h = absurd (omega arith)
too_many (v ∷ vs) h =
    let counted : count (items_view (v ∷ vs)) ≡ length (v ∷ vs) = count_of (v ∷ vs) in
    rw (lt-ltb 8 (count (items_view (v ∷ vs))) (omega arith))

pub few : (vs : List Value) → (length vs == 0) ≡ false → length vs ≤ 8
    → some_tariffs (items_view vs) ≡ each tariff_of 1 (items_view vs)
few [] some h = let no : ⊥ = cc in absurd no
few (v ∷ vs) some h =
    let counted : count (items_view (v ∷ vs)) ≡ length (v ∷ vs) = count_of (v ∷ vs) in
    rw (le-ltb 8 (count (items_view (v ∷ vs))) (omega arith))
