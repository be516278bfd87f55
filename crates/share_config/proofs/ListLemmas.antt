-- A list is read item by item.
use Rattle.std.proofs.Common.{◌≡◌, ℕ, ◌+◌, ◌<◌, List, [], ◌∷◌, ◌++◌, length, drop, get_or, Ok, Err, refl, ap, ◌∙◌}
use Rattle.std.proofs.Common.{sym, append_assoc}
use Rattle.toml.specs.Data.{Data}
use Rattle.toml.specs.View.{view, items_view}
use Rattle.toml.specs.declared.value.Value.{Value}
use Rattle.toml.proofs.Views.{items_view-drop}
use Rattle.share_config.specs.Reading.{Said, each, ◌>>=◌}
use Rattle.share_config.specs.declared.fault.ConfigFault.{ConfigFault}

-- the reading, and that of the rest
abbrev pub with_front : {A : Type 0} → List A → Said (List A) → Said (List A)
with_front front (Ok bs) = Ok (front ++ bs)
with_front front (Err e) = Err e

-- the items from an index on are left, and those before it said these entries
abbrev pub IsReadTo : {A : Type 0} → (ℕ → Data → Said A) → List Value → ℕ → List A → Type 0
IsReadTo read vs i front = each read 1 (items_view vs) ≡ with_front front (each read (i + 1) (items_view (drop i vs)))

next_front : {A : Type 0} (front : List A) (a : A) (rest : Said (List A))
    → with_front front (rest >>= λ bs. Ok (a ∷ bs)) ≡ with_front (front ++ a ∷ []) rest
next_front front a (Ok bs) = ap Ok (sym (append_assoc front (a ∷ []) bs))
next_front front a (Err e) = refl

front_of_none : {A : Type 0} (rest : Said (List A)) → with_front [] rest ≡ rest
front_of_none (Ok bs) = refl
front_of_none (Err e) = refl

pub none_read : {A : Type 0} (read : ℕ → Data → Said A) (vs : List Value) → IsReadTo read vs 0 []
none_read read vs = sym (front_of_none (each read 1 (items_view vs)))

pub one_more : {A : Type 0} (read : ℕ → Data → Said A) (vs : List Value) (i : ℕ) (front : List A) (v : Value) (a : A)
    → IsReadTo read vs i front → i < length vs → read (i + 1) (view (get_or vs i v)) ≡ Ok a
    → IsReadTo read vs (i + 1) (front ++ a ∷ [])
one_more read vs i front v a h inside said =
    h
    ∙ rw (items_view-drop vs i v inside, said)
    (next_front front a (each read (i + 1 + 1) (items_view (drop (i + 1) vs))))

pub stopped : {A : Type 0} (read : ℕ → Data → Said A) (vs : List Value) (i : ℕ) (front : List A) (v : Value)
    (e : ConfigFault) → IsReadTo read vs i front → i < length vs → read (i + 1) (view (get_or vs i v)) ≡ Err e
    → each read 1 (items_view vs) ≡ Err e
stopped read vs i front v e h inside said = h ∙ rw (items_view-drop vs i v inside, said)
