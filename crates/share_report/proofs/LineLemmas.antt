-- A line is put together one field after the other.
use Rattle.std.proofs.Common.{◌≡◌, ◌∙◌, ℕ, List, [], ◌∷◌, ◌++◌, codes, ap, refl}
use Rattle.std.specs.List.{join_with_byte}
use mathlib.Core.List.{append_assoc}

-- x was added after y, and y after what was there
pub added : (old x y : List ℕ) {before after : List ℕ} → after ≡ before ++ x → before ≡ old ++ y
    → after ≡ old ++ (y ++ x)
added old x y second first = second ∙ ap (λ r. r ++ x) first ∙ append_assoc old y x

-- the last byte of a field, or the space after it, and the field itself
pub field_added : (old y x space : List ℕ) {before middle after : List ℕ} → after ≡ middle ++ space
    → middle ≡ before ++ x → before ≡ old ++ y → after ≡ old ++ (y ++ x ++ space)
field_added old y x space third second first = added old space (y ++ x) third (added old x y second first)

-- fields that are added one after the other, with a space after each, are joined by spaces
pub fields_joined : (a b c d e f g : List ℕ) →
    ((((((codes "flow " ++ a ++ codes " ") ++ b ++ codes " ") ++ c ++ codes " ") ++ d ++ codes " ") ++ e ++ codes " ")
    ++ f ++ codes " ") ++ g ++ codes "\n"
    ≡ join_with_byte 32 (codes "flow" ∷ a ∷ b ∷ c ∷ d ∷ e ∷ f ∷ g ∷ []) ++ codes "\n"
fields_joined a b c d e f g = simp append_assoc refl
