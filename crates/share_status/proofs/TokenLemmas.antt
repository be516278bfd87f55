-- The tokens of objects and arrays.
use Rattle.std.proofs.Common.{◌≡◌, ℕ, List, [], ◌∷◌, ◌++◌, Result, Ok, Err, ap, sym, ◌∙◌, append_assoc, append-nil}
use Rattle.std.proofs.Common.{arith, refl}
use Rattle.std.specs.Prelude.{flat_map, OnOk}
use Rattle.std.proofs.lemmas.Grind.{flat_map-append}
use Rattle.json.specs.Json.{Json}
use Rattle.json.specs.Token as token
use Rattle.json.specs.Token.{Token}
use Rattle.json.specs.Tree.{json_tokens, items_tokens, members_tokens}
use Rattle.json.specs.Value.{items_of}
use Rattle.share_status.specs.Members.{all_member_tokens, member_tokens, members_of, array_of, object_of}

pub on_ok : {T E P Q : Type 0} (r : Result T E) → (P → Q) → OnOk r P → OnOk r Q
on_ok (Ok x) f p = f p
on_ok (Err e) f p = tt

all_items : (values : List Json) → items_tokens (items_of values) ≡ flat_map json_tokens values ++ token.end_array ∷ []
all_items [] = refl
all_items (v ∷ vs) = ap (λ ts. json_tokens v ++ ts) (all_items vs) ∙ sym (append_assoc (json_tokens v) _ _)

all_members : (ms : List (List ℕ × Json))
    → members_tokens (members_of ms) ≡ all_member_tokens ms ++ token.end_object ∷ []
all_members [] = refl
all_members (m ∷ ms) =
    ap (λ ts. token.key m.0 ∷ (json_tokens m.1 ++ ts)) (all_members ms)
    ∙ ap (λ ts. token.key m.0 ∷ ts) (sym (append_assoc (json_tokens m.1) _ _))

-- a member that is an array is written element by element
pub array_written : (w0 w1 w2 w3 w4 : List Token) (name : List ℕ) (values : List Json) → w1 ≡ w0 ++ token.key name ∷ []
    → w2 ≡ w1 ++ token.begin_array ∷ [] → w3 ≡ w2 ++ flat_map json_tokens values → w4 ≡ w3 ++ token.end_array ∷ []
    → w4 ≡ w0 ++ member_tokens (name, array_of values)
array_written w0 w1 w2 w3 w4 name values k a b c = rw all_items (grind (arith, append_assoc))

-- an object is written member by member
pub object_written : (w0 w1 w2 w3 : List Token) (ms : List (List ℕ × Json)) → w1 ≡ w0 ++ token.begin_object ∷ []
    → w2 ≡ w1 ++ all_member_tokens ms → w3 ≡ w2 ++ token.end_object ∷ []
    → w3 ≡ w0 ++ json_tokens (object_of ms)
object_written w0 w1 w2 w3 ms a b c = rw all_members (grind (arith, append_assoc))

-- a member that is an object is written likewise
pub member_written : (w0 w1 w2 w3 w4 : List Token) (name : List ℕ) (ms : List (List ℕ × Json))
    → w1 ≡ w0 ++ token.key name ∷ [] → w2 ≡ w1 ++ token.begin_object ∷ []
    → w3 ≡ w2 ++ all_member_tokens ms → w4 ≡ w3 ++ token.end_object ∷ []
    → w4 ≡ w0 ++ member_tokens (name, object_of ms)
member_written w0 w1 w2 w3 w4 name ms k a b c = rw all_members (grind (arith, append_assoc))

-- and so are two lists of members, one after the other
pub two_written : (w0 w1 w2 w3 w4 : List Token) (ms ns : List (List ℕ × Json)) → w1 ≡ w0 ++ token.begin_object ∷ []
    → w2 ≡ w1 ++ all_member_tokens ms → w3 ≡ w2 ++ all_member_tokens ns → w4 ≡ w3 ++ token.end_object ∷ []
    → w4 ≡ w0 ++ json_tokens (object_of (ms ++ ns))
two_written w0 w1 w2 w3 w4 ms ns a b c d =
    let both : w3 ≡ w1 ++ all_member_tokens (ms ++ ns) =
    rw (flat_map-append member_tokens ms ns) (grind (arith, append_assoc)) in
    object_written w0 w1 w3 w4 (ms ++ ns) a both d

-- texts that are written one after the other, the last one if its call succeeds
pub three_steps : {T E : Type 0} (r : Result T E) (w0 w1 w2 w3 a b c : List Token) → w1 ≡ w0 ++ a → w2 ≡ w1 ++ b
    → OnOk r (w3 ≡ w2 ++ c) → OnOk r (w3 ≡ w0 ++ (a ++ (b ++ c)))
three_steps r w0 w1 w2 w3 a b c e f = on_ok r (λ g. grind (arith, append_assoc))

pub four_steps : {T E : Type 0} (r : Result T E) (w0 w1 w2 w3 w4 a b c d : List Token) → w1 ≡ w0 ++ a → w2 ≡ w1 ++ b
    → w3 ≡ w2 ++ c → OnOk r (w4 ≡ w3 ++ d) → OnOk r (w4 ≡ w0 ++ (a ++ (b ++ (c ++ d))))
four_steps r w0 w1 w2 w3 w4 a b c d e f g = on_ok r (λ h. grind (arith, append_assoc))

pub five_steps : {T E : Type 0} (r : Result T E) (w0 w1 w2 w3 w4 w5 a b c d x : List Token) → w1 ≡ w0 ++ a
    → w2 ≡ w1 ++ b
    → w3 ≡ w2 ++ c → w4 ≡ w3 ++ d → OnOk r (w5 ≡ w4 ++ x) → OnOk r (w5 ≡ w0 ++ (a ++ (b ++ (c ++ (d ++ (x ++ []))))))
five_steps r w0 w1 w2 w3 w4 w5 a b c d x e f g h = on_ok r (λ i. grind (arith, append_assoc, append-nil))
