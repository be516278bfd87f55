-- Heads, whose bytes come one after the other.
use Rattle.std.proofs.Common.{◌≡◌, ℕ, ◌+◌, ◌<◌, true, List, [], ◌∷◌, ◌++◌, length, take, get_or, refl, sym, ap, ◌∙◌}
use Rattle.std.proofs.lemmas.List.{take_more}
use Rattle.share_web.specs.Heads.{is_over, taken, with_byte}

pub taken-append : (head a b : List ℕ) → taken (taken head a) b ≡ taken head (a ++ b)
unfolding taken
taken-append head [] b = refl
taken-append head (x ∷ a) b = taken-append (with_byte head x) a b

pub taken-nothing : (head : List ℕ) → taken head [] ≡ head
unfolding taken
taken-nothing head = refl

pub taken-byte : (head : List ℕ) (b : ℕ) → taken head (b ∷ []) ≡ with_byte head b
unfolding taken
taken-byte head b = refl

-- one byte more
pub taken_more : (head piece : List ℕ) (i : ℕ) → i < length piece
    → with_byte (taken head (take i piece)) (get_or piece i 0) ≡ taken head (take (i + 1) piece)
taken_more head piece i inside =
    sym (taken-byte (taken head (take i piece)) (get_or piece i 0))
    ∙ taken-append head (take i piece) (get_or piece i 0 ∷ [])
    ∙ ap (taken head) (sym (take_more piece i 0 inside))

-- a head that is over takes nothing
pub taken-over : (head bytes : List ℕ) → is_over head ≡ true → taken head bytes ≡ head
unfolding taken
taken-over head [] over = refl
taken-over head (b ∷ bytes) over =
    let same : with_byte head b ≡ head = rw over in
    ap (λ (h : List ℕ). taken h bytes) same ∙ taken-over head bytes over
