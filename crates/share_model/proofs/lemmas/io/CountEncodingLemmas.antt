-- A count that is put after others, as bytes, is read after them.
use Rattle.std.proofs.Common.{◌≡◌, ◌<◌, ℕ, ◌+◌, ◌*◌, ◌/◌, ◌%◌, zero, suc, nat_eq, Bool, true, false, arith}
use Rattle.std.proofs.Common.{List, [], ◌∷◌, ◌++◌, append_assoc, refl, ap, ◌∙◌, Result, Ok, Err}
use Rattle.std.specs.Prelude.{if◌then◌else◌, ◌-◌, replicate, length, take, OnOk, is_ok}
use Rattle.std.specs.List.{prefix_len}
use Rattle.std.proofs.Math.Nat.{mod-add-div, mod-le}
use Rattle.std.proofs.lemmas.Bool.{cond-false, ne_eqb}
use Rattle.std.proofs.lemmas.List.{take_all}
use Rattle.std.proofs.lemmas.List.Folds.{prefix_len-replicate}
use Rattle.share_model.specs.io.Counts.{counts_in}
use Rattle.share_model.specs.lists.Each.{Each}
use Rattle.share_model.proofs.lemmas.lists.FirstItemLemmas.{each-append}

abbrev is_full_byte : ℕ → Bool
is_full_byte b = nat_eq b 255

-- bytes of 255 alone begin no count
counts_in-full : (n : ℕ) → counts_in (replicate n 255) ≡ []
counts_in-full zero = refl
counts_in-full (suc n) = counts_in-full n

-- the front bytes of 255 end at a byte that is not 255
prefix_len-stopped : (xs : List ℕ) (b : ℕ) (ys : List ℕ) → is_full_byte b ≡ false
    → prefix_len is_full_byte (xs ++ b ∷ ys) ≡ prefix_len is_full_byte xs
prefix_len-stopped [] b ys stops = cond-false (is_full_byte b) (1 + prefix_len is_full_byte ys) 0 stops
prefix_len-stopped (x ∷ xs) b ys stops =
    ap (λ n. if is_full_byte x then 1 + n else 0) (prefix_len-stopped xs b ys stops)

first_put_by : (t : Bool) (c k : ℕ) (cs : List ℕ)
    → (if t then cs ++ k ∷ [] else c ∷ (cs ++ k ∷ [])) ≡ (if t then cs else c ∷ cs) ++ k ∷ []
first_put_by true c k cs = refl
first_put_by false c k cs = refl

-- a byte below 255 and n bytes of 255 after it are one count more
counts_in-append : (xs : List ℕ) (b n : ℕ) → is_full_byte b ≡ false
    → counts_in (xs ++ b ∷ replicate n 255) ≡ counts_in xs ++ (b + 255 * n) ∷ []
counts_in-append [] b n stops =
    cond-false (is_full_byte b) (counts_in (replicate n 255))
    ((b + 255 * prefix_len is_full_byte (replicate n 255)) ∷ counts_in (replicate n 255)) stops
    ∙ rw (prefix_len-replicate is_full_byte n 255 refl, counts_in-full n) refl
counts_in-append (x ∷ xs) b n stops =
    rw (prefix_len-stopped xs b (replicate n 255) stops, counts_in-append xs b n stops)
    (first_put_by (is_full_byte x) (x + 255 * prefix_len is_full_byte xs) (b + 255 * n) (counts_in xs))

-- a count as bytes
pub counts_in-push : (xs : List ℕ) (k : ℕ)
    → counts_in (xs ++ (k % 255) ∷ replicate (k / 255) 255) ≡ counts_in xs ++ k ∷ []
counts_in-push xs k =
    counts_in-append xs (k % 255) (k / 255) (ne_eqb (k % 255) 255 (λ e. omega arith))
    ∙ ap (λ n. counts_in xs ++ n ∷ []) (mod-add-div k 255)

-- The bytes of a list of counts: one was pushed, and then as many of 255 as the list was made longer by

longer : (xs ys zs : List ℕ) (len n m k : ℕ) → ys ≡ xs ++ (k % 255) ∷ [] → len ≡ length ys → n ≡ len + m
    → zs ≡ take n ys ++ replicate (n - len) 255 → zs ≡ xs ++ (k % 255) ∷ replicate m 255
longer xs ys zs len n m k pushed held room made =
    let whole : take n ys ≡ ys = take_all n ys (omega arith) in
    let more : n - len ≡ m = omega arith in
    made ∙ rw (whole, more, pushed, append_assoc) refl

pub counts_in-resized : {E : Type 0} (r : Result (Unit {0}) E) (xs ys zs : List ℕ) (len n k : ℕ)
    → ys ≡ xs ++ (k % 255) ∷ [] → len ≡ length ys → n ≡ len + k / 255
    → zs ≡ (if is_ok r then take n ys ++ replicate (n - len) 255 else ys)
    → OnOk r (counts_in zs ≡ counts_in xs ++ k ∷ [])
counts_in-resized (Ok done) xs ys zs len n k pushed held room made =
    ap counts_in (longer xs ys zs len n (k / 255) k pushed held room made) ∙ counts_in-push xs k
counts_in-resized (Err error) xs ys zs len n k pushed held room made = tt

pub small-resized : {E : Type 0} (r : Result (Unit {0}) E) (xs ys zs : List ℕ) (len n k most : ℕ)
    → ys ≡ xs ++ (k % 255) ∷ [] → len ≡ length ys → n ≡ len + k / 255
    → zs ≡ (if is_ok r then take n ys ++ replicate (n - len) 255 else ys)
    → k < most → Each (λ c. c < most) (counts_in xs) → Each (λ c. c < most) (counts_in zs)
small-resized (Ok done) xs ys zs len n k most pushed held room made fits small =
    rw (longer xs ys zs len n (k / 255) k pushed held room made, counts_in-push xs k)
    (each-append (λ c. c < most) (counts_in xs) (k ∷ []) small (fits, tt))
small-resized (Err error) xs ys zs len n k most pushed held room made fits small =
    rw (made, pushed, counts_in-append xs (k % 255) 0 (ne_eqb (k % 255) 255 (λ e. omega arith)))
    (each-append (λ c. c < most) (counts_in xs) ((k % 255 + 255 * 0) ∷ []) small (omega (arith, mod-le k 255), tt))
