-- Texts that grow by a row.
use Rattle.std.specs.Prelude.{◌≡◌, ℕ, ◌+◌, ◌-◌, ◌<◌, ◌≤◌, List, [], ◌∷◌, ◌++◌, flat_map, length, take, get_or}
use Rattle.std.specs.Prelude.{replicate}
use Rattle.std.proofs.Common.{refl, sym, ap, ◌∙◌, append_assoc, arith, suc, zero}
use Rattle.std.proofs.lemmas.List.{append-nil, take_all, take_more}
use Rattle.std.proofs.lemmas.List.Concat.{flat_map-append}
use Rattle.share_bill.specs.declared.bill.total.Figures.{Figures}
use Rattle.share_bill.specs.declared.bill.total.TenantTotal.{TenantTotal}
use Rattle.share_bill.specs.Totals.{no_figures, plus}
use Rattle.share_billing.specs.Texts.{left, right, sum_of, sum_with}

-- the rows of one item more
rows-pushed : {X : Type 0} (f : X → List ℕ) (xs : List X) (x : X)
    → flat_map f xs ++ f x ≡ flat_map f (xs ++ x ∷ [])
rows-pushed f xs x =
    ap (λ bs. flat_map f xs ++ bs) (sym (append-nil (f x))) ∙ sym (flat_map-append f xs (x ∷ []))

pub rows-more : {X : Type 0} (f : X → List ℕ) (xs : List X) (i : ℕ) (d : X) (text before after : List ℕ)
    → i < length xs → text ≡ before ++ flat_map f (take i xs) → after ≡ text ++ f (get_or xs i d)
    → after ≡ before ++ flat_map f (take (i + 1) xs)
rows-more f xs i d text before after more was pushed =
    pushed
    ∙ ap (λ bs. bs ++ f (get_or xs i d)) was
    ∙ append_assoc before (flat_map f (take i xs)) (f (get_or xs i d))
    ∙ ap (λ bs. before ++ bs)
    (rows-pushed f (take i xs) (get_or xs i d) ∙ ap (flat_map f) (sym (take_more xs i d more)))

-- ---- Columns

abbrev pub filled_to : ℕ → List ℕ
filled_to n = replicate n 32

spaces : (n m : ℕ) → n ≤ m → take n (filled_to m) ≡ filled_to n
spaces zero m few = refl
spaces (suc n) zero few = let bad : ⊥ = omega (arith, few) in absurd bad
spaces (suc n) (suc m) few = ap (λ bs. 32 ∷ bs) (spaces n m (omega (arith, few)))

few_spaces : (width n k : ℕ) → width ≤ 20 → k ≡ width - n → take k (filled_to 20) ≡ filled_to (width - n)
few_spaces width n k few is = spaces k 20 (omega (arith, few, is)) ∙ ap filled_to is

pub left-pushed : (k : ℕ) (old name one two : List ℕ) → k ≡ 16 - length name → one ≡ old ++ name
    → two ≡ one ++ take k (filled_to 20) → two ≡ old ++ left 16 name
left-pushed k old name one two is named filled =
    filled
    ∙ ap (λ bs. bs ++ take k (filled_to 20)) named
    ∙ append_assoc old name (take k (filled_to 20))
    ∙ ap (λ bs. old ++ (name ++ bs)) (few_spaces 16 (length name) k (omega arith) is)

pub right-pushed : (width k : ℕ) (old digits text one two three : List ℕ) → width ≤ 20 → digits ≡ text
    → k ≡ width - length digits → one ≡ old ++ 32 ∷ [] → two ≡ one ++ take k (filled_to 20)
    → three ≡ two ++ digits → three ≡ old ++ right width text
right-pushed width k old digits text one two three few same is begun filled ended =
    ended
    ∙ ap (λ bs. bs ++ digits) (filled ∙ ap (λ bs. bs ++ take k (filled_to 20)) begun
    ∙ append_assoc old (32 ∷ []) (take k (filled_to 20)))
    ∙ append_assoc old (32 ∷ take k (filled_to 20)) digits
    ∙ ap (λ bs. old ++ 32 ∷ (bs ++ digits)) (few_spaces width (length digits) k few is)
    ∙ ap (λ bs. old ++ right width bs) same

-- ---- Sums

sum-last : (sum : Figures) (ts : List TenantTotal) (t : TenantTotal)
    → sum_with sum (ts ++ t ∷ []) ≡ plus (sum_with sum ts) t.sent
sum-last sum [] t = refl
sum-last sum (u ∷ us) t = sum-last (plus sum u.sent) us t

pub sums-more : (ts : List TenantTotal) (i : ℕ) (d : TenantTotal) (sum after : Figures) → i < length ts
    → sum ≡ sum_of (take i ts) → after ≡ plus sum (get_or ts i d).sent → after ≡ sum_of (take (i + 1) ts)
sums-more ts i d sum after more was joined =
    joined
    ∙ ap (λ s. plus s (get_or ts i d).sent) was
    ∙ sym (sum-last no_figures (take i ts) (get_or ts i d))
    ∙ ap sum_of (sym (take_more ts i d more))

pub rows-all : {X : Type 0} (f : X → List ℕ) (xs : List X) (i : ℕ) (text before : List ℕ) → length xs ≤ i
    → text ≡ before ++ flat_map f (take i xs) → text ≡ before ++ flat_map f xs
rows-all f xs i text before all is = is ∙ ap (λ ys. before ++ flat_map f ys) (take_all i xs all)

-- ---- A head before the rows

pub headed : (old head rows begun text : List ℕ) → begun ≡ old ++ head → text ≡ begun ++ rows
    → text ≡ old ++ (head ++ rows)
headed old head rows begun text is was = was ∙ ap (λ bs. bs ++ rows) is ∙ append_assoc old head rows

pub headed-ended : (old head rows last begun text ended : List ℕ) → begun ≡ old ++ head → text ≡ begun ++ rows
    → ended ≡ text ++ last → ended ≡ old ++ (head ++ (rows ++ last))
headed-ended old head rows last begun text ended is was more =
    more
    ∙ ap (λ bs. bs ++ last) (headed old head rows begun text is was)
    ∙ append_assoc old (head ++ rows) last
    ∙ ap (λ bs. old ++ bs) (append_assoc head rows last)
