-- Lists of offers, and the views of a queue's passes.
use Rattle.std.proofs.Common.{◌≡◌, ◌≢◌, ◌⊎◌, inl, inr, ℕ, zero, suc, ◌+◌, Bool, true, false, nat_eq}
use Rattle.std.proofs.Common.{List, [], ◌∷◌, ◌++◌, length, set, arith, refl, sym, ap, ◌∙◌, subst, ⊎_elim}
use Rattle.std.proofs.lemmas.List.{append_assoc, append-nil}
use Rattle.std.proofs.lemmas.Bool.Decides.{nat_tests}
use native.Mathlib.Decide.{ℕ_discrete}
use mathlib.Core.Option.{some, some-injective, some-ne-none}
use lib.ListN.{get_elem?}
use Rattle.crossbeam_queue.proofs.Lists.{at_set}
use Rattle.share_model.specs.lists.Each.{Each}
use Rattle.share_model.specs.declared.ingress.Offer.{Offer}
use Rattle.share_model.specs.declared.ingress.QueueView.{QueueView}
use Rattle.share_model.specs.ingress.Queue.{keep, of_worker, Numbered, Begins, IsWorker}

-- Numbers that are the same or not

or_not : (m n : ℕ) → Dec (m ≡ n) → (m ≡ n) ⊎ (m ≢ n)
or_not m n (yes e) = inl e
or_not m n (no h) = inr h

pub same_or_not : (m n : ℕ) → (m ≡ n) ⊎ (m ≢ n)
same_or_not m n = or_not m n (ℕ_discrete m n)

pub same_test : (m n : ℕ) → m ≡ n → nat_eq m n ≡ true
same_test m n e = grind (arith, nat_tests)

pub other_test : (m n : ℕ) → m ≢ n → nat_eq m n ≡ false
other_test m n h = grind (arith, nat_tests)

-- The offers of one worker

pub of_same : (w : ℕ) (o : Offer) (os : List Offer) → o.worker ≡ w → of_worker w (o ∷ os) ≡ o ∷ of_worker w os
of_same w o os e = rw (same_test o.worker w e) refl

pub of_other : (w : ℕ) (o : Offer) (os : List Offer) → o.worker ≢ w → of_worker w (o ∷ os) ≡ of_worker w os
of_other w o os h = rw (other_test o.worker w h) refl

keep_append : (b : Bool) (o : Offer) (os rest : List Offer) → keep b o (os ++ rest) ≡ keep b o os ++ rest
keep_append true o os rest = refl
keep_append false o os rest = refl

pub of_append : (w : ℕ) (os rest : List Offer) → of_worker w (os ++ rest) ≡ of_worker w os ++ of_worker w rest
of_append w [] rest = refl
of_append w (o ∷ os) rest =
    ap (λ t. keep (nat_eq o.worker w) o t) (of_append w os rest)
    ∙ keep_append (nat_eq o.worker w) o (of_worker w os) (of_worker w rest)

pub of_snoc_same : (w : ℕ) (os : List Offer) (o : Offer) → o.worker ≡ w
    → of_worker w (os ++ o ∷ []) ≡ of_worker w os ++ o ∷ []
of_snoc_same w os o e = of_append w os (o ∷ []) ∙ ap (λ t. of_worker w os ++ t) (of_same w o [] e)

pub of_snoc_other : (w : ℕ) (os : List Offer) (o : Offer) → o.worker ≢ w → of_worker w (os ++ o ∷ []) ≡ of_worker w os
of_snoc_other w os o h =
    of_append w os (o ∷ []) ∙ ap (λ t. of_worker w os ++ t) (of_other w o [] h) ∙ append-nil (of_worker w os)

-- an offer that moves from the front of the one list to the back of the other
pub of_moved : (w : ℕ) (got items : List Offer) (o : Offer) → of_worker w (got ++ o ∷ []) ++ of_worker w items
    ≡ of_worker w got ++ of_worker w (o ∷ items)
of_moved w got items o =
    ap (λ t. t ++ of_worker w items) (of_append w got (o ∷ []))
    ∙ append_assoc (of_worker w got) (of_worker w (o ∷ [])) (of_worker w items)
    ∙ ap (λ t. of_worker w got ++ t) (sym (of_append w (o ∷ []) items))

keep_none : (b : Bool) (o : Offer) (os : List Offer) → keep b o os ≡ [] → os ≡ []
keep_none true o os e = cc
keep_none false o os e = e

pub of_rest_none : (w : ℕ) (o : Offer) (os : List Offer) → of_worker w (o ∷ os) ≡ [] → of_worker w os ≡ []
of_rest_none w o os e = keep_none (nat_eq o.worker w) o (of_worker w os) e

pub of_first_some : (o : Offer) (os : List Offer) → of_worker o.worker (o ∷ os) ≢ []
of_first_some o os e = let p : o ∷ of_worker o.worker os ≡ [] = sym (of_same o.worker o os refl) ∙ e in cc

-- a worker that there is not has none
pub of_stranger : (m w : ℕ) (os : List Offer) → Each (λ o. IsWorker m o.worker) os → (IsWorker m w → ⊥)
    → of_worker w os ≡ []
of_stranger m w [] h apart = refl
of_stranger m w (o ∷ os) h apart =
    of_other w o os (λ e. apart (subst (λ u. IsWorker m u) e h.0)) ∙ of_stranger m w os h.1 apart

-- Numbers of offers

pub numbered_snoc : (k : ℕ) (os : List Offer) (o : Offer) → Numbered k os → o.n ≡ suc (k + length os)
    → Numbered k (os ++ o ∷ [])
numbered_snoc k [] o h e = (omega (arith, e), tt)
numbered_snoc k (p ∷ os) o h e = (h.0, numbered_snoc (suc k) os o h.1 (omega (arith, e)))

pub numbered_at : (k : ℕ) (os rest : List Offer) (o : Offer) → Numbered k (os ++ o ∷ rest) → o.n ≡ suc (k + length os)
numbered_at k [] rest o h = omega (arith, h.0)
numbered_at k (p ∷ os) rest o h = let e = numbered_at (suc k) os rest o h.1 in omega (arith, e)

-- Each offer

pub each_snoc : {A : Type 0} (P : A → Type 0) (os : List A) (o : A) → Each P os → P o → Each P (os ++ o ∷ [])
each_snoc P [] o h p = (p, tt)
each_snoc P (q ∷ os) o h p = (h.0, each_snoc P os o h.1 p)

pub each_at : (P : Offer → Type 0) (os rest : List Offer) (o : Offer) → Each P (os ++ o ∷ rest) → P o
each_at P [] rest o h = h.0
each_at P (q ∷ os) rest o h = each_at P os rest o h.1

pub each_more : {A : Type 0} (P Q : A → Type 0) (os : List A) → ((o : A) → P o → Q o) → Each P os → Each Q os
each_more P Q [] f h = tt
each_more P Q (o ∷ os) f h = (f o h.0, each_more P Q os f h.1)

-- Beginnings

pub begins_snoc : (os front : List Offer) (o : Offer) → Begins os front → Begins (os ++ o ∷ []) front
begins_snoc os front o h = (h.0 ++ o ∷ [], ap (λ t. t ++ o ∷ []) h.1 ∙ append_assoc front h.0 (o ∷ []))

pub begins_all : (os : List Offer) → Begins os os
begins_all os = ([], sym (append-nil os))

-- Views

abbrev pub Views : (ℕ → QueueView → Type 0) → List QueueView → Type 0
Views F views = (pass : ℕ) (v : QueueView) → get_elem? views pass ≡ some v → F pass v

pub views_set : (F : ℕ → QueueView → Type 0) (views : List QueueView) (pass : ℕ) (w : QueueView) → F pass w
    → ((j : ℕ) (u : QueueView) → j ≢ pass → get_elem? views j ≡ some u → F j u) → Views F (set views pass w)
views_set F views pass w mine others j u e =
    ⊎_elim (λ (x : (j ≡ pass) × (w ≡ u)). subst (λ (y : ℕ × QueueView). F y.0 y.1) (λ i. (sym x.0 i, x.1 i)) mine)
    (λ (x : (j ≢ pass) × (get_elem? views j ≡ some u)). others j u x.0 x.1) (at_set views pass j w u e)

snoc_at : (views : List QueueView) (w u : QueueView) (j : ℕ) → get_elem? (views ++ w ∷ []) j ≡ some u
    → (get_elem? views j ≡ some u) ⊎ ((j ≡ length views) × (w ≡ u))
snoc_at [] w u zero e = inr (refl, some-injective w u e)
snoc_at [] w u (suc j) e = absurd (some-ne-none u (sym e))
snoc_at (x ∷ xs) w u zero e = inl e
snoc_at (x ∷ xs) w u (suc j) e = ⊎_elim (λ h. inl h) (λ h. inr (ap suc h.0, h.1)) (snoc_at xs w u j e)

pub views_snoc : (F : ℕ → QueueView → Type 0) (views : List QueueView) (w : QueueView) → Views F views
    → F (length views) w
    → Views F (views ++ w ∷ [])
views_snoc F views w olds new j u e =
    ⊎_elim (λ (h : get_elem? views j ≡ some u). olds j u h)
    (λ (h : (j ≡ length views) × (w ≡ u)). subst (λ (y : ℕ × QueueView). F y.0 y.1) (λ i. (sym h.0 i, h.1 i)) new)
    (snoc_at views w u j e)

pub length_set : (views : List QueueView) (pass : ℕ) (w : QueueView) → length (set views pass w) ≡ length views
length_set [] pass w = refl
length_set (x ∷ xs) zero w = refl
length_set (x ∷ xs) (suc pass) w = ap suc (length_set xs pass w)
