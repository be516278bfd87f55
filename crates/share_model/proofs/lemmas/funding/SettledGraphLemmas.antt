-- In a graph without long chains one more step changes neither activity nor values. All that meets the equations of one
-- step is the activity, and the values.
use Rattle.std.proofs.Common.{◌≡◌, ℕ, ◌*◌, ◌/◌, zero, suc, Bool, true, false, cond, ◌||◌, List, [], ◌∷◌, filter, sum_by}
use Rattle.std.proofs.Common.{nat_lt, ◌≤◌, ◌<◌, arith}
use Rattle.std.proofs.Common.{bytes_eq, refl, sym, ap, subst, ◌∙◌, true≢false}
use Rattle.std.specs.List.{list_any}
use Rattle.std.proofs.Math.Bool.{or-true}
use Rattle.std.proofs.lemmas.List.Sums.{sum_by-cons}
use Rattle.std.proofs.lemmas.Bool.Decides.{nat_tests}
use Rattle.share_model.specs.declared.funding.Holder.{Holder}
use Rattle.share_model.specs.declared.funding.Holder.TheVariants.{Nobody, Currency, Flow}
use Rattle.share_model.specs.declared.funding.Ticket.{Ticket}
use Rattle.share_model.specs.funding.Graph.{NameBytes, base, Graph, holder_is_currency, denominated_in, backing}
use Rattle.share_model.specs.funding.Graph.{is_active_holder, act, is_active, active, worth_by, val, leads_on, chain}
use Rattle.share_model.specs.funding.Graph.{runs}
use Rattle.share_model.specs.lists.Each.{Each}
use Rattle.share_model.specs.funding.WellFormed.{IsShallow}
use Rattle.share_model.proofs.lemmas.lists.FirstItemLemmas.{each_map}
use Rattle.share_model.proofs.lemmas.lists.SumLemmas.{same_name, name_same, name_refl, name_sym, Each-all}
use Rattle.share_model.proofs.lemmas.lists.SumLemmas.{sum_by-same_of}

-- Tests of some element
module _ {X : Type 0} where
  pub any_none : (p : X → Bool) (xs : List X) → list_any p xs ≡ false → Each (λ x. p x ≡ false) xs
  any_none p [] e = tt
  any_none p (x ∷ xs) e = by (p x) refl e (any_none p xs)
    where
      by : (b : Bool) → p x ≡ b → (b || list_any p xs) ≡ false → (list_any p xs ≡ false → Each (λ x. p x ≡ false) xs)
          → (p x ≡ false) × Each (λ x. p x ≡ false) xs
      by true q e rest = absurd (true≢false e)
      by false q e rest = (q, rest e)

  pub none_any : (p : X → Bool) (xs : List X) → Each (λ x. p x ≡ false) xs → list_any p xs ≡ false
  none_any p [] e = refl
  none_any p (x ∷ xs) e = ap (λ b. b || list_any p xs) e.0 ∙ none_any p xs e.1

  pub any-same : (p q : X → Bool) (xs : List X) → Each (λ x. p x ≡ q x) xs → list_any p xs ≡ list_any q xs
  any-same p q [] e = refl
  any-same p q (x ∷ xs) e = ap (λ b. b || list_any p xs) e.0 ∙ ap (λ b. q x || b) (any-same p q xs e.1)

  -- a test that fails if all tests of a family fail
  pub any_none-all : {B : Type 0} (f : B → X → Bool) (q : X → Bool) (xs : List X)
      → ((x : X) → ((b : B) → f b x ≡ false) → q x ≡ false)
      → ((b : B) → list_any (f b) xs ≡ false) → list_any q xs ≡ false
  any_none-all f q [] step none = refl
  any_none-all f q (x ∷ xs) step none =
      ap (λ b. b || list_any q xs) (step x (λ b. left (f b x) (list_any (f b) xs) (none b)))
      ∙ any_none-all f q xs step (λ b. right (f b x) (list_any (f b) xs) (none b))
    where
      left : (a b : Bool) → (a || b) ≡ false → a ≡ false
      left true b e = e
      left false b e = refl

      right : (a b : Bool) → (a || b) ≡ false → b ≡ false
      right true b e = absurd (true≢false e)
      right false b e = e

  pub any-more : (p q : X → Bool) (xs : List X) → ((x : X) → p x ≡ true → q x ≡ true) → list_any p xs ≡ true
      → list_any q xs ≡ true
  any-more p q [] more e = absurd (true≢false (sym e))
  any-more p q (x ∷ xs) more e = by (p x) refl e (any-more p q xs more)
    where
      by : (b : Bool) → p x ≡ b → (b || list_any p xs) ≡ true → (list_any p xs ≡ true → list_any q xs ≡ true)
          → (q x || list_any q xs) ≡ true
      by true r e rest = ap (λ b. b || list_any q xs) (more x r)
      by false r e rest = ap (λ b. q x || b) (rest e) ∙ or-true (q x)

-- a sum of amounts that are not zero is above zero if and only if one of them counts
pub any-above : (p : Ticket → Bool) (ts : List Ticket) → Each (λ (t : Ticket). 1 ≤ t.amount) ts
    → nat_lt 0 (sum_by (λ (t : Ticket). cond (p t) t.amount 0) ts) ≡ list_any p ts
any-above p [] some = refl
any-above p (t ∷ ts) some = by (p t) refl (any-above p ts some.1)
  where
    by : (b : Bool) → p t ≡ b → nat_lt 0 (sum_by (λ (t : Ticket). cond (p t) t.amount 0) ts) ≡ list_any p ts
        → nat_lt 0 (sum_by (λ (t : Ticket). cond (p t) t.amount 0) (t ∷ ts)) ≡ (b || list_any p ts)
    by true e rest =
        let here : cond (p t) t.amount 0 ≡ t.amount = ap {B = ℕ} (λ b. cond b t.amount 0) e in
        let sum = sum_by-cons (λ (t : Ticket). cond (p t) t.amount 0) t ts in
        let above : 0 < sum_by (λ (t : Ticket). cond (p t) t.amount 0) (t ∷ ts) = omega (arith, some.0) in
        grind (arith, nat_tests)
    by false e rest =
        let here : cond (p t) t.amount 0 ≡ 0 = ap {B = ℕ} (λ b. cond b t.amount 0) e in
        let sum = sum_by-cons (λ (t : Ticket). cond (p t) t.amount 0) t ts in
        let same : sum_by (λ (t : Ticket). cond (p t) t.amount 0) (t ∷ ts)
        ≡ sum_by (λ (t : Ticket). cond (p t) t.amount 0) ts = omega arith in
        ap (nat_lt 0) same ∙ rest

-- if no chain of n steps goes from a to anything, none begins at a
pub runs-none : (ts : List Ticket) (n : ℕ) (a : NameBytes) → ((b : NameBytes) → chain ts n a b ≡ false)
    → runs ts n a ≡ false
unfolding runs chain
runs-none ts zero a none = absurd (true≢false (sym (name_refl a) ∙ none a))
runs-none ts (suc n) a none =
    any_none-all (λ b (t : Ticket). leads_on (λ c. chain ts n c b) t.holder)
    (λ (t : Ticket). leads_on (runs ts n) t.holder) (denominated_in ts a) (λ t. step (runs-none ts n) t.holder) none
  where
    step : ((a : NameBytes) → ((b : NameBytes) → chain ts n a b ≡ false) → runs ts n a ≡ false) → (h : Holder)
        → ((b : NameBytes) → leads_on (λ c. chain ts n c b) h ≡ false) → leads_on (runs ts n) h ≡ false
    step rest Nobody none = refl
    step rest (Currency c) none = rest c none
    step rest (Flow f) none = refl

-- no chain of eight steps begins at what a ticket funds
pub holder-short : (g : Graph) → IsShallow g → (h : Holder) → holder_is_currency base h ≡ false
    → leads_on (runs g.tickets 8) h ≡ false
holder-short g ok Nobody e = refl
holder-short g ok (Currency c) e = runs-none g.tickets 8 c (λ b. ok.short c b (other (bytes_eq c base) refl))
  where
    other : (b : Bool) → bytes_eq c base ≡ b → bytes_eq c base ≡ false
    other true s = absurd (true≢false (sym (name_same base c (sym (same_name c base s))) ∙ e))
    other false s = s
holder-short g ok (Flow f) e = refl

-- Any activity that goes on by the same step agrees with the definition if no chain is as long.
module _ (g : Graph) (P : ℕ → Ticket → Bool)
    (step : (n : ℕ) (t : Ticket) → P (suc n) t ≡ is_active_holder g (P n) t.holder) where
  act-any : (n : ℕ) (h : Holder) → leads_on (runs g.tickets n) h ≡ false
      → is_active_holder g (act g n) h ≡ is_active_holder g (P n) h
  unfolding runs act
  act-any n Nobody e = refl
  act-any n (Flow f) e = refl
  act-any zero (Currency c) e = absurd (true≢false e)
  act-any (suc n) (Currency c) e =
      any-same (act g (suc n)) (P (suc n)) (denominated_in g.tickets c)
      (each_map (λ (t : Ticket). leads_on (runs g.tickets n) t.holder ≡ false)
      (λ (t : Ticket). act g (suc n) t ≡ P (suc n) t)
      (λ t short. act-any n t.holder short ∙ sym (step n t)) (denominated_in g.tickets c)
      (any_none (λ (t : Ticket). leads_on (runs g.tickets n) t.holder) (denominated_in g.tickets c) e))

  pub act-is : IsShallow g → (t : Ticket) → holder_is_currency base t.holder ≡ false → is_active g t ≡ P 9 t
  unfolding act is_active
  act-is ok t unbacked = act-any 8 t.holder (holder-short g ok t.holder unbacked) ∙ sym (step 8 t)

-- any activity that meets the equation of one step is the activity
pub act-unique : (g : Graph) → IsShallow g → (P : Ticket → Bool) → ((t : Ticket) → P t ≡ is_active_holder g P t.holder)
    → (t : Ticket) → holder_is_currency base t.holder ≡ false
    → is_active g t ≡ P t
act-unique g ok P step t unbacked = act-is g (λ n. P) (λ n. step) ok t unbacked

-- a step at the end of a chain makes it longer
chain-snoc : (ts : List Ticket) (n : ℕ) (a d c : NameBytes)
    → list_any (λ (t : Ticket). leads_on (λ e. bytes_eq e c) t.holder) (denominated_in ts d) ≡ true
    → chain ts n a d ≡ true → chain ts (suc n) a c ≡ true
unfolding chain
chain-snoc ts zero a d c last e =
    subst (λ x. list_any (λ (t : Ticket). leads_on (λ e. bytes_eq e c) t.holder) (denominated_in ts x) ≡ true)
    (sym (same_name a d e)) last
chain-snoc ts (suc n) a d c last e =
    any-more (λ (t : Ticket). leads_on (λ x. chain ts n x d) t.holder)
    (λ (t : Ticket). leads_on (λ x. chain ts (suc n) x c) t.holder) (denominated_in ts a)
    (λ t. more t.holder (λ x. chain-snoc ts n x d c last)) e
  where
    more : (h : Holder) → ((x : NameBytes) → chain ts n x d ≡ true → chain ts (suc n) x c ≡ true)
        → leads_on (λ x. chain ts n x d) h ≡ true → leads_on (λ x. chain ts (suc n) x c) h ≡ true
    more Nobody rest e = absurd (true≢false (sym e))
    more (Currency x) rest e = rest x e
    more (Flow f) rest e = absurd (true≢false (sym e))

-- an item that passes the test q is found by q among those that are like it
module _ {X : Type 0} (R : X → X → Bool) (like : (x : X) → R x x ≡ true) (q : X → Bool) where
  any-filter_more : (t x : X) (ts : List X) → list_any q (filter (R t) ts) ≡ true
      → list_any q (filter (R t) (x ∷ ts)) ≡ true
  any-filter_more t x ts e = by (R t x)
    where
      by : (b : Bool) → list_any q (cond b (x ∷ filter (R t) ts) (filter (R t) ts)) ≡ true
      by true = ap (λ b. q x || b) e ∙ or-true (q x)
      by false = e

  any-own : (ts : List X) → Each (λ t. list_any q (filter (R t) ts) ≡ true) (filter q ts)
  any-own [] = tt
  any-own (x ∷ ts) =
      by (q x) refl
      (each_map _ (λ t. list_any q (filter (R t) (x ∷ ts)) ≡ true) (λ t e. any-filter_more t x ts e) (filter q ts)
      (any-own ts))
    where
      by : (b : Bool) → q x ≡ b → Each (λ t. list_any q (filter (R t) (x ∷ ts)) ≡ true) (filter q ts)
          → Each (λ t. list_any q (filter (R t) (x ∷ ts)) ≡ true) (cond b (x ∷ filter q ts) (filter q ts))
      by false e rest = rest
      by true e rest = (
        ap (λ r. list_any q (cond r (x ∷ filter (R x) ts) (filter (R x) ts))) (like x)
            ∙ ap (λ b. b || list_any q (filter (R x) ts)) e,
        rest,
      )

-- a ticket that funds c leads from its denomination to c
leads-held : (c : NameBytes) (h : Holder) → leads_on (λ e. bytes_eq e c) h ≡ holder_is_currency c h
leads-held c Nobody = refl
leads-held c (Currency d) = name_sym d c
leads-held c (Flow f) = refl

step-of : (c : NameBytes) (ts : List Ticket)
    → Each
    (λ (t : Ticket). list_any (λ (u : Ticket). leads_on (λ e. bytes_eq e c) u.holder) (denominated_in ts t.denomination)
    ≡ true)
    (backing ts c)
unfolding denominated_in backing
step-of c ts =
    each_map _
    (λ (t : Ticket). list_any (λ (u : Ticket). leads_on (λ e. bytes_eq e c) u.holder)
    (filter (λ (u : Ticket). bytes_eq t.denomination u.denomination) ts) ≡ true)
    (λ t e. any-same (λ (u : Ticket). leads_on (λ e. bytes_eq e c) u.holder)
    (λ (u : Ticket). holder_is_currency c u.holder)
    (filter (λ (u : Ticket). bytes_eq t.denomination u.denomination) ts)
    (each-leads (filter (λ (u : Ticket). bytes_eq t.denomination u.denomination) ts)) ∙ e)
    (filter (λ (t : Ticket). holder_is_currency c t.holder) ts)
    (any-own (λ (t u : Ticket). bytes_eq t.denomination u.denomination) (λ t. name_refl t.denomination)
    (λ (t : Ticket). holder_is_currency c t.holder) ts)
  where
    each-leads : (us : List Ticket)
        → Each (λ (u : Ticket). leads_on (λ e. bytes_eq e c) u.holder ≡ holder_is_currency c u.holder) us
    each-leads us = Each-all _ us (λ (u : Ticket). leads-held c u.holder)

-- Any values that go on by the same step agree with the definition if no chain is as long.
module _ (g : Graph) (W : ℕ → NameBytes → ℕ)
    (step : (n : ℕ) (c : NameBytes) → W (suc n) c ≡ sum_by (worth_by g (W n)) (backing g.tickets c)) where
  worth-any : (n : ℕ) (t : Ticket)
      → (bytes_eq t.denomination base ≡ false → val g n t.denomination ≡ W n t.denomination)
      → worth_by g (val g n) t ≡ worth_by g (W n) t
  unfolding worth_by
  worth-any n t same = by (bytes_eq t.denomination base) same
    where
      by : (b : Bool) → (b ≡ false → val g n t.denomination ≡ W n t.denomination)
          → cond (is_active g t) (cond b t.amount (val g n t.denomination * t.amount / active g t.denomination)) 0
          ≡ cond (is_active g t) (cond b t.amount (W n t.denomination * t.amount / active g t.denomination)) 0
      by true same = refl
      by false same = ap (λ v. cond (is_active g t) (v * t.amount / active g t.denomination) 0) (same refl)

  val-any : (n : ℕ) (c : NameBytes) → bytes_eq c base ≡ false
      → ((a : NameBytes) → bytes_eq a base ≡ false → chain g.tickets n a c ≡ false) → val g n c ≡ W n c
  unfolding val chain
  val-any zero c other none = absurd (true≢false (sym (name_refl c) ∙ none c other))
  val-any (suc n) c other none =
      sum_by-same_of
      (λ (t : Ticket). list_any (λ (u : Ticket). leads_on (λ e. bytes_eq e c) u.holder)
      (denominated_in g.tickets t.denomination) ≡ true) (worth_by g (val g n)) (worth_by g (W n)) (backing g.tickets c)
      (step-of c g.tickets)
      (λ t leads. worth-any n t
      (λ made. val-any n t.denomination made
      (λ a apart. before a t.denomination apart leads (chain g.tickets n a t.denomination) refl)))
      ∙ sym (step n c)
    where
      before : (a d : NameBytes) → bytes_eq a base ≡ false
          → list_any (λ (u : Ticket). leads_on (λ e. bytes_eq e c) u.holder) (denominated_in g.tickets d) ≡ true
          → (b : Bool) → chain g.tickets n a d ≡ b → chain g.tickets n a d ≡ false
      before a d apart leads true e = absurd (true≢false (sym (chain-snoc g.tickets n a d c leads e) ∙ none a apart))
      before a d apart leads false e = e

-- `base` has no backing, whatever it is asked for
backing-base : (g : Graph) → IsShallow g → backing g.tickets base ≡ []
unfolding backing
backing-base g ok = none g.tickets ok.unbacked
  where
    none : (ts : List Ticket) → Each (λ (t : Ticket). holder_is_currency base t.holder ≡ false) ts
        → filter (λ (t : Ticket). holder_is_currency base t.holder) ts ≡ []
    none [] e = refl
    none (t ∷ ts) e =
        ap
        (λ b. cond b (t ∷ filter (λ (t : Ticket). holder_is_currency base t.holder) ts)
        (filter (λ (t : Ticket). holder_is_currency base t.holder) ts)) e.0 ∙ none ts e.1

module _ (g : Graph) (ok : IsShallow g) (W : ℕ → NameBytes → ℕ)
    (step : (n : ℕ) (c : NameBytes) → W (suc n) c ≡ sum_by (worth_by g (W n)) (backing g.tickets c)) where
  val-base : (c : NameBytes) → c ≡ base → val g 8 c ≡ W 8 c
  unfolding val
  val-base c e =
      subst (λ c. val g 8 c ≡ W 8 c) (sym e)
      (ap (sum_by (worth_by g (val g 7))) (backing-base g ok) ∙ sym (ap (sum_by (worth_by g (W 7))) (backing-base g ok))
      ∙ sym (step 7 base))

  pub val-is : (c : NameBytes) → val g 8 c ≡ W 8 c
  val-is c = by (bytes_eq c base) refl
    where
      by : (b : Bool) → bytes_eq c base ≡ b → val g 8 c ≡ W 8 c
      by true e = val-base c (same_name c base e)
      by false e = val-any g W step 8 c e (λ a apart. ok.short a c apart)

-- eight steps are enough for values
pub val-settles : (g : Graph) → IsShallow g → (c : NameBytes) → val g 9 c ≡ val g 8 c
unfolding val
val-settles g ok c = sym (val-is g ok (λ n. val g (suc n)) (λ n c. refl) c)

-- any values that meet the equation of one step are the values
pub val-unique : (g : Graph) → IsShallow g → (V : NameBytes → ℕ)
    → ((c : NameBytes) → V c ≡ sum_by (worth_by g V) (backing g.tickets c)) → (c : NameBytes) → val g 9 c ≡ V c
val-unique g ok V step c = val-settles g ok c ∙ val-is g ok (λ n. V) (λ n. step) c
