-- Chains of currencies, if tickets are fewer or fund less, and if they are long.
use Rattle.std.proofs.Common.{◌≡◌, ℕ, zero, suc, Bool, true, false, not, cond, ◌||◌, ◌&&◌, List, [], ◌∷◌, ◌++◌}
use Rattle.std.proofs.Common.{map, filter, bytes_eq, refl, sym, ap, subst, ◌∙◌, true≢false}
use Rattle.std.specs.List.{list_any}
use Rattle.std.specs.Set.{remove_key}
use Rattle.std.proofs.lemmas.List.Folds.{list_any-append}
use Rattle.std.proofs.Math.Bool.{and-false}
use Rattle.share_model.specs.lists.Change.{change_first}
use Rattle.share_model.specs.declared.funding.Holder.{Holder}
use Rattle.share_model.specs.declared.funding.Holder.TheVariants.{Nobody, Currency, Flow}
use Rattle.share_model.specs.declared.funding.Ticket.{Ticket}
use Rattle.share_model.specs.funding.Graph.{NameBytes, base, holder_is_flow, denominated_in, leads_on, chain, runs}
use Rattle.share_model.specs.funding.Graph.{is_deep}
use Rattle.share_model.specs.funding.Changes.{is_numbered, with_its_holder, with_holder, release_from}
use Rattle.share_model.proofs.lemmas.lists.SumLemmas.{same_name}
use Rattle.share_model.proofs.lemmas.lists.CountLemmas.{any-remove, any-filter}
use Rattle.share_model.proofs.lemmas.funding.SettledGraphLemmas.{any-more}

-- a step of a chain from a to a currency that passes the test
abbrev pub steps : NameBytes → (NameBytes → Bool) → Ticket → Bool
steps a on t = bytes_eq a t.denomination && leads_on on t.holder

-- Tickets us have no step of a chain that ts do not have.
abbrev pub IsLess : List Ticket → List Ticket → Type 0
IsLess us ts =
    (a : NameBytes) (on : NameBytes → Bool) → list_any (steps a on) us ≡ true → list_any (steps a on) ts ≡ true

-- a step that leads on to less leads on to more
pub leads-more : (p q : NameBytes → Bool) → ((c : NameBytes) → p c ≡ true → q c ≡ true)
    → (h : Holder) → leads_on p h ≡ true → leads_on q h ≡ true
leads-more p q more Nobody e = e
leads-more p q more (Currency c) e = more c e
leads-more p q more (Flow f) e = e

chain-less : (us ts : List Ticket) → IsLess us ts
    → (n : ℕ) (a b : NameBytes) → chain us n a b ≡ true → chain ts n a b ≡ true
unfolding chain denominated_in
chain-less us ts less zero a b e = e
chain-less us ts less (suc n) a b e =
    let q : NameBytes → Bool = λ c. chain us n c b in
    let r : NameBytes → Bool = λ c. chain ts n c b in
    let p : Ticket → Bool = λ t. bytes_eq a t.denomination in
    any-filter p (λ (t : Ticket). leads_on r t.holder) ts
    ∙ less a r
    (sym (any-filter p (λ (t : Ticket). leads_on r t.holder) us)
    ∙ any-more (λ (t : Ticket). leads_on q t.holder) (λ (t : Ticket). leads_on r t.holder) (filter p us)
    (λ t. leads-more q r (λ c. chain-less us ts less n c b) t.holder) e)

-- there is no long chain
abbrev pub IsShort : List Ticket → Type 0
IsShort ts = (a b : NameBytes) → bytes_eq a base ≡ false → chain ts 8 a b ≡ false

pub short-less : (us ts : List Ticket) → IsLess us ts → IsShort ts → IsShort us
short-less us ts less short a b other = by (chain us 8 a b) refl
  where
    by : (r : Bool) → chain us 8 a b ≡ r → chain us 8 a b ≡ false
    by true e = absurd (true≢false (sym (chain-less us ts less 8 a b e) ∙ short a b other))
    by false e = e

pub less-remove : (test : Ticket → Bool) (ts : List Ticket) → IsLess (remove_key test ts) ts
less-remove test ts a on e = any-remove _ test ts e

pub less-made : (ts : List Ticket) (t : Ticket) → t.holder ≡ Nobody → IsLess (ts ++ t ∷ []) ts
less-made ts t e a on found = by (list_any (steps a on) ts) refl
  where
    none : (steps a on t || false) ≡ false
    none =
        ap (λ h. (bytes_eq a t.denomination && leads_on on h) || false) e
        ∙ ap (λ b. b || false) (and-false (bytes_eq a t.denomination))

    by : (b : Bool) → list_any (steps a on) ts ≡ b → list_any (steps a on) ts ≡ true
    by true q = q
    by false q =
        absurd (true≢false
        (sym found ∙ list_any-append (steps a on) ts (t ∷ []) ∙ ap (λ b. b || (steps a on t || false)) q ∙ none))

-- tickets that fund what they did, or nothing that leads on
module _ (change : Ticket → Ticket)
    (less : (a : NameBytes) (on : NameBytes → Bool) (t : Ticket) → steps a on (change t) ≡ true
    → steps a on t ≡ true) where
  either : (a : NameBytes) (on : NameBytes → Bool) (t : Ticket) (us ts : List Ticket)
      → (list_any (steps a on) us ≡ true → list_any (steps a on) ts ≡ true)
      → list_any (steps a on) (change t ∷ us) ≡ true → list_any (steps a on) (t ∷ ts) ≡ true
  either a on t us ts rest e = by (steps a on (change t)) (steps a on t) (less a on t) e
    where
      by : (b d : Bool) → (b ≡ true → d ≡ true) → (b || list_any (steps a on) us) ≡ true
          → (d || list_any (steps a on) ts) ≡ true
      by true d p e = ap (λ b. b || list_any (steps a on) ts) (p refl)
      by false true p e = refl
      by false false p e = rest e

  pub less-mapped : (ts : List Ticket) → IsLess (map change ts) ts
  less-mapped [] a on e = e
  less-mapped (t ∷ ts) a on e = either a on t (map change ts) ts (less-mapped ts a on) e

  pub less-changed : (test : Ticket → Bool) (ts : List Ticket) → IsLess (change_first test change ts) ts
  unfolding change_first
  less-changed test [] a on e = e
  less-changed test (t ∷ ts) a on e = by (test t) (less-changed test ts a on) e
    where
      same : (b : Bool)
          → (list_any (steps a on) (change_first test change ts) ≡ true → list_any (steps a on) ts ≡ true)
          → (b || list_any (steps a on) (change_first test change ts)) ≡ true → (b || list_any (steps a on) ts) ≡ true
      same true rest e = refl
      same false rest e = rest e

      by : (b : Bool)
          → (list_any (steps a on) (change_first test change ts) ≡ true → list_any (steps a on) ts ≡ true)
          → list_any (steps a on) (cond b (change t ∷ ts) (t ∷ change_first test change ts)) ≡ true
          → list_any (steps a on) (t ∷ ts) ≡ true
      by true rest e = either a on t ts ts (λ e. e) e
      by false rest e = same (steps a on t) rest e

-- a holder that leads nowhere makes no step
pub less-held : (n : ℕ) (h : Holder) (ts : List Ticket) → ((on : NameBytes → Bool) → leads_on on h ≡ false)
    → IsLess (with_holder n h ts) ts
less-held n h ts none =
    less-changed (with_its_holder h)
    (λ a on t e. absurd (true≢false
    (sym e ∙ ap (λ b. bytes_eq a t.denomination && b) (none on) ∙ and-false (bytes_eq a t.denomination))))
    (is_numbered n) ts

pub less-release_from : (f : ℕ) (ts : List Ticket) → IsLess (map (release_from f) ts) ts
less-release_from f ts = less-mapped (release_from f) step ts
  where
    step : (a : NameBytes) (on : NameBytes → Bool) (t : Ticket)
        → steps a on (release_from f t) ≡ true → steps a on t ≡ true
    step a on t e = by (holder_is_flow f t.holder) e
      where
        by : (b : Bool) → steps a on (cond b (with_its_holder Nobody t) t) ≡ true → steps a on t ≡ true
        by true e = absurd (true≢false (sym e ∙ and-false (bytes_eq a t.denomination)))
        by false e = e

-- the currency that a chain goes from begins a chain
pub chain-runs : (ts : List Ticket) (n : ℕ) (a b : NameBytes) → chain ts n a b ≡ true → runs ts n a ≡ true
unfolding chain runs
chain-runs ts zero a b e = refl
chain-runs ts (suc n) a b e =
    any-more (λ (t : Ticket). leads_on (λ c. chain ts n c b) t.holder) (λ (t : Ticket). leads_on (runs ts n) t.holder)
    (denominated_in ts a) (λ t. leads-more (λ c. chain ts n c b) (runs ts n) (λ c. chain-runs ts n c b) t.holder) e

begun : (ts : List Ticket) (n : ℕ) (a : NameBytes) → runs ts (suc n) a ≡ true
    → list_any (steps a (runs ts n)) ts ≡ true
unfolding runs denominated_in
begun ts n a e =
    sym (any-filter (λ (t : Ticket). bytes_eq a t.denomination) (λ (t : Ticket). leads_on (runs ts n) t.holder) ts) ∙ e

-- a currency that is not deep has no long chain
pub short-from_deep : (ts : List Ticket) → is_deep ts ≡ false → IsShort ts
unfolding is_deep
short-from_deep ts shallow a b other = by (chain ts 8 a b) refl
  where
    and_left : (x y : Bool) → (x && y) ≡ true → x ≡ true
    and_left true y e = refl
    and_left false y e = e

    at : runs ts 8 a ≡ true → (d : NameBytes) → bytes_eq a d ≡ true → (not (bytes_eq d base) && runs ts 8 d) ≡ true
    at long d same =
        subst (λ x. (not (bytes_eq x base) && runs ts 8 x) ≡ true) (same_name a d same)
        (ap (λ b. not b && runs ts 8 a) other ∙ long)

    by : (r : Bool) → chain ts 8 a b ≡ r → chain ts 8 a b ≡ false
    by false e = e
    by true e =
        let long = chain-runs ts 8 a b e in
        absurd (true≢false
        (sym
        (any-more (steps a (runs ts 7))
        (λ (t : Ticket). not (bytes_eq t.denomination base) && runs ts 8 t.denomination) ts
        (λ t e. at long t.denomination (and_left (bytes_eq a t.denomination) (leads_on (runs ts 7) t.holder) e))
        (begun ts 7 a long))
        ∙ shallow))
