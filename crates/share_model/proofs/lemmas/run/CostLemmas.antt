-- The cost of the packets of a history, by the flows that are chosen.
use Rattle.std.specs.Prelude.{◌≡◌, ◌<◌, ◌+◌, ℕ, Bool, true, false, List, [], ◌∷◌, ◌++◌, filter, sum_by, nat_eq, Option}
use Rattle.std.specs.Prelude.{None, Some, if◌then◌else◌}
use Rattle.std.proofs.Common.{refl, ap, ◌∙◌, arith}
use Rattle.std.proofs.lemmas.Bool.{cond-false, ne_eqb}
use Rattle.std.proofs.lemmas.List.Elements.{filter-append}
use Rattle.std.proofs.lemmas.List.Sums.{sum_by-append, sum_by-cons}
use Rattle.std.proofs.Math.Nat.{zero-add}
use Rattle.share_base.specs.declared.version.Version.{Version}
use Rattle.share_model.specs.declared.rates.Rate.{Rate}
use Rattle.share_model.specs.lists.Each.{Each}
use Rattle.share_model.proofs.lemmas.lists.FirstItemLemmas.{each_map}
use Rattle.share_model.specs.run.Fold.{Sent, TornFrame, State}
use Rattle.share_model.specs.run.History.{sent_by, cost, sent_cost, torn_cost, cost_of, bill}

-- each number of a flow in a history was given to a flow
abbrev pub TornIsGiven : ℕ → Option TornFrame → Type 0
TornIsGiven limit None = Unit {0}
TornIsGiven limit (Some t) = t.head.flow < limit

pub record AreGivenFlows (limit : ℕ) (done : List Sent) (t : Option TornFrame) : Type 0 where
  pub sent : Each (λ (d : Sent). d.head.flow < limit) done
  pub torn : TornIsGiven limit t

torn_more : (limit : ℕ) (t : Option TornFrame) → TornIsGiven limit t → TornIsGiven (limit + 1) t
torn_more limit None given = tt
torn_more limit (Some t) given = omega arith

pub given_more : (limit : ℕ) (done : List Sent) (t : Option TornFrame) → AreGivenFlows limit done t
    → AreGivenFlows (limit + 1) done t
given_more limit done t given = record {
  sent =
      each_map (λ (d : Sent). d.head.flow < limit) (λ (d : Sent). d.head.flow < limit + 1)
      (λ d below. omega arith) done given.sent;
  torn = torn_more limit t given.torn;
}

-- a flow that was not opened yet sent nothing
below_self : (f g : ℕ) → g < f → f ≡ g → ⊥
below_self f g below same = omega arith

not_given : (f g : ℕ) → g < f → nat_eq f g ≡ false
not_given f g below = ne_eqb f g (λ same. below_self f g below same)

pub sent_none : (f : ℕ) (done : List Sent) → Each (λ (d : Sent). d.head.flow < f) done → sent_by f done ≡ []
sent_none f [] given = refl
sent_none f (d ∷ done) given =
    cond-false (nat_eq f d.head.flow) (d ∷ sent_by f done) (sent_by f done) (not_given f d.head.flow given.0)
    ∙ sent_none f done given.1

torn_none : (rates : List Rate) (f : ℕ) (t : Option TornFrame) → TornIsGiven f t → torn_cost rates (nat_eq f) t ≡ 0
torn_none rates f None given = refl
torn_none rates f (Some t) given =
    cond-false (nat_eq f t.head.flow) (cost rates t.tariff t.out) 0 (not_given f t.head.flow given)

nothing_due : (a b : ℕ) → a ≡ 0 → b ≡ 0 → a + b ≡ 0
nothing_due a b x y = omega arith

pub bill_none : (rates : List Rate) (s : State) (f : ℕ) → AreGivenFlows f s.done s.torn → bill rates s f ≡ 0
bill_none rates s f given =
    nothing_due (sum_by (sent_cost s.live.version rates) (sent_by f s.done)) (torn_cost rates (nat_eq f) s.torn)
    (ap (sum_by (sent_cost s.live.version rates)) (sent_none f s.done given.sent)) (torn_none rates f s.torn given.torn)

-- two choices that agree on the flows that were given cost the same
sent_same : (rates : List Rate) (limit : ℕ) (p q : ℕ → Bool) → ((g : ℕ) → g < limit → p g ≡ q g) → (done : List Sent)
    → Each (λ (d : Sent). d.head.flow < limit) done
    → filter (λ (d : Sent). p d.head.flow) done ≡ filter (λ (d : Sent). q d.head.flow) done
sent_same rates limit p q same [] given = refl
sent_same rates limit p q same (d ∷ done) given =
    ap (λ b. if b then d ∷ filter (λ (d : Sent). p d.head.flow) done else filter (λ (d : Sent). p d.head.flow) done)
    (same d.head.flow given.0)
    ∙ ap (λ ds. if q d.head.flow then d ∷ ds else ds) (sent_same rates limit p q same done given.1)

torn_same : (rates : List Rate) (limit : ℕ) (p q : ℕ → Bool) → ((g : ℕ) → g < limit → p g ≡ q g)
    → (t : Option TornFrame) → TornIsGiven limit t → torn_cost rates p t ≡ torn_cost rates q t
torn_same rates limit p q same None given = refl
torn_same rates limit p q same (Some t) given =
    ap (λ b. if b then cost rates t.tariff t.out else 0) (same t.head.flow given)

pub cost-same : (version : Version) (rates : List Rate) (limit : ℕ) (p q : ℕ → Bool) → ((g : ℕ) → g < limit → p g ≡ q g)
    → (done : List Sent) (t : Option TornFrame) → AreGivenFlows limit done t
    → cost_of version rates p done t ≡ cost_of version rates q done t
cost-same version rates limit p q same done t given =
    ap (λ ds. sum_by (sent_cost version rates) ds + torn_cost rates p t)
    (sent_same rates limit p q same done given.sent)
    ∙ ap (λ n. sum_by (sent_cost version rates) (filter (λ (d : Sent). q d.head.flow) done) + n)
    (torn_same rates limit p q same t given.torn)

-- each flow of the first choice is of just one of the others
abbrev pub IsSplit : (ℕ → Bool) → (ℕ → Bool) → (ℕ → Bool) → Type 0
IsSplit p q r = (g n : ℕ) → (if p g then n else 0) ≡ (if q g then n else 0) + (if r g then n else 0)

sum_kept : (version : Version) (rates : List Rate) (d : Sent) (ds : List Sent) (b : Bool)
    → sum_by (sent_cost version rates) (if b then d ∷ ds else ds)
    ≡ (if b then sent_cost version rates d else 0) + sum_by (sent_cost version rates) ds
sum_kept version rates d ds true = sum_by-cons (sent_cost version rates) d ds
sum_kept version rates d ds false = omega arith

sent_split : (version : Version) (rates : List Rate) (p q r : ℕ → Bool) → IsSplit p q r → (done : List Sent)
    → sum_by (sent_cost version rates) (filter (λ (d : Sent). p d.head.flow) done)
    ≡ sum_by (sent_cost version rates) (filter (λ (d : Sent). q d.head.flow) done)
    + sum_by (sent_cost version rates) (filter (λ (d : Sent). r d.head.flow) done)
sent_split version rates p q r split [] = refl
sent_split version rates p q r split (d ∷ done) =
    omega (
      arith,
      sent_split version rates p q r split done,
      split d.head.flow (sent_cost version rates d),
      sum_kept version rates d (filter (λ (d : Sent). p d.head.flow) done) (p d.head.flow),
      sum_kept version rates d (filter (λ (d : Sent). q d.head.flow) done) (q d.head.flow),
      sum_kept version rates d (filter (λ (d : Sent). r d.head.flow) done) (r d.head.flow),
    )

torn_split : (rates : List Rate) (p q r : ℕ → Bool) → IsSplit p q r → (t : Option TornFrame)
    → torn_cost rates p t ≡ torn_cost rates q t + torn_cost rates r t
torn_split rates p q r split None = refl
torn_split rates p q r split (Some t) = split t.head.flow (cost rates t.tariff t.out)

pub cost-split : (version : Version) (rates : List Rate) (p q r : ℕ → Bool) → IsSplit p q r
    → (done : List Sent) (t : Option TornFrame)
    → cost_of version rates p done t ≡ cost_of version rates q done t + cost_of version rates r done t
cost-split version rates p q r split done t =
    omega (arith, sent_split version rates p q r split done, torn_split rates p q r split t)

one_kept : (version : Version) (rates : List Rate) (d : Sent) (b : Bool)
    → sum_by (sent_cost version rates) (if b then d ∷ [] else []) ≡ (if b then sent_cost version rates d else 0)
one_kept version rates d true = zero-add (sent_cost version rates d)
one_kept version rates d false = refl

-- one more packet
pub sent_more : (version : Version) (rates : List Rate) (p : ℕ → Bool) (done : List Sent) (d : Sent)
    → sum_by (sent_cost version rates) (filter (λ (d : Sent). p d.head.flow) (done ++ d ∷ []))
    ≡ sum_by (sent_cost version rates) (filter (λ (d : Sent). p d.head.flow) done)
    + (if p d.head.flow then sent_cost version rates d else 0)
sent_more version rates p done d =
    ap (sum_by (sent_cost version rates)) (filter-append (λ (d : Sent). p d.head.flow) done (d ∷ []))
    ∙ (sum_by-append (sent_cost version rates) (filter (λ (d : Sent). p d.head.flow) done)
    (filter (λ (d : Sent). p d.head.flow) (d ∷ []))
    ∙ ap (λ m. sum_by (sent_cost version rates) (filter (λ (d : Sent). p d.head.flow) done) + m)
    (one_kept version rates d (p d.head.flow)))
