-- No currency backs itself, by however many steps.
use Rattle.std.proofs.Common.{◌≡◌, ℕ, zero, suc, Bool, true, false, List, bytes_eq, refl, sym, ap, subst, ◌∙◌}
use Rattle.std.proofs.Common.{true≢false}
use Rattle.share_model.specs.declared.funding.Holder.{Holder}
use Rattle.share_model.specs.declared.funding.Holder.TheVariants.{Nobody, Currency, Flow}
use Rattle.share_model.specs.declared.funding.Ticket.{Ticket}
use Rattle.share_model.specs.funding.Graph.{NameBytes, base, Graph, holder_is_currency, denominated_in, leads_on}
use Rattle.share_model.specs.funding.Graph.{chain, runs}
use Rattle.share_model.specs.lists.Each.{Each}
use Rattle.share_model.specs.funding.WellFormed.{IsShallow}
use Rattle.share_model.specs.funding.Laws.{IsAcyclic}
use Rattle.share_model.proofs.lemmas.funding.ChainLemmas.{leads-more}
use Rattle.share_model.proofs.lemmas.lists.FirstItemLemmas.{each_map}
use Rattle.share_model.proofs.lemmas.lists.SumLemmas.{same_name, name_sym, Each-all, Each-filter}
use Rattle.share_model.proofs.lemmas.funding.SettledGraphLemmas.{any-more, none_any, runs-none}

-- a currency that begins a chain begins each shorter one
pub runs-fewer : (ts : List Ticket) (n : ℕ) (a : NameBytes) → runs ts (suc n) a ≡ true → runs ts n a ≡ true
unfolding runs
runs-fewer ts zero a e = refl
runs-fewer ts (suc n) a e =
    any-more (λ (t : Ticket). leads_on (runs ts (suc n)) t.holder) (λ (t : Ticket). leads_on (runs ts n) t.holder)
    (denominated_in ts a) (λ t. leads-more (runs ts (suc n)) (runs ts n) (runs-fewer ts n) t.holder) e

-- a chain to where another begins makes that one longer by a step at least
chain-then-runs : (ts : List Ticket) (n m : ℕ) (a b : NameBytes) → chain ts (suc n) a b ≡ true → runs ts m b ≡ true
    → runs ts (suc m) a ≡ true
unfolding chain runs
chain-then-runs ts zero m a b e r =
    any-more (λ (t : Ticket). leads_on (λ c. bytes_eq c b) t.holder) (λ (t : Ticket). leads_on (runs ts m) t.holder)
    (denominated_in ts a)
    (λ t. leads-more (λ c. bytes_eq c b) (runs ts m)
    (λ c same. subst (λ x. runs ts m x ≡ true) (sym (same_name c b same)) r) t.holder) e
chain-then-runs ts (suc n) m a b e r =
    any-more (λ (t : Ticket). leads_on (λ c. chain ts (suc n) c b) t.holder)
    (λ (t : Ticket). leads_on (runs ts m) t.holder) (denominated_in ts a)
    (λ t. leads-more (λ c. chain ts (suc n) c b) (runs ts m)
    (λ c longer. runs-fewer ts m c (chain-then-runs ts n m c b longer r)) t.holder) e

-- if a currency backs itself, chains of each length begin at it
cycle-runs : (ts : List Ticket) (n m : ℕ) (c : NameBytes) → chain ts (suc n) c c ≡ true → runs ts m c ≡ true
unfolding runs
cycle-runs ts n zero c e = refl
cycle-runs ts n (suc m) c e = chain-then-runs ts n m c c e (cycle-runs ts n m c e)

-- nothing leads to `base`
no-base : (g : Graph) → IsShallow g → (n : ℕ) (a : NameBytes) → chain g.tickets (suc n) a base ≡ false
unfolding chain denominated_in
no-base g ok zero a =
    none_any (λ (t : Ticket). leads_on (λ c. bytes_eq c base) t.holder) (denominated_in g.tickets a)
    (each_map _ (λ (t : Ticket). leads_on (λ c. bytes_eq c base) t.holder ≡ false) (λ t e. last t.holder e.0)
    (denominated_in g.tickets a)
    (Each-filter (λ (t : Ticket). holder_is_currency base t.holder ≡ false)
    (λ (t : Ticket). bytes_eq a t.denomination) g.tickets ok.unbacked))
  where
    last : (h : Holder) → holder_is_currency base h ≡ false → leads_on (λ c. bytes_eq c base) h ≡ false
    last Nobody e = refl
    last (Currency c) e = name_sym c base ∙ e
    last (Flow f) e = refl
no-base g ok (suc n) a =
    none_any (λ (t : Ticket). leads_on (λ c. chain g.tickets (suc n) c base) t.holder) (denominated_in g.tickets a)
    (every (denominated_in g.tickets a) (no-base g ok n))
  where
    none : (h : Holder) → ((c : NameBytes) → chain g.tickets (suc n) c base ≡ false)
        → leads_on (λ c. chain g.tickets (suc n) c base) h ≡ false
    none Nobody e = refl
    none (Currency c) e = e c
    none (Flow f) e = refl

    every : (ts : List Ticket) → ((c : NameBytes) → chain g.tickets (suc n) c base ≡ false)
        → Each (λ (t : Ticket). leads_on (λ c. chain g.tickets (suc n) c base) t.holder ≡ false) ts
    every ts e = Each-all _ ts (λ (t : Ticket). none t.holder e)

pub acyclic : (g : Graph) → IsShallow g → IsAcyclic g
acyclic g ok n c = by (chain g.tickets (suc n) c c) (bytes_eq c base) refl refl
  where
    by : (r b : Bool) → chain g.tickets (suc n) c c ≡ r → bytes_eq c base ≡ b → chain g.tickets (suc n) c c ≡ false
    by false b e f = e
    by true true e f =
        absurd (true≢false (sym e ∙ ap (chain g.tickets (suc n) c) (same_name c base f) ∙ no-base g ok n c))
    by true false e f =
        absurd (true≢false (sym (cycle-runs g.tickets n 8 c e) ∙ runs-none g.tickets 8 c (λ b. ok.short c b f)))
