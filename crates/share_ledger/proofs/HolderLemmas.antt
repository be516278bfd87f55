-- A ticket that gets a holder is one route more, one that loses it one route fewer.
use Rattle.std.proofs.Common.{◌≡◌, ◌+◌, ℕ, Bool, true, false, cond, List, [], ◌∷◌, find}
use Rattle.std.proofs.Common.{None, Some, Option, option_map, not}
use Rattle.std.proofs.Common.{is_some, sum_by, refl, sym, ap, subst, ◌∙◌}
use Rattle.std.proofs.Common.{arith, true≢false}
use Rattle.std.proofs.lemmas.List.Sums.{sum_by-cons}
use Rattle.std.proofs.lemmas.Option.{same_Some}
use Rattle.share_model.specs.declared.funding.Holder.{Holder}
use Rattle.share_model.specs.declared.funding.Holder.TheVariants.{Nobody, Currency, Flow}
use Rattle.share_model.specs.declared.funding.Ticket.{Ticket}
use Rattle.share_model.specs.funding.Graph.{NameBytes, Graph}
use Rattle.share_model.proofs.lemmas.funding.RefusalLemmas.{not-refused}
use Rattle.share_model.specs.funding.Changes.{fund_currency_refusal, fund_flow_refusal}
use Rattle.share_model.specs.funding.Changes.{unfund_refusal}
use Rattle.share_model.specs.funding.Changes.{ticket_of, is_numbered, has_holder, with_its_holder, with_holder}
use Rattle.share_model.specs.funding.Changes.{has_found_holder}
use Rattle.share_model.specs.funding.Changes.{with_amount, amend}
use Rattle.share_model.proofs.lemmas.lists.FirstItemLemmas.{find-change_first}
use Rattle.share_model.specs.lists.Change.{change_first}
use Rattle.share_ledger.specs.declared.valuation.Valuation.{Valuation}
use Rattle.share_ledger.specs.declared.routes.Route.{Route}
use Rattle.share_ledger.specs.Valuations.{activity_of, GrowsBy, ComesToFund, CeasesToFund, GetsAmount, HasInputs}
use Rattle.share_ledger.specs.Routes.{amended, is_kind, route_of, routes_of, IsRouted}
use Rattle.share_ledger.specs.FundingTickets.{backs_of}
use Rattle.share_ledger.specs.FundingTickets.{funds_of}
use Rattle.share_ledger.proofs.RouteWorthLemmas.{sum-routes}
use Rattle.std.proofs.lemmas.Bool.Decides.{nat_tests}

-- the sum over tickets of which the first of a kind is changed
pub sum-changed : (G : Ticket → ℕ) (p : Ticket → Bool) (change : Ticket → Ticket) (ts : List Ticket) (t : Ticket)
    → find p ts ≡ Some t → sum_by G (change_first p change ts) + G t ≡ sum_by G ts + G (change t)
unfolding change_first
sum-changed G p change [] t found = absurd cc
sum-changed G p change (x ∷ ts) t found =
    grind (arith, nat_tests, same_Some, sum_by-cons, sum-changed G p change ts t)

-- the amount of a ticket among the routes of a kind
part : Graph → Bool → (Route → ℕ) → Ticket → ℕ
part g b F t = cond (is_kind b t.holder) (F (route_of g t)) 0

-- the routes of a kind before and after a ticket's holder is changed
pub routes-changed : (g : Graph) (n : ℕ) (h : Holder) (t : Ticket) → ticket_of g n ≡ Some t → (b : Bool) (F : Route → ℕ)
    → sum_by F (routes_of (record g { tickets = with_holder n h g.tickets }) b (with_holder n h g.tickets))
    + cond (is_kind b t.holder) (F (route_of g t)) 0
    ≡ sum_by F (routes_of g b g.tickets) + cond (is_kind b h) (F (route_of g (with_its_holder h t))) 0
unfolding part
routes-changed g n h t found b F =
    let after = sum-routes (record g { tickets = with_holder n h g.tickets }) F b in
    let before = sum-routes g F b in
    let changed = sum-changed (part g b F) (is_numbered n) (with_its_holder h) g.tickets t found in
    omega (arith, after, before, changed)

-- A ticket that begins or ceases to fund, among the routes
module _ (g : Graph) (n : ℕ) where
  -- a ticket without a holder is no route
  unheld-kind : (h : Holder) (b : Bool) → has_holder h ≡ false → is_kind b h ≡ false
  unheld-kind Nobody b e = refl
  unheld-kind (Currency c) b e = absurd (true≢false e)
  unheld-kind (Flow f) b e = absurd (true≢false e)

  pub funded-grows : (h : Holder) (t u : Ticket) (b k : Bool) → ticket_of g n ≡ Some t → has_holder t.holder ≡ false
      → ticket_of (record g { tickets = with_holder n h g.tickets }) n ≡ Some u → is_kind b h ≡ k
      → GrowsBy k (routes_of g b g.tickets)
      (routes_of (record g { tickets = with_holder n h g.tickets }) b (with_holder n h g.tickets)) (route_of g u)
  funded-grows h t u b k found unheld after kind F =
      let changed = routes-changed g n h t found b F in
      let none = ap {B = ℕ} (λ x. cond x (F (route_of g t)) 0) (unheld-kind t.holder b unheld) in
      let same : with_its_holder h t ≡ u =
      same_Some (with_its_holder h t) u
      (sym (ap (option_map (with_its_holder h)) found) ∙ sym (find-change_first (is_numbered n) (with_its_holder h)
      (λ x e. e) g.tickets)
      ∙ after) in
      let more = ap {B = ℕ} (λ x. cond x (F (route_of g (with_its_holder h t))) 0) kind in
      let route = ap {B = ℕ} (λ (x : Ticket). cond k (F (route_of g x)) 0) same in
      omega (arith, changed, none, more, route)

  pub unfunded-grows : (t : Ticket) (b k : Bool) → ticket_of g n ≡ Some t → is_kind b t.holder ≡ k
      → GrowsBy k (routes_of (record g { tickets = with_holder n Nobody g.tickets }) b
      (with_holder n Nobody g.tickets)) (routes_of g b g.tickets) (route_of g t)
  unfunded-grows t b k found kind F = grind (arith, nat_tests, routes-changed)

  -- and one that gets another amount comes to those that are left without it
  pub amended-grows : (amount : ℕ) (t : Ticket) (b k : Bool) → ticket_of g n ≡ Some t → is_kind b t.holder ≡ k
      → GrowsBy k (routes_of (record g { tickets = with_holder n Nobody g.tickets }) b
      (with_holder n Nobody g.tickets)) (routes_of (amend g n amount) b (amend g n amount).tickets)
      (amended amount (route_of g t))
  unfolding part
  amended-grows amount t b k found kind F =
      let after = sum-routes (amend g n amount) F b in
      let before = sum-routes g F b in
      let changed = sum-changed (part g b F) (is_numbered n) (with_amount amount) g.tickets t found in
      let fewer = unfunded-grows t b k found kind F in
      let old = ap {B = ℕ} (λ x. cond x (F (route_of g t)) 0) kind in
      let new = ap {B = ℕ} (λ x. cond x (F (amended amount (route_of g t))) 0) kind in
      omega (arith, after, before, changed, fewer, old, new)

-- a route is either of the backing or of what funds flows
other-kind : (h : Holder) (b : Bool) → has_holder h ≡ true → b ≡ is_kind true h → is_kind false h ≡ not b
other-kind Nobody b held kind = absurd (true≢false (sym held))
other-kind (Currency c) b held kind = ap not (sym kind)
other-kind (Flow f) b held kind = ap not (sym kind)

-- a ticket that is there and has no holder
abbrev pub IsFree : Graph → ℕ → Type 0
IsFree g n = (not (is_some (ticket_of g n)) ≡ false) × (has_found_holder (ticket_of g n) ≡ false)

pub comes-to-fund : (g h : Graph) (n : ℕ) (o : Holder) (valuation : Valuation) (r : Route) (b : Bool)
    → h ≡ record g { tickets = with_holder n o g.tickets } → IsFree g n
    → HasInputs valuation (backs_of g) (funds_of g) (activity_of g) → IsRouted h n r b → ComesToFund valuation h r b
comes-to-fund g h n o valuation r b e free begun routed =
    subst (λ h. IsRouted h n r b → ComesToFund valuation h r b) (sym e) (λ found. by found (ticket_of g n) refl) routed
  where
    by : IsRouted (record g { tickets = with_holder n o g.tickets }) n r b → (w : Option Ticket) → ticket_of g n ≡ w
        → ComesToFund valuation (record g { tickets = with_holder n o g.tickets }) r b
    by found None q = absurd (true≢false (sym (ap (λ w. not (is_some w)) q) ∙ free.0))
    by found (Some t) q =
        let u = found.0 in
        let unheld : has_holder t.holder ≡ false = sym (ap has_found_holder q) ∙ free.1 in
        let same : with_its_holder o t ≡ u =
        same_Some (with_its_holder o t) u
        (sym (ap (option_map (with_its_holder o)) q)
        ∙ sym (find-change_first (is_numbered n) (with_its_holder o) (λ x e. e) g.tickets)
        ∙ found.1.0) in
        let kind : is_kind true o ≡ b = ap (λ (x : Ticket). is_kind true x.holder) same ∙ sym found.1.3 in
        let other : is_kind false o ≡ not b =
        ap (λ (x : Ticket). is_kind false x.holder) same ∙ other-kind u.holder b found.1.2 found.1.3 in (
          backs_of g,
          (
            funds_of g,
            (
              begun,
              subst (λ q. GrowsBy b (backs_of g) (backs_of (record g { tickets = with_holder n o g.tickets })) q)
                  (sym found.1.1)
                  (funded-grows g n o t u true b q unheld found.1.0 kind),
              subst (λ q. GrowsBy (not b) (funds_of g) (funds_of (record g { tickets = with_holder n o g.tickets })) q)
                  (sym found.1.1) (funded-grows g n o t u false (not b) q unheld found.1.0 other),
            ),
          ),
        )

pub ceases-to-fund : (g h : Graph) (n : ℕ) (valuation : Valuation) (r : Route) (b : Bool)
    → h ≡ record g { tickets = with_holder n Nobody g.tickets }
    → HasInputs valuation (backs_of g) (funds_of g) (activity_of g) → IsRouted g n r b → CeasesToFund valuation h r b
ceases-to-fund g h n valuation r b e begun found =
    subst (λ h. CeasesToFund valuation h r b) (sym e)
    (let t = found.0 in (
      backs_of g,
      (
        funds_of g,
        (
          begun,
          subst (λ q. GrowsBy b (backs_of (record g { tickets = with_holder n Nobody g.tickets })) (backs_of g) q)
              (sym found.1.1) (unfunded-grows g n t true b found.1.0 (sym found.1.3)),
          subst (λ q. GrowsBy (not b) (funds_of (record g { tickets = with_holder n Nobody g.tickets })) (funds_of g) q)
              (sym found.1.1) (unfunded-grows g n t false (not b) found.1.0
              (other-kind t.holder b found.1.2 found.1.3)),
        ),
      ),
    ))

pub gets-amount : (g h : Graph) (n amount : ℕ) (valuation : Valuation) (r : Route) (b : Bool) → h ≡ amend g n amount
    → HasInputs valuation (backs_of g) (funds_of g) (activity_of g) → IsRouted g n r b
    → GetsAmount valuation h r amount b
gets-amount g h n amount valuation r b e begun found =
    let t = found.0 in
    let u = record g { tickets = with_holder n Nobody g.tickets } in
    let after = amend g n amount in
    let kind = sym found.1.3 in
    let other = other-kind t.holder b found.1.2 found.1.3 in
    subst (λ h. GetsAmount valuation h r amount b) (sym e)
    (subst (λ q. GetsAmount valuation after q amount b) (sym found.1.1) (
      backs_of g,
      (
        funds_of g,
        (
          backs_of u,
          (
            funds_of u,
            (
              begun,
              unfunded-grows g n t true b found.1.0 kind,
              unfunded-grows g n t false (not b) found.1.0 other,
              amended-grows g n amount t true b found.1.0 kind,
              amended-grows g n amount t false (not b) found.1.0 other,
            ),
          ),
        ),
      ),
    ))

-- a ticket that may fund is there and has no holder yet
pub free-currency : (g : Graph) (n : ℕ) (c : NameBytes) → fund_currency_refusal g n c ≡ None → IsFree g n
free-currency g n c none = grind (arith, nat_tests, not-refused)

pub free-flow : (g : Graph) (n : ℕ) (f : NameBytes) → fund_flow_refusal g n f ≡ None → IsFree g n
free-flow g n f none = grind (arith, nat_tests, not-refused)

-- and has one then
pub free-held : (g h : Graph) (n : ℕ) (o : Holder) → h ≡ record g { tickets = with_holder n o g.tickets }
    → has_holder o ≡ true → IsFree g n → has_found_holder (ticket_of h n) ≡ true
free-held g h n o e held free = grind (arith, nat_tests, find-change_first)

-- a ticket that may cease to fund has a holder
pub held-ticket : (g : Graph) (n : ℕ) → unfund_refusal g n ≡ None → has_found_holder (ticket_of g n) ≡ true
held-ticket g n none = grind (arith, nat_tests, not-refused)
