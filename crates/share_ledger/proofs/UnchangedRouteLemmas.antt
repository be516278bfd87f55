-- Changes that leave the routes of the tickets.
use Rattle.std.proofs.Common.{◌≡◌, ◌≤◌, ◌+◌, ℕ, suc, Bool, true, false, not, cond, List, [], ◌∷◌, ◌++◌, take, find}
use Rattle.std.proofs.Common.{None, Some, length, nat_eq, is_some, refl, sym, ap, ◌∙◌, arith, subst, map}
use Rattle.std.proofs.Common.{◌<◌, ◌||◌, zero, get_or, position, sum_by}
use Rattle.std.specs.List.{list_any}
use Rattle.std.specs.Set.{remove_key}
use Rattle.std.proofs.lemmas.List.{append-nil}
use Rattle.std.proofs.lemmas.List.Sums.{sum_by-cons}
use Rattle.std.proofs.lemmas.Bool.Decides.{nat_tests}
use Rattle.std.proofs.lemmas.Bool.{eqb-true}
use Rattle.share_base.specs.declared.refusal.Refusal.TheVariants.{NoTicket, Funding}
use Rattle.share_model.specs.declared.funding.Holder.{Holder}
use Rattle.share_model.specs.declared.funding.Holder.TheVariants.{Nobody, Currency, Flow}
use Rattle.share_model.specs.declared.funding.Ticket.{Ticket}
use Rattle.share_model.specs.declared.funding.OpenFlow.{OpenFlow}
use Rattle.share_model.specs.funding.Graph.{NameBytes, Graph, tickets}
use Rattle.share_model.specs.funding.Changes.{is_numbered, ticket_of, has_holder, has_found_holder, is_open_as}
use Rattle.share_model.specs.funding.Changes.{with_activity, make_currency, make_ticket, made_ticket}
use Rattle.share_model.specs.funding.Changes.{remove_ticket_refusal, remove_ticket, add_flow, set_active}
use Rattle.share_model.specs.funding.Changes.{with_amount, amend}
use Rattle.share_model.specs.lists.Change.{change_first}
use Rattle.share_model.specs.lists.Each.{Each}
use Rattle.share_model.specs.funding.WellFormed.{names_of, times, times_open, IsHolderKnown, IsWellFormed}
use Rattle.share_model.proofs.lemmas.lists.SumLemmas.{name_sym}
use Rattle.share_model.proofs.lemmas.funding.RefusalLemmas.{not-refused}
use Rattle.share_model.proofs.lemmas.funding.HolderLemmas.{IsHolderAlike, alike-same, tickets-alike}
use Rattle.share_ledger.specs.Places.{place}
use Rattle.share_ledger.specs.Routes.{flow_place, holder_place, route_of, is_kind, routes_of}
use Rattle.share_ledger.specs.declared.valuation.Valuation.{Valuation}
use Rattle.share_ledger.specs.Valuations.{IsReady, activity_of}
use Rattle.share_ledger.specs.Arrays.{flags_of}
use Rattle.share_ledger.specs.FundingTickets.{backs_of, funds_of}
use Rattle.share_ledger.specs.Cache.{IsCurrent}
use Rattle.share_ledger.proofs.BaseFundingLemmas.{relit, activity-turned}
use Rattle.share_ledger.proofs.FirstItemLemmas.{position-first, flow-first}
use Rattle.share_ledger.proofs.FundingSumLemmas.{first-below}
use Rattle.share_ledger.proofs.FundingFillLemmas.{activity-beyond}
use Rattle.share_ledger.proofs.FlowTicketLemmas.{tickets_of_all-left, tickets_of_all-opened}
use Rattle.share_ledger.proofs.PlaceLemmas.{IsPlaced, placed}
use Rattle.share_ledger.proofs.RouteListLemmas.{routes-cons, routes-append}

-- the values that are kept of a graph fit another with the same routes and the same tickets of the same flows
pub kept-left : (valuation : Valuation) (tickets_of_all : List ℕ) (g h : Graph)
    → ((b : Bool) → routes_of g b g.tickets ≡ routes_of h b h.tickets) → g.flows ≡ h.flows
    → ((f : ℕ) → tickets g f ≡ tickets h f) → IsCurrent valuation tickets_of_all g
    → IsCurrent valuation tickets_of_all h
kept-left valuation tickets_of_all g h routes flows same kept = grind (arith, nat_tests, tickets_of_all-left, relit)

-- routes of the same tickets
pub routes-same : (g h : Graph) (b : Bool) (P : Ticket → Type 0) (ts : List Ticket) → Each P ts
    → ((t : Ticket) → P t → route_of g t ≡ route_of h t) → routes_of g b ts ≡ routes_of h b ts
unfolding routes_of
routes-same g h b P [] each same = refl
routes-same g h b P (t ∷ ts) each same = grind (arith, nat_tests, routes-cons, routes-same g h b P ts each.1 same)

pub route-same : (g h : Graph) (t : Ticket) → place (names_of g) t.denomination ≡ place (names_of h) t.denomination
    → holder_place g t.holder ≡ holder_place h t.holder → route_of g t ≡ route_of h t
route-same g h t from to = grind (arith, nat_tests)

-- a name keeps its place if others are put after it
place-append : (c : NameBytes) (cs ds : List NameBytes) → 1 ≤ times c cs → place cs c ≡ place (cs ++ ds) c
unfolding place
place-append c [] ds known = absurd (omega arith)
place-append c (x ∷ cs) ds known = grind (arith, nat_tests, sum_by-cons, name_sym, place-append c cs ds)

flow-place-append : (f : ℕ) (es ds : List (NameBytes × OpenFlow)) → 1 ≤ times_open f es
    → flow_place es f ≡ flow_place (es ++ ds) f
unfolding flow_place
flow-place-append f [] ds known = absurd (omega arith)
flow-place-append f (e ∷ es) ds known = grind (arith, nat_tests, sum_by-cons, flow-place-append f es ds)

flow-place-changed : (f : ℕ) (a : Bool) (k : ℕ) (es : List (NameBytes × OpenFlow))
    → flow_place es k ≡ flow_place (with_activity f a es) k
unfolding flow_place change_first
flow-place-changed f a k [] = refl
flow-place-changed f a k (e ∷ es) = grind (arith, nat_tests, flow-place-changed f a k es)

-- Commands
pub routes-make_currency : (g : Graph) → IsWellFormed g → (c : NameBytes) (b : Bool)
    → routes_of g b g.tickets ≡ routes_of (make_currency g c) b g.tickets
routes-make_currency g ok c b =
    routes-same g (make_currency g c) b (IsPlaced g) g.tickets (placed g ok)
    (λ t at. route-same g (make_currency g c) t
    (place-append t.denomination (names_of g) (c ∷ []) at.denomination_known) (spot t.holder at.holder_known))
  where
    spot : (h : Holder) → IsHolderKnown g h → holder_place g h ≡ holder_place (make_currency g c) h
    spot Nobody known = refl
    spot (Currency d) known = place-append d (names_of g) (c ∷ []) known
    spot (Flow f) known = refl

pub routes-add_flow : (g : Graph) → IsWellFormed g → (name : NameBytes) (b : Bool)
    → routes_of g b g.tickets ≡ routes_of (add_flow g name) b g.tickets
routes-add_flow g ok name b = grind (arith, nat_tests, routes-same, IsPlaced, placed, route-same, flow-place-append)

pub routes-set_active : (g : Graph) → IsWellFormed g → (f : ℕ) (a b : Bool)
    → routes_of g b g.tickets ≡ routes_of (set_active g f a) b g.tickets
routes-set_active g ok f a b = grind (arith, nat_tests, routes-same, IsPlaced, placed, route-same, flow-place-changed)

pub routes-make_ticket : (g : Graph) (amount : ℕ) (c : NameBytes) (b : Bool)
    → routes_of g b g.tickets ≡ routes_of (make_ticket g amount c) b (make_ticket g amount c).tickets
unfolding routes_of
routes-make_ticket g amount c b =
    sym (append-nil (routes_of g b g.tickets)) ∙ sym (routes-append g b g.tickets (made_ticket g amount c))

pub routes-remove_ticket : (g : Graph) (n : ℕ) → remove_ticket_refusal g n ≡ None → (b : Bool)
    → routes_of g b g.tickets ≡ routes_of (remove_ticket g n) b (remove_ticket g n).tickets
unfolding routes_of
routes-remove_ticket g n none b =
    let one = not-refused (not (is_some (ticket_of g n))) NoTicket _ none in
    let two = not-refused (has_found_holder (ticket_of g n)) Funding _ one.1 in
    removed (is_numbered n) g.tickets two.0
  where
    unheld : (h : Holder) → has_holder h ≡ false → is_kind b h ≡ false
    unheld Nobody e = refl
    unheld (Currency d) e = absurd cc
    unheld (Flow f) e = absurd cc

    removed : (p : Ticket → Bool) (ts : List Ticket) → has_found_holder (find p ts) ≡ false
        → routes_of g b ts ≡ routes_of g b (remove_key p ts)
    removed p [] e = refl
    removed p (t ∷ ts) e = by (p t) e (removed p ts)
      where
        by : (k : Bool) → has_found_holder (cond k (Some t) (find p ts)) ≡ false
            → (has_found_holder (find p ts) ≡ false → routes_of g b ts ≡ routes_of g b (remove_key p ts))
            → routes_of g b (t ∷ ts) ≡ routes_of g b (cond k ts (t ∷ remove_key p ts))
        by true e rest =
            routes-cons g b t ts
            ∙ ap (λ k. cond k (route_of g t ∷ []) [] ++ routes_of g b ts) (unheld t.holder e)
        by false e rest =
            routes-cons g b t ts ∙ ap (λ rs. cond (is_kind b t.holder) (route_of g t ∷ []) [] ++ rs) (rest e)
            ∙ sym (routes-cons g b t (remove_key p ts))

-- A ticket without a holder that gets another amount
pub routes-amend : (g : Graph) (n amount : ℕ) → has_found_holder (ticket_of g n) ≡ false → (b : Bool)
    → routes_of g b g.tickets ≡ routes_of (amend g n amount) b (amend g n amount).tickets
unfolding routes_of change_first
routes-amend g n amount unheld b = amended (is_numbered n) g.tickets unheld
  where
    none : (h : Holder) → has_holder h ≡ false → is_kind b h ≡ false
    none Nobody e = refl
    none (Currency d) e = absurd cc
    none (Flow f) e = absurd cc

    amended : (p : Ticket → Bool) (ts : List Ticket) → has_found_holder (find p ts) ≡ false
        → routes_of g b ts ≡ routes_of g b (change_first p (with_amount amount) ts)
    amended p [] e = refl
    amended p (t ∷ ts) e = by (p t) e (amended p ts)
      where
        by : (k : Bool) → has_found_holder (cond k (Some t) (find p ts)) ≡ false
            → (has_found_holder (find p ts) ≡ false
            → routes_of g b ts ≡ routes_of g b (change_first p (with_amount amount) ts))
            → routes_of g b (t ∷ ts)
            ≡ routes_of g b (cond k (with_amount amount t ∷ ts) (t ∷ change_first p (with_amount amount) ts))
        by true e rest =
            let off = none t.holder e in
            routes-cons g b t ts ∙ ap (λ k. cond k (route_of g t ∷ []) [] ++ routes_of g b ts) off
            ∙ sym (ap (λ k. cond k (route_of g (with_amount amount t) ∷ []) [] ++ routes_of g b ts) off)
            ∙ sym (routes-cons g b (with_amount amount t) ts)
        by false e rest =
            routes-cons g b t ts ∙ ap (λ rs. cond (is_kind b t.holder) (route_of g t ∷ []) [] ++ rs) (rest e)
            ∙ sym (routes-cons g b t (change_first p (with_amount amount) ts))

alike-amended : (p : Ticket → Bool) (amount : ℕ) (ts : List Ticket) → has_found_holder (find p ts) ≡ false
    → IsHolderAlike ts (change_first p (with_amount amount) ts)
unfolding change_first
alike-amended p amount [] e = alike-same []
alike-amended p amount (t ∷ ts) e = by (p t) e (alike-amended p amount ts)
  where
    by : (k : Bool) → has_found_holder (cond k (Some t) (find p ts)) ≡ false
        → (has_found_holder (find p ts) ≡ false → IsHolderAlike ts (change_first p (with_amount amount) ts))
        → IsHolderAlike (t ∷ ts) (cond k (with_amount amount t ∷ ts) (t ∷ change_first p (with_amount amount) ts))
    by true e rest = record {
      any = λ q none. ap (λ b. b || list_any q ts) (none t e ∙ sym (none (with_amount amount t) e));
      sum = λ w none.
          sum_by-cons w t ts ∙ ap (λ m. m + sum_by w ts) (none t e ∙ sym (none (with_amount amount t) e))
          ∙ sym (sum_by-cons w (with_amount amount t) ts);
    }
    by false e rest = record {
      any = λ q none. ap (λ b. q t || b) ((rest e).any q none);
      sum = λ w none.
          sum_by-cons w t ts ∙ ap (λ m. w t + m) ((rest e).sum w none)
          ∙ sym (sum_by-cons w t (change_first p (with_amount amount) ts));
    }

pub well_formed-amended : (valuation : Valuation) (tickets_of_all : List ℕ) (g h : Graph) (n amount : ℕ)
    → h ≡ amend g n amount
    → has_found_holder (ticket_of g n) ≡ false → IsCurrent valuation tickets_of_all g
    → IsCurrent valuation tickets_of_all h
well_formed-amended valuation tickets_of_all g h n amount e unheld kept =
    subst (IsCurrent valuation tickets_of_all) (sym e)
    (kept-left valuation tickets_of_all g (amend g n amount) (routes-amend g n amount unheld) refl
    (tickets-alike g (amend g n amount) (alike-amended (is_numbered n) amount g.tickets unheld) (λ f. refl)) kept)

-- one more flow is open, and not active
activity-opened : (es : List (NameBytes × OpenFlow)) (name : NameBytes) (f : ℕ) (k : ℕ)
    → get_or (map (λ (e : NameBytes × OpenFlow). e.1.active) es) k false
    ≡ get_or (map (λ (e : NameBytes × OpenFlow). e.1.active) (es ++ (name, record { number = f; active = false }) ∷ []))
    k false
activity-opened [] name f zero = refl
activity-opened [] name f (suc k) = refl
activity-opened (e ∷ es) name f zero = refl
activity-opened (e ∷ es) name f (suc k) = activity-opened es name f k

pub well_formed-opened : (valuation : Valuation) (before after : List ℕ) (g : Graph) (name : NameBytes) (n : ℕ)
    → IsWellFormed g → n ≡ length g.flows
    → ((k : ℕ) → get_or after k 0 ≡ cond (nat_eq n k) 0 (get_or before k 0))
    → take (n + 1) after ≡ take n before ++ 0 ∷ [] → IsCurrent valuation before g
    → IsCurrent valuation after (add_flow g name)
well_formed-opened valuation before after g name n ok at wrote more kept = record {
  of_flows = tickets_of_all-opened before after g name n ok at more kept.of_flows;
  valuation_ready = relit valuation after (backs_of (add_flow g name)) (funds_of (add_flow g name)) (activity_of g)
      (activity_of (add_flow g name))
      (subst (λ rs. IsReady valuation after (backs_of (add_flow g name)) rs (activity_of g))
      (routes-add_flow g ok name false)
      (subst (λ rs. IsReady valuation after rs (funds_of g) (activity_of g)) (routes-add_flow g ok name true)
      (opened (kept.valuation_ready))))
      (activity-opened g.flows name g.next_flow);
}
  where
    opened : IsReady valuation before (backs_of g) (funds_of g) (activity_of g)
        → IsReady valuation after (backs_of g) (funds_of g) (activity_of g)
    opened ready = grind (arith, nat_tests, activity-beyond, eqb-true)

-- A flow that becomes active or idle leaves the routes
module _ (g : Graph) (ok : IsWellFormed g) (valuation : Valuation) (tickets_of_all : List ℕ) (f : ℕ) (a : Bool) (i : ℕ)
    (found : position (λ (o : OpenFlow). nat_eq f o.number) (map (λ (e : NameBytes × OpenFlow). e.1) g.flows) ≡ Some i)
  where
    pub turned-below : i < 64
    turned-below =
        let inside = first-below (is_open_as f) g.flows i (flow-first f g.flows i (position-first _ _ i found)) in
        let few = ok.few_flows in omega arith

    pub turned-ready : IsReady valuation tickets_of_all (backs_of g) (funds_of g) (activity_of g)
        → IsReady valuation tickets_of_all (backs_of (set_active g f a)) (funds_of (set_active g f a))
        (flags_of valuation.active.value)
    turned-ready ready = grind (arith, nat_tests, relit, routes-set_active)

    pub turned-activity : IsReady valuation tickets_of_all (backs_of g) (funds_of g) (activity_of g) → (k : ℕ)
        → activity_of (set_active g f a) k ≡ cond (nat_eq i k) a (flags_of valuation.active.value k)
    turned-activity ready k =
        activity-turned f a g.flows i k (flow-first f g.flows i (position-first _ _ i found))
        ∙ ap (cond (nat_eq i k) a) (sym (ready.begun.active_is k))
