-- A flow is closed from which on no flow is active or has a funding ticket: what is kept stands as it is.
use Rattle.std.proofs.Common.{◌≡◌, ◌≤◌, ◌<◌, ℕ, zero, suc, Bool, true, false, cond, List, [], ◌∷◌, map, length, get_or}
use Rattle.std.proofs.Common.{position, nat_eq, nat_lt, Some, refl, sym, ap, ◌∙◌, arith}
use Rattle.std.specs.Set.{remove_key}
use Rattle.std.proofs.lemmas.Bool.{ltb-false, eqb-true, ltb-true}
use Rattle.std.proofs.lemmas.Bool.Decides.{nat_tests}
use Rattle.share_model.specs.declared.funding.Holder.{Holder}
use Rattle.share_model.specs.declared.funding.Holder.TheVariants.{Nobody, Currency, Flow}
use Rattle.share_model.specs.declared.funding.OpenFlow.{OpenFlow}
use Rattle.share_model.specs.declared.funding.Ticket.{Ticket}
use Rattle.share_model.specs.funding.Changes.{is_open_as, release_from, remove_flow}
use Rattle.share_model.proofs.lemmas.funding.FlowLemmas.{well_formed-remove_flow}
use Rattle.share_model.specs.funding.Graph.{NameBytes, Graph, holder_is_flow}
use Rattle.share_model.specs.funding.WellFormed.{IsWellFormed}
use Rattle.share_model.specs.lists.Each.{Each}
use Rattle.share_ledger.specs.Arrays.{flags_of}
use Rattle.share_ledger.specs.Bounds.{AreIdle}
use Rattle.share_ledger.specs.Valuations.{activity_of, IsReady}
use Rattle.share_ledger.specs.Routes.{flow_place, holder_place, is_kind, routes_of}
use Rattle.share_ledger.specs.FundingTickets.{funding_tickets_at, AreTicketed, backs_of, funds_of}
use Rattle.share_ledger.specs.Cache.{IsCurrent}
use Rattle.share_ledger.specs.declared.valuation.Valuation.{Valuation}
use Rattle.share_ledger.specs.declared.funding_tickets.FundingTicket.{FundingTicket}
use Rattle.share_ledger.proofs.BaseFundingLemmas.{relit}
use Rattle.share_ledger.proofs.FundingFillLemmas.{activity-beyond}
use Rattle.share_ledger.proofs.PlaceLemmas.{IsPlaced, placed}
use Rattle.share_ledger.proofs.FirstItemLemmas.{IsFirstAt, position-first, flow-first}
use Rattle.share_ledger.proofs.RouteListLemmas.{flow-place-first, route-within}
use Rattle.share_ledger.proofs.RemovedCurrencyLemmas.{ticket-part, funding_tickets-tell, route-tells}
use Rattle.share_ledger.proofs.UnchangedRouteLemmas.{routes-same, route-same}
use Rattle.share_ledger.proofs.EquationLemmas.{kept-ready}

-- a flow before one that is taken out keeps its place
place-left : (f k : ℕ) (es : List (NameBytes × OpenFlow)) (i : ℕ) → IsFirstAt (is_open_as f) es i → flow_place es k < i
    → flow_place es k ≡ flow_place (remove_key (is_open_as f) es) k
unfolding flow_place
place-left f k [] i first lt = absurd first
place-left f k (e ∷ es) zero first lt = absurd (omega arith)
place-left f k (e ∷ es) (suc i) first lt = grind (arith, nat_tests, place-left f k es i first.1)

-- and its activity, if none that follows is active
abbrev at : List (NameBytes × OpenFlow) → ℕ → Bool
at es k = get_or (map (λ (e : NameBytes × OpenFlow). e.1.active) es) k false

activity-left : (f : ℕ) (es : List (NameBytes × OpenFlow)) (i : ℕ) → IsFirstAt (is_open_as f) es i
    → ((k : ℕ) → i ≤ k → at es k ≡ false) → (k : ℕ) → at es k ≡ at (remove_key (is_open_as f) es) k
activity-left f [] i first idle k = absurd first
activity-left f (e ∷ es) zero first idle k =
    idle k (omega arith) ∙ sym (idle (suc k) (omega arith))
    ∙ sym (ap (λ b. at (cond b es (e ∷ remove_key (is_open_as f) es)) k) first)
activity-left f (e ∷ es) (suc i) first idle zero =
    sym (ap (λ b. at (cond b es (e ∷ remove_key (is_open_as f) es)) 0) first.0)
activity-left f (e ∷ es) (suc i) first idle (suc k) =
    activity-left f es i first.1 (λ j le. idle (suc j) (omega arith)) k
    ∙ sym (ap (λ b. at (cond b es (e ∷ remove_key (is_open_as f) es)) (suc k)) first.0)

module _ (g : Graph) (ok : IsWellFormed g) (f i : ℕ) (first : IsFirstAt (is_open_as f) g.flows i)
    (fs : List (List FundingTicket))
    (funds : AreTicketed (funds_of g) fs) (empty : (p : ℕ) → i ≤ p → p < 65 → length (funding_tickets_at fs p) ≡ 0)
  where
    abbrev before : ℕ → FundingTicket → Bool
    before p s = nat_lt p i

    funding_tickets-before : (p : ℕ) → p < 65 → Each (λ s. before p s ≡ true) (funding_tickets_at fs p)
    funding_tickets-before p lt = by (nat_lt p i) refl
      where
        all : nat_lt p i ≡ true → (xs : List FundingTicket) → Each (λ s. before p s ≡ true) xs
        all e [] = tt
        all e (x ∷ xs) = (e, all e xs)

        none : (xs : List FundingTicket) → length xs ≡ 0 → Each (λ s. before p s ≡ true) xs
        none [] e = tt
        none (x ∷ xs) e = absurd (omega arith)

        by : (b : Bool) → nat_lt p i ≡ b → Each (λ s. before p s ≡ true) (funding_tickets_at fs p)
        by true e = all e (funding_tickets_at fs p)
        by false e = none (funding_tickets_at fs p) (empty p (ltb-false p i e) lt)

    -- a ticket that funds a flow funds one before it
    abbrev IsEarly : Ticket → Type 0
    IsEarly t = is_kind false t.holder ≡ true → holder_place g t.holder < i

    early : (ts : List Ticket) → Each (IsPlaced g) ts
        → Each (λ t. (p : ℕ) → p < 65 → ticket-part g false fs funds before funding_tickets-before p t ≡ 0) ts
        → Each IsEarly ts
    early [] known none = tt
    early (t ∷ ts) known none = (
      λ kind. ltb-true (holder_place g t.holder) i
          (route-tells g false fs funds before funding_tickets-before t (route-within g ok t known.0).to_place kind
          none.0),
      early ts known.1 none.1,
    )

    other : (h : Holder) → (is_kind false h ≡ true → holder_place g h < i) → holder_is_flow f h ≡ false
    other Nobody soon = refl
    other (Currency d) soon = refl
    other (Flow k) soon = grind (arith, nat_tests, eqb-true, flow-place-first)

    none-release_from : (ts : List Ticket) → Each IsEarly ts → ts ≡ map (release_from f) ts
    none-release_from [] each = refl
    none-release_from (t ∷ ts) each = grind (arith, nat_tests, other, none-release_from ts each.1)

    spot : (h : Holder) → (is_kind false h ≡ true → holder_place g h < i)
        → holder_place g h ≡ holder_place (remove_flow g f) h
    spot Nobody soon = refl
    spot (Currency d) soon = refl
    spot (Flow k) soon = place-left f k g.flows i first (soon refl)

    pub routes-remove_flow : (b : Bool)
        → routes_of g b g.tickets ≡ routes_of (remove_flow g f) b (remove_flow g f).tickets
    routes-remove_flow b =
        let each = early g.tickets (placed g ok) (funding_tickets-tell g false fs funds before funding_tickets-before)
        in
        routes-same g (remove_flow g f) b IsEarly g.tickets each
        (λ t soon. route-same g (remove_flow g f) t refl (spot t.holder soon))
        ∙ ap (routes_of (remove_flow g f) b) (none-release_from g.tickets each)

pub well_formed-closed : (valuation : Valuation) (tickets_of_all : List ℕ) (g : Graph) (f i : ℕ) → IsWellFormed g
    → length tickets_of_all ≡ 64
    → position (λ (o : OpenFlow). nat_eq f o.number) (map (λ (e : NameBytes × OpenFlow). e.1) g.flows) ≡ Some i
    → AreIdle valuation.funding.items (flags_of valuation.active.value) i → IsCurrent valuation tickets_of_all g
    → IsCurrent valuation tickets_of_all (remove_flow g f)
well_formed-closed valuation tickets_of_all g f i ok long found idle kept =
    kept-ready h valuation tickets_of_all (well_formed-remove_flow g ok f)
    long ready
  where
    h : Graph
    h = remove_flow g f

    first : IsFirstAt (is_open_as f) g.flows i
    first = flow-first f g.flows i (position-first _ _ i found)

    still : (k : ℕ) → i ≤ k → activity_of g k ≡ false
    still k le = grind (arith, nat_tests, ltb-true, activity-beyond)

    routes : (b : Bool) → routes_of g b g.tickets ≡ routes_of h b h.tickets
    routes =
        routes-remove_flow g ok f i first valuation.funding.items
        kept.valuation_ready.begun.funding (λ p le lt. (idle p le lt).1)

    ready : IsReady valuation tickets_of_all (backs_of h) (funds_of h) (activity_of h)
    ready = grind (arith, nat_tests, relit, h, routes, activity-left, first, still)
