-- The currencies that one backs, by however many steps, and a chain that is too long with one more ticket.
use Rattle.std.proofs.Common.{◌≡◌, ◌≤◌, ◌<◌, ◌+◌, ◌∙◌, ◌&&◌, ◌||◌, ℕ, zero, suc, Bool, true, false, cond}
use Rattle.std.proofs.Common.{Some, List, bytes_eq, nat_eq, nat_lt, refl, sym, ap, subst, true≢false}
use Rattle.std.proofs.Common.{arith}
use Rattle.std.specs.List.{list_any}
use Rattle.std.proofs.Math.Bool.{or-true}
use Rattle.std.proofs.lemmas.Bool.{eq-eqb, eqb-true, lt-ltb, ltb-true}
use Rattle.std.proofs.lemmas.Bool.Decides.{nat_tests}
use Rattle.share_model.specs.declared.funding.Holder.{Holder}
use Rattle.share_model.specs.declared.funding.Holder.TheVariants.{Nobody, Currency, Flow}
use Rattle.share_model.specs.declared.funding.Ticket.{Ticket}
use Rattle.share_model.specs.funding.Changes.{is_numbered, has_holder, has_found_holder, with_its_holder, ticket_of}
use Rattle.share_model.specs.funding.Changes.{with_holder}
use Rattle.share_model.specs.funding.Changes.{found_denomination}
use Rattle.share_model.specs.funding.Graph.{NameBytes, base, Graph, holder_is_currency, denominated_in, leads_on}
use Rattle.share_model.specs.funding.Graph.{chain}
use Rattle.share_model.specs.funding.Graph.{chain_within, is_deep}
use Rattle.share_model.specs.funding.WellFormed.{names_of, times, IsHolderKnown, IsWellFormed}
use Rattle.share_model.proofs.lemmas.lists.CountLemmas.{any-filter}
use Rattle.share_model.specs.lists.Each.{Each}
use Rattle.share_model.proofs.lemmas.lists.FirstItemLemmas.{each_map, each-change_first, each-find}
use Rattle.share_model.proofs.lemmas.lists.SumLemmas.{same_name, name_refl, name_sym}
use Rattle.share_model.proofs.lemmas.funding.SettledGraphLemmas.{any-same}
use Rattle.share_model.proofs.lemmas.funding.DeepFundingLemmas.{cycle-is-backing}
use Rattle.share_ledger.specs.Chains.{AreBacked}
use Rattle.share_ledger.specs.Places.{place}
use Rattle.share_ledger.specs.Ranks.{AreRanks, AreOrdered, IsRankedBelow, is_tall}
use Rattle.share_ledger.specs.FundingTickets.{funding_tickets_at, AreTicketed, backs_of}
use Rattle.share_ledger.specs.declared.funding_tickets.FundingTicket.{FundingTicket}
use Rattle.share_ledger.proofs.ListLemmas.{any-changed, any-left}
use Rattle.share_ledger.proofs.WeightLemmas.{not-next, before-next, next-before}
use Rattle.share_ledger.proofs.PlaceLemmas.{IsPlaced, placed, place-same, past-base}
use Rattle.share_ledger.proofs.RankChainLemmas.{ranks-stand}
use Rattle.share_ledger.proofs.RouteWorthLemmas.{below}
use Rattle.share_ledger.proofs.FundingChainLemmas.{found, backs, funding_ticket-ticket, ticket-funding_ticket, backer}
use Rattle.share_ledger.proofs.FundingChainLemmas.{tall-deep}

-- the next place in an order is flagged or not, by what its funding tickets come from
module _ (ss : List (List FundingTicket)) (order : ℕ → ℕ) (o : AreOrdered ss order) (i : ℕ) (up : 0 < i) (lt : i < 65)
    (first : ℕ) (flag next : ℕ → Bool) (n : Bool)
    (set_one : (k : ℕ) → next k ≡ cond (nat_eq (order i) k) n (flag k))
    (here : n ≡ (nat_eq (order i) first
    || list_any (λ (s : FundingTicket). flag s.from) (funding_tickets_at ss (order i))))
    (before : (k : ℕ) → 0 < k → k < 65 → o.spot k < i
    → flag k ≡ (nat_eq k first || list_any (λ (s : FundingTicket). flag s.from) (funding_tickets_at ss k))) where
  left : (j : ℕ) → o.spot j < i → flag j ≡ next j
  left j l = sym (set_one j ∙ ap (λ b. cond b n (flag j)) (before-next ss order o i up lt j l))

  still : (xs : List FundingTicket) (m : ℕ) → m ≤ i
      → Each (λ (s : FundingTicket). (s.from < 65) × (o.spot s.from < m)) xs
      → list_any (λ (s : FundingTicket). flag s.from) xs ≡ list_any (λ (s : FundingTicket). next s.from) xs
  still xs m le each = grind (arith, nat_tests, any-same, each_map, left)

  pub backed-more : (k : ℕ) → 0 < k → k < 65 → o.spot k < i + 1
      → next k ≡ (nat_eq k first || list_any (λ (s : FundingTicket). next s.from) (funding_tickets_at ss k))
  backed-more k above below under = by (nat_eq (order i) k) refl
    where
      by : (b : Bool) → nat_eq (order i) k ≡ b
          → next k ≡ (nat_eq k first || list_any (λ (s : FundingTicket). next s.from) (funding_tickets_at ss k))
      by true e =
          set_one k ∙ ap (λ b. cond b n (flag k)) e ∙ here
          ∙ ap (λ b. nat_eq (order i) first || b)
          (still (funding_tickets_at ss (order i)) i (omega arith) (next-before ss order o i up lt))
          ∙ ap (λ p. nat_eq p first || list_any (λ (s : FundingTicket). next s.from) (funding_tickets_at ss p))
          (eqb-true (order i) k e)
      by false e =
          let earlier = not-next ss order o i up lt k below e under in
          set_one k ∙ ap (λ b. cond b n (flag k)) e ∙ before k above below earlier
          ∙ ap (λ b. nat_eq k first || b)
          (still (funding_tickets_at ss k) (o.spot k) (omega arith) (o.before k above below))

-- The flagged places are those of the currencies that one backs
module _ (g : Graph) (ok : IsWellFormed g) (ss : List (List FundingTicket)) (ticketed : AreTicketed (backs_of g) ss)
    (rank : ℕ → ℕ)
    (ranks : AreRanks ss rank) (c : NameBytes) (made : bytes_eq c base ≡ false) (known : 1 ≤ times c (names_of g))
    (flag : ℕ → Bool) (backed : AreBacked ss (place (names_of g) c) flag) where
  abbrev is_flagged : NameBytes → Bool
  is_flagged a = flag (place (names_of g) a)

  itself : (d : NameBytes) → chain g.tickets 0 d d ≡ true
  unfolding chain
  itself d = name_refl d

  both : (a b : Bool) → (a && b) ≡ true → (a ≡ true) × (b ≡ true)
  both true true e = (refl, refl)
  both true false e = absurd (true≢false (sym e))
  both false b e = absurd (true≢false (sym e))

  -- a flagged place leads on to flagged places
  leads-flag : (n : ℕ) (a b : NameBytes) → is_flagged a ≡ true → chain g.tickets n a b ≡ true → is_flagged b ≡ true
  unfolding chain denominated_in
  leads-flag zero a b lit e = ap is_flagged (sym (same_name a b e)) ∙ lit
  leads-flag (suc n) a b lit e =
      let one =
      found (IsPlaced g) (λ (t : Ticket). bytes_eq a t.denomination && leads_on (λ d. chain g.tickets n d b) t.holder)
      g.tickets (placed g ok)
      (sym (any-filter (λ (t : Ticket). bytes_eq a t.denomination)
      (λ (t : Ticket). leads_on (λ d. chain g.tickets n d b) t.holder) g.tickets) ∙ e) in
      let t = one.0 in
      let two = both (bytes_eq a t.denomination) (leads_on (λ d. chain g.tickets n d b) t.holder) one.1.1.0 in
      let from : is_flagged t.denomination ≡ true = ap is_flagged (sym (same_name a t.denomination two.0)) ∙ lit in
      by t one.1.0 from one.1.1.1 t.holder refl two.1 (λ d. leads-flag n d b)
    where
      by : (t : Ticket) → IsPlaced g t → is_flagged t.denomination ≡ true
          → ((h : Ticket → Bool) → h t ≡ true → list_any h g.tickets ≡ true) → (h : Holder) → t.holder ≡ h
          → leads_on (λ d. chain g.tickets n d b) h ≡ true
          → ((d : NameBytes) → is_flagged d ≡ true → chain g.tickets n d b ≡ true → is_flagged b ≡ true)
          → is_flagged b ≡ true
      by t at from there Nobody held on rest = absurd (true≢false (sym on))
      by t at from there (Flow f) held on rest = absurd (true≢false (sym on))
      by t at from there (Currency d) held on rest =
          let p = place (names_of g) d in
          let stands = subst (IsHolderKnown g) held at.holder_known in
          let lt = below g ok d stands in
          let up = past-base g d (name_sym d base ∙ sym (ap (holder_is_currency base) held) ∙ at.unbacked) in
          let ticket : backs g ss ticketed flag p t ≡ true =
          ap (λ h. leads_on (λ e. nat_eq p (place (names_of g) e)) h && is_flagged t.denomination) held
          ∙ ap (λ b. b && is_flagged t.denomination) (eq-eqb p p refl) ∙ from in
          rest d
          (backed.step p up lt
          ∙ ap (λ b. nat_eq p (place (names_of g) c) || b)
          (ticket-funding_ticket g ss ticketed flag p lt (there (backs g ss ticketed flag p) ticket))
          ∙ or-true (nat_eq p (place (names_of g) c))) on

  -- a chain goes on from a ticket to its holder
  chain-on : (t : Ticket) (e d : NameBytes) (k : ℕ) → t.holder ≡ Currency e
      → ((h : Ticket → Bool) → h t ≡ true → list_any h g.tickets ≡ true) → chain g.tickets k e d ≡ true
      → chain g.tickets (suc k) t.denomination d ≡ true
  unfolding chain denominated_in
  chain-on t e d k held there on = grind (arith, nat_tests, any-filter, name_refl)

  -- a place is flagged, and of a lower rank
  abbrev nearer : ℕ → ℕ → Bool
  nearer p q = flag q && nat_lt (rank q) (rank p)

  -- a flagged place is the one that backs, or one of a lower rank that is flagged backs it
  flag-step : (k : ℕ) (a d : NameBytes) → 1 ≤ times a (names_of g) → is_flagged a ≡ true → chain g.tickets k a d ≡ true
      → ((e : NameBytes) → 1 ≤ times e (names_of g) → rank (place (names_of g) e) < rank (place (names_of g) a)
      → is_flagged e ≡ true → chain g.tickets (suc k) e d ≡ true → (j : ℕ) × (chain g.tickets j c d ≡ true))
      → (j : ℕ) × (chain g.tickets j c d ≡ true)
  flag-step k a d there lit on rest =
      by (nat_eq p (place (names_of g) c)) refl
      (list_any (λ (s : FundingTicket). flag s.from) (funding_tickets_at ss p)) refl
      (sym (backed.step p up lt) ∙ lit)
    where
      p : ℕ
      p = place (names_of g) a

      lt : p < 65
      lt = below g ok a there

      above : (q : ℕ) → (q ≡ 0 → ⊥) → 0 < q
      above zero apart = absurd (apart refl)
      above (suc q) apart = omega arith

      up : 0 < p
      up = above p (λ e. true≢false (sym lit ∙ ap flag e ∙ backed.base))

      by : (x : Bool) → nat_eq p (place (names_of g) c) ≡ x → (y : Bool)
          → list_any (λ (s : FundingTicket). flag s.from) (funding_tickets_at ss p) ≡ y → (x || y) ≡ true
          → (j : ℕ) × (chain g.tickets j c d ≡ true)
      by true is y some e = (
        k,
        ap (λ b. chain g.tickets k b d) (sym (same_name a c (sym (place-same a c (names_of g) there) ∙ is))) ∙ on,
      )
      by false is false some e = absurd (true≢false (sym e))
      by false is true some e =
          let funding_ticket =
          found (λ (s : FundingTicket). rank s.from < rank p) (λ (s : FundingTicket). flag s.from)
          (funding_tickets_at ss p) (ranks.above p up lt)
          some in
          let near =
          funding_ticket.1.1.1 (λ (s : FundingTicket). nearer p s.from)
          (ap (λ b. b && nat_lt (rank funding_ticket.0.from) (rank p)) funding_ticket.1.1.0
          ∙ lt-ltb (rank funding_ticket.0.from) (rank p) funding_ticket.1.0) in
          let one =
          found (IsPlaced g) (backs g ss ticketed (nearer p) p) g.tickets (placed g ok)
          (funding_ticket-ticket g ss ticketed (nearer p) p lt near) in
          let t = one.0 in
          let back = backer g ss ticketed (nearer p) p t one.1.1.0 in
          let q = place (names_of g) t.denomination in
          let two = both (flag q) (nat_lt (rank q) (rank p)) back.passes in
          let same =
          same_name a back.holder
          (sym (place-same a back.holder (names_of g) there)
          ∙ ap (λ r. nat_eq r (place (names_of g) back.holder)) back.at
          ∙ eq-eqb (place (names_of g) back.holder) (place (names_of g) back.holder) refl) in
          rest t.denomination one.1.0.denomination_known (ltb-true (rank q) (rank p) two.1) two.0
          (chain-on t back.holder d k back.held one.1.1.1 (ap (λ b. chain g.tickets k b d) (sym same) ∙ on))

  -- a chain leads to what is flagged, from the one that backs
  flag-chain : (m k : ℕ) (a d : NameBytes) → 1 ≤ times a (names_of g) → rank (place (names_of g) a) ≤ m
      → is_flagged a ≡ true → chain g.tickets k a d ≡ true → (j : ℕ) × (chain g.tickets j c d ≡ true)
  flag-chain zero k a d there low lit on = flag-step k a d there lit on (λ e known less. absurd (omega arith))
  flag-chain (suc m) k a d there low lit on =
      flag-step k a d there lit on (λ e known less. flag-chain m (suc k) e d known (omega arith))

  pub backs-within : (d : NameBytes) → 1 ≤ times d (names_of g) → is_flagged d ≡ chain_within g.tickets 8 c d
  backs-within d there = by (is_flagged d) refl (chain_within g.tickets 8 c d) refl
    where
      lit : is_flagged c ≡ true
      lit = grind (arith, nat_tests, past-base, below, eq-eqb)

      by : (x : Bool) → is_flagged d ≡ x → (y : Bool) → chain_within g.tickets 8 c d ≡ y
          → is_flagged d ≡ chain_within g.tickets 8 c d
      by true e true f = e ∙ sym f
      by false e false f = e ∙ sym f
      by true e false f =
          let leads = flag-chain 8 0 d d there (ranks.low (place (names_of g) d)) e (itself d) in
          absurd (true≢false (sym ((cycle-is-backing g ok.shallow c d).1 leads) ∙ f))
      by false e true f =
          let leads = (cycle-is-backing g ok.shallow c d).0 f in
          absurd (true≢false (sym (leads-flag leads.0 c d lit leads.1) ∙ e))

-- The funding tickets and the funding of a currency by the ticket of a number
module _ (g : Graph) (ok : IsWellFormed g) (ss : List (List FundingTicket)) (ticketed : AreTicketed (backs_of g) ss)
    (rank : ℕ → ℕ)
    (ranks : AreRanks ss rank) (n : ℕ) (c : NameBytes) (t : Ticket) (made : bytes_eq c base ≡ false)
    (known : 1 ≤ times c (names_of g)) (there : ticket_of g n ≡ Some t) (from to : ℕ)
    (from_is : from ≡ place (names_of g) t.denomination) (to_is : to ≡ place (names_of g) c) where
  abbrev is_cycle : Bool
  is_cycle = chain_within g.tickets 8 c (found_denomination (ticket_of g n))

  abbrev funded : List Ticket
  funded = with_holder n (Currency c) g.tickets

  pub cycle-backs : (flag : ℕ → Bool) → AreBacked ss to flag → is_cycle ≡ flag from
  cycle-backs flag backed =
      ap (λ o. chain_within g.tickets 8 c (found_denomination o)) there
      ∙ sym
      (backs-within g ok ss ticketed rank ranks c made known flag (subst (λ p. AreBacked ss p flag) to_is backed)
      t.denomination (each-find (IsPlaced g) (is_numbered n) g.tickets t (placed g ok) there).denomination_known)
      ∙ ap flag (sym from_is)

  pub below-stands : IsRankedBelow ss from to → (is_cycle ≡ false) × (is_deep funded ≡ false)
  below-stands under =
      let high = under.0 in
      let stand =
      ranks-stand g ok ss ticketed high under.1.0 n c t there
      (subst (λ p. high p < high (place (names_of g) c)) from_is (subst (λ p. high from < high p) to_is under.1.1)) in
      (ap (λ o. chain_within g.tickets 8 c (found_denomination o)) there ∙ stand.0, stand.1)

  module _ (free : has_found_holder (ticket_of g n) ≡ false) where
    funded-placed : Each (IsPlaced g) funded
    funded-placed =
        each-change_first (IsPlaced g) (IsPlaced g) (is_numbered n) (with_its_holder (Currency c)) (λ t e. e)
        (λ t e. record {
          denomination_known = e.denomination_known;
          holder_known = known;
          unbacked = name_sym base c ∙ made;
          amount_small = e.amount_small;
        })
        g.tickets (placed g ok)

    never : (test : ℕ → Bool) (p : ℕ) (h : Holder) → t.holder ≡ h → has_holder h ≡ false
        → backs g ss ticketed test p t ≡ false
    never test p Nobody is e =
        ap (λ h. leads_on (λ d. nat_eq p (place (names_of g) d)) h && test (place (names_of g) t.denomination)) is
    never test p (Currency d) is e = absurd (true≢false e)
    never test p (Flow f) is e = absurd (true≢false e)

    -- a chain of funding tickets that is too long with one more is one of the graph in which the ticket funds
    pub tall-funded : (p : ℕ) → p < 65 → is_tall ss from to 8 p ≡ true → is_deep funded ≡ true
    tall-funded p lt tall = grind (arith, nat_tests, tall-deep, funded-placed, any-left, backs, never, any-changed)
