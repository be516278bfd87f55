-- Flows that are opened, closed, or set active keep the invariant of the graph.
use Rattle.std.proofs.Common.{◌≡◌, ℕ, ◌+◌, ◌^◌, ◌≤◌, Bool, true, false, cond, List, [], ◌∷◌, ◌++◌, map, filter}
use Rattle.std.proofs.Common.{length, bytes_eq, nat_eq, nat_le, None, is_some}
use Rattle.std.proofs.Common.{refl, sym, ap, subst, ◌∙◌, arith, length-append}
use Rattle.std.proofs.lemmas.List.{map-append, length-map}
use Rattle.std.proofs.lemmas.List.Sums.{length-filter}
use Rattle.std.proofs.lemmas.Bool.Decides.{nat_tests}
use Rattle.share_base.specs.declared.refusal.Refusal.TheVariants.{Taken, TableFull}
use Rattle.share_model.specs.lists.Each.{Each}
use Rattle.share_model.specs.lists.Rises.{Rises}
use Rattle.share_model.proofs.lemmas.lists.FirstItemLemmas.{each_map, length-change_first, rises-append}
use Rattle.share_model.specs.declared.funding.Holder.{Holder}
use Rattle.share_model.specs.declared.funding.Holder.TheVariants.{Nobody, Currency, Flow}
use Rattle.share_model.specs.declared.funding.Ticket.{Ticket}
use Rattle.share_model.specs.declared.funding.OpenFlow.{OpenFlow}
use Rattle.share_model.specs.funding.Graph.{NameBytes, base, Graph, ticket_numbers, flow_numbers}
use Rattle.share_model.specs.funding.Graph.{holder_is_currency, holder_is_flow, backing, funding}
use Rattle.share_model.specs.funding.Changes.{with_its_holder, flow_named, add_flow_refusal, added_flow, add_flow}
use Rattle.share_model.specs.funding.Changes.{release_from}
use Rattle.share_model.specs.funding.Changes.{is_open_as, without_flow, remove_flow, active_as, set_active}
use Rattle.share_model.specs.funding.WellFormed.{names_of, times, times_open, IsHolderKnown, IsWellFormed}
use Rattle.share_model.proofs.lemmas.lists.CountLemmas.{Each-mapped, length-remove, count-remove, count-remove_same}
use Rattle.share_model.proofs.lemmas.lists.CountLemmas.{count-more}
use Rattle.share_model.proofs.lemmas.lists.CountLemmas.{count-changed, count-mapped_less, rises-remove, rises-changed}
use Rattle.share_model.proofs.lemmas.lists.CountLemmas.{rises-once}
use Rattle.share_model.proofs.lemmas.funding.RefusalLemmas.{not-refused, room, unnamed, once-named}
use Rattle.share_model.proofs.lemmas.funding.ChainLemmas.{short-less, less-release_from}

abbrev number : NameBytes × OpenFlow → ℕ
number e = e.1.number

-- the tickets that lose their holder
release_from-keeps : (P : Ticket → Type 0) (f : ℕ) (t : Ticket) → P t → P (with_its_holder Nobody t)
    → P (release_from f t)
release_from-keeps P f t e n = by (holder_is_flow f t.holder)
  where
    by : (b : Bool) → P (cond b (with_its_holder Nobody t) t)
    by true = n
    by false = e

numbers-release_from : (f : ℕ) (ts : List Ticket) → ticket_numbers (map (release_from f) ts) ≡ ticket_numbers ts
numbers-release_from f [] = refl
numbers-release_from f (t ∷ ts) =
    ap (λ ns. (release_from f t).number ∷ ns) (numbers-release_from f ts)
    ∙ ap (λ n. n ∷ ticket_numbers ts) (release_from-keeps (λ u. u.number ≡ t.number) f t refl refl)

length-release_from : (p : Holder → Bool) → p Nobody ≡ false → (f : ℕ) (ts : List Ticket)
    → length (filter (λ (t : Ticket). p t.holder) ts) ≤ 16
    → length (filter (λ (t : Ticket). p t.holder) (map (release_from f) ts)) ≤ 16
length-release_from p nobody f ts few =
    let test : Ticket → Bool = λ t. p t.holder in
    let less = count-mapped_less test (release_from f)
    (λ t. release_from-keeps (λ u. cond (p u.holder) 1 0 ≤ cond (p t.holder) 1 0) f t (omega arith) (none t)) ts in
    omega (arith, length-filter test ts, length-filter test (map (release_from f) ts))
  where
    none : (t : Ticket) → cond (p Nobody) 1 0 ≤ cond (p t.holder) 1 0
    none t = let zero = ap {B = ℕ} (λ b. cond b 1 0) nobody in omega arith

module _ (g : Graph) (ok : IsWellFormed g) where
  pub well_formed-add_flow : (f : NameBytes) → add_flow_refusal g f ≡ None → IsWellFormed (add_flow g f)
  unfolding Rises
  well_formed-add_flow f none =
      let one = not-refused (is_some (flow_named g f)) Taken _ none in
      let two = not-refused (nat_le 64 (length g.flows)) TableFull _ one.1 in
      let e : NameBytes × OpenFlow = (f, added_flow g) in
      let rises : Rises (g.next_flow + 1) (0 ∷ flow_numbers (g.flows ++ e ∷ [])) =
      subst (λ ns. Rises (g.next_flow + 1) (0 ∷ ns)) (sym (map-append number g.flows (e ∷ [])))
      (rises-append g.next_flow (0 ∷ flow_numbers g.flows) ok.numbered.flows) in
      record {
        sound = record {
          names = ok.sound.names;
          flow_names =
              once-named (λ (e : NameBytes × OpenFlow). e.0) e g.flows (unnamed f g.flows one.0) ok.sound.flow_names;
          numbers = rises-once number (g.next_flow + 1) (g.flows ++ e ∷ []) rises.2;
          known = ok.sound.known;
        };
        shallow = record { unbacked = ok.shallow.unbacked; short = ok.shallow.short };
        numbered = record { tickets = ok.numbered.tickets; flows = rises };
        uncrowded = record { currencies = ok.uncrowded.currencies; flows = ok.uncrowded.flows };
        held = each_map _ _ (λ (t : Ticket). holder t.holder) g.tickets ok.held;
        amounts = ok.amounts;
        few_tickets = ok.few_tickets;
        few_currencies = ok.few_currencies;
        few_flows = let space = room 64 (length g.flows) two.0 in omega (arith, length-append g.flows (e ∷ []));
      }
    where
      holder : (h : Holder) → IsHolderKnown g h → IsHolderKnown (add_flow g f) h
      holder Nobody e = tt
      holder (Currency c) e = e
      holder (Flow n) e =
          let more = count-more (λ (e : NameBytes × OpenFlow). nat_eq e.1.number n) g.flows (f, added_flow g) in
          omega arith

  each-release_from : (P : Ticket → Type 0) (f : ℕ) → Each P g.tickets
      → ((t : Ticket) → P t → P (with_its_holder Nobody t)) → Each P (map (release_from f) g.tickets)
  each-release_from P f each kept = Each-mapped P (release_from f) g.tickets each
      (λ t e. release_from-keeps P f t e (kept t e))

  pub well_formed-remove_flow : (f : ℕ) → IsWellFormed (remove_flow g f)
  unfolding backing funding
  well_formed-remove_flow f = record {
    sound = record {
      names = ok.sound.names;
      flow_names = λ c.
          let before = ok.sound.flow_names c in
          omega (arith, count-remove (λ (e : NameBytes × OpenFlow). bytes_eq e.0 c) (is_open_as f) g.flows);
      numbers = λ n.
          let before = ok.sound.numbers n in
          omega (arith, count-remove (λ (e : NameBytes × OpenFlow). nat_eq e.1.number n) (is_open_as f) g.flows);
      known = each-release_from (λ (t : Ticket). 1 ≤ times t.denomination (names_of g)) f ok.sound.known (λ t e. e);
    };
    shallow = record {
      unbacked =
          each-release_from (λ (t : Ticket). holder_is_currency base t.holder ≡ false) f ok.shallow.unbacked
          (λ t e. refl);
      short = short-less (map (release_from f) g.tickets) g.tickets (less-release_from f g.tickets) ok.shallow.short;
    };
    numbered = record {
      tickets =
          subst (λ ns. Rises g.next_ticket (0 ∷ ns)) (sym (numbers-release_from f g.tickets)) ok.numbered.tickets;
      flows = rises-remove number (is_open_as f) 0 g.next_flow g.flows ok.numbered.flows;
    };
    uncrowded = record {
      currencies = λ c. length-release_from (holder_is_currency c) refl f g.tickets (ok.uncrowded.currencies c);
      flows = λ n. length-release_from (holder_is_flow n) refl f g.tickets (ok.uncrowded.flows n);
    };
    held = holders g.tickets ok.held;
    amounts = each-release_from (λ (t : Ticket). (1 ≤ t.amount) × (t.amount ≤ 2 ^ 20)) f ok.amounts (λ t e. e);
    few_tickets = let few = ok.few_tickets in omega (arith, length-map g.tickets (release_from f));
    few_currencies = ok.few_currencies;
    few_flows = let few = ok.few_flows in omega (arith, length-remove (is_open_as f) g.flows);
  }
    where
      apart : (n : ℕ) → nat_eq f n ≡ false → (m : ℕ) → nat_eq f m ≡ true → nat_eq m n ≡ false
      apart n other m same = grind (arith, nat_tests)

      stay : (n : ℕ) → nat_eq f n ≡ false → times_open n (without_flow f g.flows) ≡ times_open n g.flows
      stay n other =
          count-remove_same (λ (e : NameBytes × OpenFlow). nat_eq e.1.number n) (is_open_as f) g.flows
          (λ e same. apart n other e.1.number same)

      holder : (h : Holder) → (b : Bool) → holder_is_flow f h ≡ b
          → IsHolderKnown g h → IsHolderKnown (remove_flow g f) (cond b Nobody h)
      holder h true same e = tt
      holder Nobody false same e = tt
      holder (Currency c) false same e = e
      holder (Flow n) false same e = let s = stay n same in omega arith

      at : (t : Ticket) → IsHolderKnown (remove_flow g f) (cond (holder_is_flow f t.holder) Nobody t.holder)
          → IsHolderKnown (remove_flow g f) (release_from f t).holder
      at t e = by (holder_is_flow f t.holder) e
        where
          by : (b : Bool) → IsHolderKnown (remove_flow g f) (cond b Nobody t.holder)
              → IsHolderKnown (remove_flow g f) (cond b (with_its_holder Nobody t) t).holder
          by true e = e
          by false e = e

      holders : (ts : List Ticket) → Each (λ (t : Ticket). IsHolderKnown g t.holder) ts
          → Each (λ (t : Ticket). IsHolderKnown (remove_flow g f) t.holder) (map (release_from f) ts)
      holders [] e = tt
      holders (t ∷ ts) e = (at t (holder t.holder (holder_is_flow f t.holder) refl e.0), holders ts e.1)

  pub well_formed-set_active : (f : ℕ) (b : Bool) → IsWellFormed (set_active g f b)
  well_formed-set_active f b = record {
    sound = record {
      names = ok.sound.names;
      flow_names = λ c.
          let before = ok.sound.flow_names c in
          let same =
          count-changed (λ (e : NameBytes × OpenFlow). bytes_eq e.0 c) (is_open_as f) (active_as b)
          (λ e. refl) g.flows in
          omega arith;
      numbers = λ n. let before = ok.sound.numbers n in omega (arith, stay n);
      known = ok.sound.known;
    };
    shallow = record { unbacked = ok.shallow.unbacked; short = ok.shallow.short };
    numbered = record {
      tickets = ok.numbered.tickets;
      flows =
          rises-changed number (is_open_as f) (active_as b) 0 g.next_flow g.flows (λ e. refl) ok.numbered.flows;
    };
    uncrowded = record { currencies = ok.uncrowded.currencies; flows = ok.uncrowded.flows };
    held = each_map _ _ (λ (t : Ticket). holder t.holder) g.tickets ok.held;
    amounts = ok.amounts;
    few_tickets = ok.few_tickets;
    few_currencies = ok.few_currencies;
    few_flows = let few = ok.few_flows in omega (arith, length-change_first (is_open_as f) (active_as b) g.flows);
  }
    where
      stay : (n : ℕ) → times_open n (set_active g f b).flows ≡ times_open n g.flows
      stay n =
          count-changed (λ (e : NameBytes × OpenFlow). nat_eq e.1.number n) (is_open_as f) (active_as b)
          (λ e. refl) g.flows

      holder : (h : Holder) → IsHolderKnown g h → IsHolderKnown (set_active g f b) h
      holder Nobody e = tt
      holder (Currency c) e = e
      holder (Flow n) e = let s = stay n in omega arith
