-- The commands on tickets keep the invariant of the graph if they are not refused.
use Rattle.std.proofs.Common.{◌≡◌, ℕ, ◌+◌, ◌^◌, ◌≤◌, Bool, true, false, not, cond, List, [], ◌∷◌, ◌++◌, filter}
use Rattle.std.proofs.Common.{length, bytes_eq, nat_le, None, is_some}
use Rattle.std.proofs.Common.{refl, sym, ap, subst, ◌∙◌, arith, length-append}
use Rattle.std.specs.Set.{remove_key}
use Rattle.std.proofs.lemmas.List.{map-append}
use Rattle.std.proofs.lemmas.List.Sums.{length-filter}
use Rattle.std.proofs.lemmas.Bool.Decides.{nat_tests}
use Rattle.std.proofs.lemmas.Bool.{eqb-true}
use Rattle.share_base.specs.declared.refusal.Refusal.TheVariants.{Range, NoCurrency, NoTicket, NoFlow, Base, Funding}
use Rattle.share_base.specs.declared.refusal.Refusal.TheVariants.{Crowded, Cycle, Deep, TableFull}
use Rattle.share_model.specs.lists.Each.{Each}
use Rattle.share_model.specs.lists.Rises.{Rises}
use Rattle.share_model.proofs.lemmas.lists.FirstItemLemmas.{each-append, each-change_first, length-change_first}
use Rattle.share_model.proofs.lemmas.lists.FirstItemLemmas.{rises-append}
use Rattle.share_model.specs.declared.funding.Holder.{Holder}
use Rattle.share_model.specs.declared.funding.Holder.TheVariants.{Nobody, Currency, Flow}
use Rattle.share_model.specs.declared.funding.Ticket.{Ticket}
use Rattle.share_model.specs.funding.Graph.{NameBytes, base, Graph, ticket_numbers, holder_is_currency}
use Rattle.share_model.specs.funding.Graph.{holder_is_flow}
use Rattle.share_model.specs.funding.Graph.{backing, funding, chain_within, is_deep}
use Rattle.share_model.specs.funding.Changes.{is_numbered, ticket_of, has_found_holder, found_denomination, is_currency}
use Rattle.share_model.specs.funding.Changes.{flow_named, flow_number, with_its_holder, with_holder, is_amount}
use Rattle.share_model.specs.funding.Changes.{make_ticket_refusal, with_amount, amend_refusal, amend}
use Rattle.share_model.specs.funding.Changes.{made_ticket, make_ticket, remove_ticket, unfund, fund_currency_refusal}
use Rattle.share_model.specs.funding.Changes.{fund_currency, fund_flow_refusal, fund_flow}
use Rattle.share_model.specs.funding.WellFormed.{names_of, times, IsHolderKnown, IsUncrowded, IsWellFormed}
use Rattle.share_model.proofs.lemmas.lists.SumLemmas.{same_name, name_sym}
use Rattle.share_model.proofs.lemmas.lists.CountLemmas.{Each-remove, length-remove, count-remove, count-more}
use Rattle.share_model.proofs.lemmas.lists.CountLemmas.{count-changed, count-changed_within}
use Rattle.share_model.proofs.lemmas.lists.CountLemmas.{rises-remove, rises-changed}
use Rattle.share_model.proofs.lemmas.funding.RefusalLemmas.{not-refused, not_false, room, stands, found-open}
use Rattle.share_model.proofs.lemmas.funding.ChainLemmas.{IsShort, short-less, less-remove, less-made, less-held}
use Rattle.share_model.proofs.lemmas.funding.ChainLemmas.{less-changed, short-from_deep}

-- The number of tickets that a holder has
length-held : (p : Holder → Bool) (n : ℕ) (h : Holder) (k : ℕ) → cond (p h) 1 0 ≤ k → (ts : List Ticket)
    → length (filter (λ (t : Ticket). p t.holder) (with_holder n h ts))
    ≤ length (filter (λ (t : Ticket). p t.holder) ts) + k
length-held p n h k few ts =
    let test : Ticket → Bool = λ t. p t.holder in
    let within = count-changed_within test (is_numbered n) (with_its_holder h) k (λ t. omega arith) ts in
    omega (arith, length-filter test ts, length-filter test (with_holder n h ts))

held-within : (p : Holder → Bool) (n : ℕ) (h : Holder) (ts : List Ticket)
    → length (filter (λ (t : Ticket). p t.holder) ts) ≤ 16
    → (p h ≡ true → length (filter (λ (t : Ticket). p t.holder) ts) + 1 ≤ 16)
    → length (filter (λ (t : Ticket). p t.holder) (with_holder n h ts)) ≤ 16
held-within p n h ts few space = by (p h) refl
  where
    by : (b : Bool) → p h ≡ b → length (filter (λ (t : Ticket). p t.holder) (with_holder n h ts)) ≤ 16
    by true e =
        let own : cond (p h) 1 0 ≤ 1 = subst (λ b. cond b 1 0 ≤ 1) (sym e) (omega arith) in
        let less = space e in
        omega (arith, length-held p n h 1 own ts)
    by false e =
        let none : cond (p h) 1 0 ≤ 0 = subst (λ b. cond b 1 0 ≤ 0) (sym e) (omega arith) in
        omega (arith, length-held p n h 0 none ts)

length-made : (p : Ticket → Bool) (t : Ticket) (ts : List Ticket) → p t ≡ false
    → length (filter p ts) ≤ 16 → length (filter p (ts ++ t ∷ [])) ≤ 16
length-made p t ts e few =
    let none = ap {B = ℕ} (λ b. cond b 1 0) e in
    omega (arith, length-filter p ts, length-filter p (ts ++ t ∷ []), count-more p ts t)

length-removed : (p test : Ticket → Bool) (ts : List Ticket)
    → length (filter p ts) ≤ 16 → length (filter p (remove_key test ts)) ≤ 16
length-removed p test ts few =
    omega (arith, length-filter p ts, length-filter p (remove_key test ts), count-remove p test ts)

in_range : (n : ℕ) → is_amount n ≡ true → (1 ≤ n) × (n ≤ 2 ^ 20)
in_range n e = (grind (arith, nat_tests), grind (arith, nat_tests))

module _ (g : Graph) (ok : IsWellFormed g) where
  -- the holder has room for one ticket more
  record HasRoom (h : Holder) : Type 0 where
    backing_room : (c : NameBytes) → holder_is_currency c h ≡ true → length (backing g.tickets c) + 1 ≤ 16
    funding_room : (f : ℕ) → holder_is_flow f h ≡ true → length (funding g.tickets f) + 1 ≤ 16

  each-held : (n : ℕ) (h : Holder) (P : Ticket → Type 0) → Each P g.tickets
      → ((t : Ticket) → P t → P (with_its_holder h t)) → Each P (with_holder n h g.tickets)
  each-held n h P each kept = each-change_first P P (is_numbered n) (with_its_holder h) (λ t e. e) kept g.tickets each

  uncrowded-held : (n : ℕ) (h : Holder) → HasRoom h → IsUncrowded (record g { tickets = with_holder n h g.tickets })
  unfolding backing funding
  uncrowded-held n h space = record {
    currencies =
        λ c. held-within (holder_is_currency c) n h g.tickets (ok.uncrowded.currencies c) (space.backing_room c);
    flows = λ f. held-within (holder_is_flow f) n h g.tickets (ok.uncrowded.flows f) (space.funding_room f);
  }

  -- a ticket gets another holder, which is there and has room
  held-kept : (n : ℕ) (h : Holder) → holder_is_currency base h ≡ false → IsHolderKnown g h → HasRoom h
      → IsShort (with_holder n h g.tickets) → IsWellFormed (record g { tickets = with_holder n h g.tickets })
  held-kept n h unbacked known space short = record {
    sound = record {
      names = ok.sound.names;
      flow_names = ok.sound.flow_names;
      numbers = ok.sound.numbers;
      known = each-held n h (λ (t : Ticket). 1 ≤ times t.denomination (names_of g)) ok.sound.known (λ t e. e);
    };
    shallow = record {
      unbacked =
          each-held n h (λ (t : Ticket). holder_is_currency base t.holder ≡ false) ok.shallow.unbacked
          (λ t e. unbacked);
      short = short;
    };
    numbered = record {
      tickets =
          rises-changed (λ (t : Ticket). t.number) (is_numbered n) (with_its_holder h) 0 g.next_ticket
          g.tickets (λ t. refl)
          ok.numbered.tickets;
      flows = ok.numbered.flows;
    };
    uncrowded = uncrowded-held n h space;
    held = each-held n h (λ (t : Ticket). IsHolderKnown g t.holder) ok.held (λ t e. known);
    amounts = each-held n h (λ (t : Ticket). (1 ≤ t.amount) × (t.amount ≤ 2 ^ 20)) ok.amounts (λ t e. e);
    few_tickets =
        let few = ok.few_tickets in omega (arith, length-change_first (is_numbered n) (with_its_holder h) g.tickets);
    few_currencies = ok.few_currencies;
    few_flows = ok.few_flows;
  }

  pub well_formed-unfund : (n : ℕ) → IsWellFormed (unfund g n)
  well_formed-unfund n =
      held-kept n Nobody refl tt (record { backing_room = λ c e. absurd cc; funding_room = λ f e. absurd cc })
      (short-less (with_holder n Nobody g.tickets) g.tickets
      (less-held n Nobody g.tickets (λ on. refl)) ok.shallow.short)

  pub well_formed-fund_flow : (n : ℕ) (f : NameBytes) → fund_flow_refusal g n f ≡ None → IsWellFormed (fund_flow g n f)
  well_formed-fund_flow n f none =
      let one = not-refused (not (is_some (ticket_of g n))) NoTicket _ none in
      let two = not-refused (not (is_some (flow_named g f))) NoFlow _ one.1 in
      let three = not-refused (has_found_holder (ticket_of g n)) Funding _ two.1 in
      let number = flow_number (flow_named g f) in
      let four = not-refused (nat_le 16 (length (funding g.tickets number))) Crowded _ three.1 in
      let space = room 16 (length (funding g.tickets number)) four.0 in
      let h : Holder = Flow number in
      held-kept n h refl (found-open f g.flows (not_false (is_some (flow_named g f)) two.0))
      (record {
        backing_room = λ c e. absurd cc;
        funding_room = λ k e. subst (λ m. length (funding g.tickets m) + 1 ≤ 16) (sym (eqb-true k number e)) space;
      })
      (short-less (with_holder n h g.tickets) g.tickets (less-held n h g.tickets (λ on. refl)) ok.shallow.short)

  pub well_formed-fund_currency : (n : ℕ) (c : NameBytes) → fund_currency_refusal g n c ≡ None
      → IsWellFormed (fund_currency g n c)
  well_formed-fund_currency n c none =
      let one = not-refused (not (is_some (ticket_of g n))) NoTicket _ none in
      let two = not-refused (not (is_currency g c)) NoCurrency _ one.1 in
      let three = not-refused (bytes_eq c base) Base _ two.1 in
      let four = not-refused (has_found_holder (ticket_of g n)) Funding _ three.1 in
      let five = not-refused (nat_le 16 (length (backing g.tickets c))) Crowded _ four.1 in
      let six = not-refused (chain_within g.tickets 8 c (found_denomination (ticket_of g n))) Cycle _ five.1 in
      let seven = not-refused (is_deep (with_holder n (Currency c) g.tickets)) Deep _ six.1 in
      let space = room 16 (length (backing g.tickets c)) five.0 in
      held-kept n (Currency c) (name_sym base c ∙ three.0) (stands g c (not_false (is_currency g c) two.0))
      (record {
        backing_room = λ d e. subst (λ x. length (backing g.tickets x) + 1 ≤ 16) (sym (same_name d c e)) space;
        funding_room = λ f e. absurd cc;
      })
      (short-from_deep (with_holder n (Currency c) g.tickets) seven.0)

  pub well_formed-make_ticket : (amount : ℕ) (c : NameBytes) → make_ticket_refusal g amount c ≡ None
      → IsWellFormed (make_ticket g amount c)
  unfolding backing funding
  well_formed-make_ticket amount c none =
      let one = not-refused (not (is_amount amount)) Range _ none in
      let two = not-refused (not (is_currency g c)) NoCurrency _ one.1 in
      let three = not-refused (nat_le 1024 (length g.tickets)) TableFull _ two.1 in
      let t = made_ticket g amount c in
      record {
        sound = record {
          names = ok.sound.names;
          flow_names = ok.sound.flow_names;
          numbers = ok.sound.numbers;
          known =
              each-append (λ (t : Ticket). 1 ≤ times t.denomination (names_of g)) g.tickets (t ∷ []) ok.sound.known
              (stands g c (not_false (is_currency g c) two.0), tt);
        };
        shallow = record {
          unbacked =
              each-append (λ (t : Ticket). holder_is_currency base t.holder ≡ false) g.tickets (t ∷ [])
              ok.shallow.unbacked (refl, tt);
          short = short-less (g.tickets ++ t ∷ []) g.tickets (less-made g.tickets t refl) ok.shallow.short;
        };
        numbered = record {
          tickets =
              subst (λ ns. Rises (g.next_ticket + 1) (0 ∷ ns))
              (sym (map-append (λ (t : Ticket). t.number) g.tickets (t ∷ [])))
              (rises-append g.next_ticket (0 ∷ ticket_numbers g.tickets) ok.numbered.tickets);
          flows = ok.numbered.flows;
        };
        uncrowded = record {
          currencies = λ d.
              length-made (λ (t : Ticket). holder_is_currency d t.holder) t g.tickets refl (ok.uncrowded.currencies d);
          flows = λ f. length-made (λ (t : Ticket). holder_is_flow f t.holder) t g.tickets refl (ok.uncrowded.flows f);
        };
        held = each-append (λ (t : Ticket). IsHolderKnown g t.holder) g.tickets (t ∷ []) ok.held (tt, tt);
        amounts =
            each-append (λ (t : Ticket). (1 ≤ t.amount) × (t.amount ≤ 2 ^ 20)) g.tickets (t ∷ []) ok.amounts
            (in_range amount (not_false (is_amount amount) one.0), tt);
        few_tickets =
            let space = room 1024 (length g.tickets) three.0 in omega (arith, length-append g.tickets (t ∷ []));
        few_currencies = ok.few_currencies;
        few_flows = ok.few_flows;
      }

  pub well_formed-remove_ticket : (n : ℕ) → IsWellFormed (remove_ticket g n)
  unfolding backing funding
  well_formed-remove_ticket n = record {
    sound = record {
      names = ok.sound.names;
      flow_names = ok.sound.flow_names;
      numbers = ok.sound.numbers;
      known = Each-remove _ (is_numbered n) g.tickets ok.sound.known;
    };
    shallow = record {
      unbacked = Each-remove _ (is_numbered n) g.tickets ok.shallow.unbacked;
      short =
          short-less (remove_key (is_numbered n) g.tickets) g.tickets (less-remove (is_numbered n) g.tickets)
          ok.shallow.short;
    };
    numbered = record {
      tickets =
          rises-remove (λ (t : Ticket). t.number) (is_numbered n) 0 g.next_ticket g.tickets ok.numbered.tickets;
      flows = ok.numbered.flows;
    };
    uncrowded = record {
      currencies = λ c.
          length-removed (λ (t : Ticket). holder_is_currency c t.holder) (is_numbered n) g.tickets
          (ok.uncrowded.currencies c);
      flows = λ f.
          length-removed (λ (t : Ticket). holder_is_flow f t.holder) (is_numbered n) g.tickets (ok.uncrowded.flows f);
    };
    held = Each-remove _ (is_numbered n) g.tickets ok.held;
    amounts = Each-remove _ (is_numbered n) g.tickets ok.amounts;
    few_tickets = let few = ok.few_tickets in omega (arith, length-remove (is_numbered n) g.tickets);
    few_currencies = ok.few_currencies;
    few_flows = ok.few_flows;
  }

  -- a ticket gets another amount
  each-amended : (n amount : ℕ) (P : Ticket → Type 0) → Each P g.tickets
      → ((t : Ticket) → P t → P (with_amount amount t)) → Each P (amend g n amount).tickets
  each-amended n amount P each kept =
      each-change_first P P (is_numbered n) (with_amount amount) (λ t e. e) kept g.tickets each

  length-amended : (p : Holder → Bool) (n amount : ℕ)
      → length (filter (λ (t : Ticket). p t.holder) g.tickets) ≤ 16
      → length (filter (λ (t : Ticket). p t.holder) (amend g n amount).tickets) ≤ 16
  length-amended p n amount few =
      let test : Ticket → Bool = λ t. p t.holder in
      let us = (amend g n amount).tickets in
      let same = count-changed test (is_numbered n) (with_amount amount) (λ t. refl) g.tickets in
      omega (arith, length-filter test g.tickets, length-filter test us)

  pub well_formed-amend : (n amount : ℕ) → amend_refusal g n amount ≡ None → IsWellFormed (amend g n amount)
  unfolding backing funding
  well_formed-amend n amount none =
      let one = not-refused (not (is_amount amount)) Range _ none in
      record {
        sound = record {
          names = ok.sound.names;
          flow_names = ok.sound.flow_names;
          numbers = ok.sound.numbers;
          known =
              each-amended n amount (λ (t : Ticket). 1 ≤ times t.denomination (names_of g)) ok.sound.known (λ t e. e);
        };
        shallow = record {
          unbacked =
              each-amended n amount (λ (t : Ticket). holder_is_currency base t.holder ≡ false) ok.shallow.unbacked
              (λ t e. e);
          short =
              short-less (amend g n amount).tickets g.tickets
              (less-changed (with_amount amount) (λ a on t e. e) (is_numbered n) g.tickets) ok.shallow.short;
        };
        numbered = record {
          tickets =
              rises-changed (λ (t : Ticket). t.number) (is_numbered n) (with_amount amount) 0 g.next_ticket g.tickets
              (λ t. refl) ok.numbered.tickets;
          flows = ok.numbered.flows;
        };
        uncrowded = record {
          currencies = λ c. length-amended (holder_is_currency c) n amount (ok.uncrowded.currencies c);
          flows = λ f. length-amended (holder_is_flow f) n amount (ok.uncrowded.flows f);
        };
        held = each-amended n amount (λ (t : Ticket). IsHolderKnown g t.holder) ok.held (λ t e. e);
        amounts =
            each-amended n amount (λ (t : Ticket). (1 ≤ t.amount) × (t.amount ≤ 2 ^ 20)) ok.amounts
            (λ t e. in_range amount (not_false (is_amount amount) one.0));
        few_tickets =
            let few = ok.few_tickets in
            omega (arith, length-change_first (is_numbered n) (with_amount amount) g.tickets);
        few_currencies = ok.few_currencies;
        few_flows = ok.few_flows;
      }
