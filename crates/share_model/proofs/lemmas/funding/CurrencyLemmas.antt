-- The empty graph has the invariant, and the commands on currencies keep it if they are not refused.
use Rattle.std.proofs.Common.{◌≡◌, ℕ, ◌+◌, ◌≤◌, Bool, true, false, not, cond, List, [], ◌∷◌}
use Rattle.std.proofs.Common.{length, bytes_eq, nat_le, None, refl, sym, ap, ◌∙◌, arith, length-append}
use Rattle.std.specs.List.{list_any}
use Rattle.std.specs.Set.{remove_key}
use Rattle.std.proofs.lemmas.List.Sums.{sum_by-cons}
use Rattle.std.proofs.lemmas.Bool.{or_parts}
use Rattle.share_base.specs.declared.refusal.Refusal.TheVariants.{NoCurrency, Taken, Base, InUse, TableFull}
use Rattle.share_model.specs.lists.Each.{Each}
use Rattle.share_model.specs.lists.Rises.{Rises}
use Rattle.share_model.proofs.lemmas.lists.FirstItemLemmas.{each_map}
use Rattle.share_model.specs.declared.funding.Holder.{Holder}
use Rattle.share_model.specs.declared.funding.Holder.TheVariants.{Nobody, Currency, Flow}
use Rattle.share_model.specs.declared.funding.Ticket.{Ticket}
use Rattle.share_model.specs.funding.Graph.{NameBytes, base, Graph, empty_graph, holder_is_currency, denominated_in}
use Rattle.share_model.specs.funding.Graph.{chain}
use Rattle.share_model.specs.funding.Graph.{backing, funding}
use Rattle.share_model.specs.funding.Changes.{is_currency, make_currency_refusal, make_currency}
use Rattle.share_model.specs.funding.Changes.{uses, remove_currency_refusal, remove_currency}
use Rattle.share_model.specs.funding.WellFormed.{names_of, times, IsHolderKnown, IsWellFormed}
use Rattle.share_model.proofs.lemmas.lists.SumLemmas.{same_name}
use Rattle.share_model.proofs.lemmas.lists.CountLemmas.{length-remove, count-remove, count-remove_same, count-more}
use Rattle.share_model.proofs.lemmas.funding.SettledGraphLemmas.{any_none}
use Rattle.share_model.proofs.lemmas.funding.RefusalLemmas.{not-refused, room, absent, once-named}

pub well_formed-empty : IsWellFormed empty_graph
unfolding chain denominated_in backing funding Rises
well_formed-empty = record {
  sound = record {
    names = λ c. none (bytes_eq base c);
    flow_names = λ f. omega arith;
    numbers = λ f. omega arith;
    known = tt;
  };
  shallow = record { unbacked = tt; short = λ a b e. refl };
  numbered = record { tickets = (omega arith, tt, tt); flows = (omega arith, tt, tt) };
  uncrowded = record { currencies = λ c. omega arith; flows = λ f. omega arith };
  held = tt;
  amounts = tt;
  few_tickets = omega arith;
  few_currencies = omega arith;
  few_flows = omega arith;
}
  where
    none : (b : Bool) → 0 + cond b 1 0 ≤ 1
    none true = omega arith
    none false = omega arith

module _ (g : Graph) (ok : IsWellFormed g) where
  holder-more : (c : NameBytes) (h : Holder) → IsHolderKnown g h → IsHolderKnown (make_currency g c) h
  holder-more c Nobody e = tt
  holder-more c (Currency d) e = let more = count-more (λ x. bytes_eq x d) (names_of g) c in omega arith
  holder-more c (Flow f) e = e

  pub well_formed-make_currency : (c : NameBytes) → make_currency_refusal g c ≡ None → IsWellFormed (make_currency g c)
  well_formed-make_currency c none =
      let one = not-refused (is_currency g c) Taken _ none in
      let two = not-refused (nat_le 64 (length g.currencies)) TableFull _ one.1 in
      record {
        sound = record {
          names = once-named {X = NameBytes} (λ d. d) c (names_of g) (absent c (names_of g) one.0) ok.sound.names;
          flow_names = ok.sound.flow_names;
          numbers = ok.sound.numbers;
          known =
              each_map _ _
              (λ t e. let more = count-more (λ x. bytes_eq x t.denomination) (names_of g) c in omega arith)
              g.tickets ok.sound.known;
        };
        shallow = record { unbacked = ok.shallow.unbacked; short = ok.shallow.short };
        numbered = record { tickets = ok.numbered.tickets; flows = ok.numbered.flows };
        uncrowded = record { currencies = ok.uncrowded.currencies; flows = ok.uncrowded.flows };
        held = each_map _ _ (λ (t : Ticket). holder-more c t.holder) g.tickets ok.held;
        amounts = ok.amounts;
        few_tickets = ok.few_tickets;
        few_currencies =
            let space = room 64 (length g.currencies) two.0 in omega (arith, length-append g.currencies (c ∷ []));
        few_flows = ok.few_flows;
      }

  pub well_formed-remove_currency : (c : NameBytes) → remove_currency_refusal g c ≡ None
      → IsWellFormed (remove_currency g c)
  well_formed-remove_currency c none =
      let one = not-refused (not (is_currency g c)) NoCurrency _ none in
      let two = not-refused (bytes_eq c base) Base _ one.1 in
      let three = not-refused (list_any (uses c) g.tickets) InUse _ two.1 in
      let unused = any_none (uses c) g.tickets three.0 in
      record {
        sound = record {
          names = λ d.
              let before = ok.sound.names d in
              let first = sum_by-cons {X = NameBytes} (λ x. cond (bytes_eq x d) 1 0) base g.currencies in
              let second = sum_by-cons {X = NameBytes} (λ x. cond (bytes_eq x d) 1 0) base left in
              omega (arith, count-remove (λ x. bytes_eq x d) (bytes_eq c) g.currencies);
          flow_names = ok.sound.flow_names;
          numbers = ok.sound.numbers;
          known =
              both (λ (t : Ticket). times t.denomination (names_of g))
              (λ (t : Ticket). times t.denomination (names_of (remove_currency g c))) g.tickets
              (λ t e. stay t.denomination (or_parts (bytes_eq c t.denomination) (holder_is_currency c t.holder) e).0)
              unused ok.sound.known;
        };
        shallow = record { unbacked = ok.shallow.unbacked; short = ok.shallow.short };
        numbered = record { tickets = ok.numbered.tickets; flows = ok.numbered.flows };
        uncrowded = record { currencies = ok.uncrowded.currencies; flows = ok.uncrowded.flows };
        held = holders g.tickets unused ok.held;
        amounts = ok.amounts;
        few_tickets = ok.few_tickets;
        few_currencies = let few = ok.few_currencies in omega (arith, length-remove (bytes_eq c) g.currencies);
        few_flows = ok.few_flows;
      }
    where
      left : List NameBytes
      left = remove_key (bytes_eq c) g.currencies

      apart : (d x : NameBytes) → bytes_eq c d ≡ false → bytes_eq c x ≡ true → bytes_eq x d ≡ false
      apart d x e f = ap (λ y. bytes_eq y d) (sym (same_name c x f)) ∙ e

      stay : (d : NameBytes) → bytes_eq c d ≡ false → times d (names_of (remove_currency g c)) ≡ times d (names_of g)
      stay d e =
          let first = sum_by-cons {X = NameBytes} (λ x. cond (bytes_eq x d) 1 0) base g.currencies in
          let second =
          sum_by-cons {X = NameBytes} (λ x. cond (bytes_eq x d) 1 0) base (remove_key (bytes_eq c) g.currencies) in
          omega (arith, count-remove_same (λ x. bytes_eq x d) (bytes_eq c) g.currencies (λ x. apart d x e))

      both : (p q : Ticket → ℕ) (ts : List Ticket) → ((t : Ticket) → uses c t ≡ false → q t ≡ p t)
          → Each (λ (t : Ticket). uses c t ≡ false) ts → Each (λ (t : Ticket). 1 ≤ p t) ts
          → Each (λ (t : Ticket). 1 ≤ q t) ts
      both p q [] same e f = tt
      both p q (t ∷ ts) same e f = (let s = same t e.0 in let m = f.0 in omega arith, both p q ts same e.1 f.1)

      holder : (h : Holder) → holder_is_currency c h ≡ false → IsHolderKnown g h
          → IsHolderKnown (remove_currency g c) h
      holder Nobody e f = tt
      holder (Currency d) e f = let s = stay d e in omega arith
      holder (Flow n) e f = f

      holders : (ts : List Ticket) → Each (λ (t : Ticket). uses c t ≡ false) ts
          → Each (λ (t : Ticket). IsHolderKnown g t.holder) ts
          → Each (λ (t : Ticket). IsHolderKnown (remove_currency g c) t.holder) ts
      holders [] e f = tt
      holders (t ∷ ts) e f = (
        holder t.holder (or_parts (bytes_eq c t.denomination) (holder_is_currency c t.holder) e.0).1 f.0,
        holders ts e.1 f.1,
      )
