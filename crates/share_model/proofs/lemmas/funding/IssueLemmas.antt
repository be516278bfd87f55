-- While at most 2^20 of `base` is issued, the cap lowers the tickets of no flow.
use Rattle.std.specs.Prelude.{◌≡◌, ◌≤◌, ◌^◌, ℕ, Bool, true, false, cond, ◌&&◌, min, List, [], ◌∷◌, sum_by}
use Rattle.std.specs.Prelude.{nat_eq}
use Rattle.std.specs.List.{list_any}
use Rattle.std.proofs.Common.{refl, ap, arith}
use Rattle.std.proofs.lemmas.Bool.{eqb-true}
use Rattle.std.proofs.lemmas.List.Sums.{sum_by-cons, sum_by-le-sum_by}
use Rattle.share_model.specs.declared.funding.OpenFlow.{OpenFlow}
use Rattle.share_model.specs.declared.funding.Ticket.{Ticket}
use Rattle.share_model.specs.funding.Graph.{NameBytes, base, Graph, denominated_in, is_active_flow, is_active, active}
use Rattle.share_model.specs.funding.Graph.{tickets}
use Rattle.share_model.specs.funding.WellFormed.{IsWellNamed}
use Rattle.share_model.specs.funding.Laws.{uncapped_tickets, issued_amount}
use Rattle.share_model.proofs.lemmas.funding.HolderLemmas.{idle-none}
use Rattle.share_model.proofs.lemmas.funding.ShareLemmas.{active-is, flows-within}

-- the active amount of a currency was issued
pub active-issued : (g : Graph) (c : NameBytes) → active g c ≤ issued_amount g c
active-issued g c =
    rw active-is (sum_by-le-sum_by _ (λ (t : Ticket). t.amount) (denominated_in g.tickets c)
    (λ t. at_most (is_active g t) t.amount))
  where
    at_most : (b : Bool) (n : ℕ) → cond b n 0 ≤ n
    at_most true n = omega arith
    at_most false n = omega arith

-- the tickets of an active flow are a term of the sum over the open flows
term_within : (h : ℕ → ℕ) (f : ℕ) (es : List (NameBytes × OpenFlow))
    → list_any (λ (e : NameBytes × OpenFlow). nat_eq f e.1.number && e.1.active) es ≡ true
    → h f ≤ sum_by (λ (e : NameBytes × OpenFlow). h e.1.number) es
term_within h f [] active = cc
term_within h f (e ∷ es) active = by (nat_eq f e.1.number) refl (term_within h f es)
  where
    by : (t : Bool) → nat_eq f e.1.number ≡ t
        → (list_any (λ (e : NameBytes × OpenFlow). nat_eq f e.1.number && e.1.active) es ≡ true
        → h f ≤ sum_by (λ (e : NameBytes × OpenFlow). h e.1.number) es)
        → h f ≤ sum_by (λ (e : NameBytes × OpenFlow). h e.1.number) (e ∷ es)
    by true here later =
        let same : h f ≡ h e.1.number = ap h (eqb-true f e.1.number here) in
        omega (arith, sum_by-cons (λ (e : NameBytes × OpenFlow). h e.1.number) e es)
    by false other later =
        omega (arith, sum_by-cons (λ (e : NameBytes × OpenFlow). h e.1.number) e es, later (rw other at active))

pub tickets-uncapped : (g : Graph) → IsWellNamed g → issued_amount g base ≤ 2 ^ 20 → (f : ℕ)
    → tickets g f ≡ uncapped_tickets g f
unfolding tickets
tickets-uncapped g ok few f = by (is_active_flow g f) refl
  where
    by : (t : Bool) → is_active_flow g f ≡ t → min (2 ^ 20) (uncapped_tickets g f) ≡ uncapped_tickets g f
    by true active =
        let term : uncapped_tickets g f ≤ _ = term_within (uncapped_tickets g) f g.flows active in
        omega (arith, flows-within g 9 ok, active-issued g base)
    by false idle = let none : min (2 ^ 20) (uncapped_tickets g f) ≡ 0 = idle-none g f idle in omega arith
