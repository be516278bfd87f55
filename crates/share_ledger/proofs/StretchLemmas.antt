-- Stretches of places, looked at together.
use Rattle.std.proofs.Common.{◌≡◌, ◌<◌, ◌≤◌, ◌+◌, ◌%◌, ◌∙◌, ◌⊎◌, ◌&&◌, ℕ, Bool, true, false, List}
use Rattle.std.proofs.Common.{length, get_or, nat_eq, nat_lt}
use Rattle.std.proofs.Common.{refl, ap, bit_and, bit_or, inl, inr, arith}
use Rattle.std.specs.Int.{bit_at}
use Rattle.std.specs.List.{list_any}
use Rattle.std.proofs.Math.Bool.{and-false}
use Rattle.std.proofs.lemmas.Bool.{eqb-true, ltb-true, ltb-false, or_from}
use Rattle.std.proofs.lemmas.Bool.Decides.{nat_tests}
use Rattle.std.proofs.lemmas.List.{get_or_default}
use Rattle.share_model.specs.lists.Each.{Each}
use Rattle.share_ledger.specs.declared.funding_tickets.FundingTicket.{FundingTicket}
use Rattle.share_ledger.specs.FundingTickets.{ComesFrom, IsFundingTicketWithin, funding_tickets_at}
use Rattle.share_ledger.specs.Stale.{is_touched, AreUntouched}
use Rattle.share_ledger.proofs.FundingSourceLemmas.{bits-left, bits-right, none-touched}

less : (a b : ℕ) → nat_eq a b ≡ false → a < b + 1 → a < b
less a b e under = grind (arith, nat_tests)

-- a place outside of a stretch is not in it
outside : (changed from to p : ℕ) → (changed < from) ⊎ (to ≤ changed) → from ≤ p → p < to → nat_eq changed p ≡ false
outside changed from to p (inl before) past under = grind (arith, nat_tests)
outside changed from to p (inr after) past under = grind (arith, nat_tests)

-- the bits of one holder more
pub sources-more : (ss : List (List FundingTicket)) (from i a b : ℕ) (own : List FundingTicket)
    → ((k : ℕ) → k < i → Each (ComesFrom a) (funding_tickets_at ss (from + k)))
    → own ≡ get_or ss (from + i) own → from + i < length ss → Each (ComesFrom b) own
    → (k : ℕ) → k < i + 1 → Each (ComesFrom (bit_or a b)) (funding_tickets_at ss (from + k))
sources-more ss from i a b own before at inside all k under =
    grind (arith, nat_tests, eqb-true, bits-right, get_or_default, bits-left, less)

module _ (ss : List (List FundingTicket)) (flag : ℕ → Bool) (sources bits changed from : ℕ)
    (within : (p : ℕ) → p < 65 → Each IsFundingTicketWithin (funding_tickets_at ss p))
    (have : (p : ℕ) → p < 65 → flag p ≡ true → bit_at bits (p % 64) ≡ 1)
    (apart : bit_and sources bits ≡ 0) (end : from + 8 ≤ 65)
    (outer : (changed < from) ⊎ (from + 8 ≤ changed))
    (all : (k : ℕ) → k < 8 → Each (ComesFrom sources) (funding_tickets_at ss (from + k))) where
  none : (p : ℕ) → from ≤ p → p < from + 8 → list_any (λ (s : FundingTicket). flag s.from) (funding_tickets_at ss p)
      ≡ false
  none p past under = grind (arith, nat_tests, none-touched)

  pub untouched-stretch : (active : ℕ → Bool) → AreUntouched ss active flag changed from (from + 8)
  untouched-stretch active p past under =
      or_from (nat_eq changed p) _ (outside changed from (from + 8) p outer past under)
      (ap (λ b. active p && b) (none p past under) ∙ and-false (active p))

-- two stretches, one after the other
pub untouched-more : (ss : List (List FundingTicket)) (active flag : ℕ → Bool) (changed from mid to : ℕ)
    → AreUntouched ss active flag changed from mid → AreUntouched ss active flag changed mid to
    → AreUntouched ss active flag changed from to
untouched-more ss active flag changed from mid to first second p past under = by (nat_lt p mid) refl
  where
    by : (b : Bool) → nat_lt p mid ≡ b → is_touched ss active flag changed p ≡ false
    by true e = first p past (ltb-true p mid e)
    by false e = second p (ltb-false p mid e) under
