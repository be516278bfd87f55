use Rattle.std.proofs.Common.{◌≡◌, ◌≤◌, ◌<◌, ℕ, length, false}
use Rattle.share_ledger.specs.Arrays.{flags_of}
use Rattle.share_ledger.specs.FundingTickets.{funding_tickets_at}
use Rattle.share_ledger.proofs.bounds.are_idle.Given as goal

abbrev pub invariant-loop-flow : goal.invariant-loop-flow
invariant-loop-flow l = (p : ℕ) → l.place ≤ p → p < l.flow
    → (flags_of l.active p ≡ false) × (length (funding_tickets_at l.funding p) ≡ 0)
