use Rattle.std.proofs.Common.{◌≡◌, ◌<◌, ◌≤◌, ◌-◌, ◌^◌, ◌&&◌, ◌||◌, ℕ, length, min, nat_eq, if◌then◌else◌}
use Rattle.std.specs.List.{list_any}
use Rattle.share_ledger.specs.declared.funding_tickets.FundingTicket.{FundingTicket}
use Rattle.share_ledger.specs.Arrays.{flags_of, numbers_of}
use Rattle.share_ledger.specs.FundingTickets.{funding_tickets_at, worth_at}
use Rattle.share_ledger.proofs.stale.reshare.Given as goal

abbrev pub invariant-loop-stale : goal.invariant-loop-stale
invariant-loop-stale l = record {
  end : l.place ≤ 64;
  long : length l.tickets_of_all ≡ 64;
  left : (k : ℕ) → l.place ≤ k → numbers_of l.tickets_of_all k ≡ numbers_of l.fn.tickets_of_all k;
  shared : (k : ℕ) → k < l.place
      → numbers_of l.tickets_of_all k
      ≡ (if nat_eq l.changed k
      || (flags_of l.active k && list_any (λ (s : FundingTicket). flags_of l.moved.flags s.from)
      (funding_tickets_at l.funding k))
      then min (worth_at l.funding (flags_of l.active) (numbers_of l.values) (numbers_of l.weights) k) (2 ^ 20)
      else numbers_of l.fn.tickets_of_all k);
}

abbrev pub decreases-loop-stale : goal.decreases-loop-stale
decreases-loop-stale l = 64 - l.place
