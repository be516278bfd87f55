use Rattle.std.proofs.Common.{◌≡◌, ℕ, ◌&&◌, nat_lt}
use Rattle.share_ledger.specs.Arrays.{flags_of, numbers_of}
use Rattle.share_ledger.specs.FundingTickets.{AreCounted, backs_of, funds_of}
use Rattle.share_ledger.specs.Valuations.{activity_of}
use Rattle.share_ledger.proofs.activity.wake_all.Given as goal

abbrev pub invariant-loop-place : goal.invariant-loop-place
invariant-loop-place l = record {
  counted : AreCounted (backs_of l.tables) (funds_of l.tables) (flags_of l.awake) (flags_of l.active)
      (numbers_of l.weights);
  woken : (k : ℕ) → flags_of l.active k ≡ (nat_lt k l.place && activity_of l.tables k);
}
