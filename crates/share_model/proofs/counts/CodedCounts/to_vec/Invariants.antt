use Rattle.std.proofs.Common.{◌≡◌, ◌++◌, ◌<◌, ◌^◌, length}
use Rattle.share_model.specs.io.Counts.{counts_in}
use Rattle.share_model.specs.lists.Each.{Each}
use Rattle.share_model.proofs.counts.CodedCounts.to_vec.Given as goal

abbrev pub invariant-loop-first : goal.invariant-loop-first
invariant-loop-first l =
    record {
      told : l.counts.items ++ counts_in l.rest ≡ l.fn.self;
      small : Each (λ k. k < 2 ^ 64) (counts_in l.rest);
    }

abbrev pub decreases-loop-first : goal.decreases-loop-first
decreases-loop-first l = length l.rest
