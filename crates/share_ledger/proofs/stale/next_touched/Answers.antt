use Rattle.std.proofs.Common.{◌+◌, arith}
use Rattle.share_ledger.specs.Arrays.{flags_of}
use Rattle.share_ledger.proofs.StretchLemmas.{untouched-more}
use Rattle.share_ledger.proofs.stale.next_touched.Goals as goal

pub loop-place-preserved-then-are_untouched : goal.loop-place-preserved-then-are_untouched
loop-place-preserved-then-are_untouched c = record {
  past = omega (arith, c.loop-place.invariant.past);
  untouched = untouched-more c.args.funding.now (flags_of c.args.active.now) (flags_of c.args.moved.now.flags)
      c.args.changed c.args.from c.loop-place.place (c.loop-place.place + 8) c.loop-place.invariant.untouched
      (c.are_untouched.ensures (flags_of c.args.active.now) c.if-are_untouched.true);
}
