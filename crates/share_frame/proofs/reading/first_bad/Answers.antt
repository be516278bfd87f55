use Rattle.std.proofs.Common.{arith}
use Rattle.share_frame.proofs.FieldOrderLemmas.{rank-few}
use Rattle.share_frame.proofs.ByteLemmas.{are_bytes}
use Rattle.share_frame.proofs.FieldReadingLemmas.{one_more_good, first_bad}
use Rattle.share_frame.proofs.reading.first_bad.Goals as goal

pub returns-then-not-is_good : goal.returns-then-not-is_good
returns-then-not-is_good c =
    first_bad c.args.version c.loop-place.place-index c.args.bytes.now c.is_good.result c.loop-place-test.true
    (are_bytes c.args.bytes.now c.type_inv.bytes) c.loop-place.invariant c.is_good.ensures c.if-not-is_good.true

pub loop-place-preserved : goal.loop-place-preserved
loop-place-preserved c =
    one_more_good c.args.version c.loop-place.place-index c.args.bytes.now c.is_good.result c.loop-place-test.true
    c.loop-place.invariant c.is_good.ensures c.if-not-is_good.false

pub returns : goal.returns
returns c = λ place. let few = rank-few place in c.loop-place.invariant place (omega arith)
