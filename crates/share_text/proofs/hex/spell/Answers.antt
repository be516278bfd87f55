use Rattle.std.proofs.Common.{◌<◌, ◌+◌, ◌*◌, arith, length}
use Rattle.share_text.proofs.HexLemmas.{spelled_more}
use Rattle.share_text.proofs.hex.spell.Goals as goal

pub loop-place-preserved : goal.loop-place-preserved
loop-place-preserved c =
    let kept = c.loop-place.invariant.kept in
    let inside : c.loop-place.place < length c.args.bytes.now = omega arith in
    let room : 2 * c.loop-place.place + 1 < length c.args.text.now = omega arith in
    spelled_more c.args.bytes.now c.loop-place.text (length c.args.text.now) c.loop-place.place c.digit.result
    c.digit-in-loop-place.result c.loop-place.invariant inside room c.digit.ensures c.digit-in-loop-place.ensures
