use Rattle.std.proofs.Common.{◌<◌, ◌+◌, ◌*◌, ◌∙◌, ap, arith, length, max, refl}
use Rattle.share_text.proofs.DigitLemmas.{decodes_more}
use Rattle.share_text.proofs.payload.decode_rest.Goals as goal

pub loop-place-preserved : goal.loop-place-preserved
loop-place-preserved c =
    let inside : 2 * c.loop-place.place + 1 < length c.args.word.now = omega arith in
    let room : c.loop-place.place < length c.loop-place.bytes = omega arith in
    decodes_more c.args.word.now c.loop-place.bytes c.loop-place.place c.digit-high.result c.digit-low.result
    c.loop-place.greatest c.max-greatest.result _ c.loop-place.invariant inside room c.digit-high.ensures
    c.digit-low.ensures (c.max-greatest.ensures ∙ ap (λ n. max n c.loop-place.greatest) c.max.ensures) refl
