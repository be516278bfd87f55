use Rattle.std.proofs.Common.{◌≡◌, ◌<◌, ◌+◌, ◌*◌, ◌%◌, ◌∙◌, set, ap, arith, length, max, refl, subst, ℕ}
use Rattle.share_text.specs.Digits.{value_or_255, DecodesUpTo}
use Rattle.share_text.proofs.DigitLemmas.{decodes_more}
use Rattle.share_text.proofs.payload.decode_block.Goals as goal

pub loop-place-init : goal.loop-place-init
loop-place-init c =
    let here : c.args.at ≡ c.args.at + 0 = omega arith in
    let P : ℕ → Type 0 = λ n. DecodesUpTo c.args.word.now c.args.bytes.now n c.args.greatest in
    subst P here c.requires.before

pub loop-place-preserved : goal.loop-place-preserved
loop-place-preserved c =
    let at = c.args.at + c.loop-place.place in
    let few : c.loop-place.place < 16 = omega arith in
    let inside : 2 * at + 1 < length c.args.word.now = omega arith in
    let room : at < length c.loop-place.bytes = omega arith in
    let next : at + 1 ≡ c.args.at + (c.loop-place.place + 1) = omega arith in
    let value = (c.digit-high.result * 16 % 256 + c.digit-low.result) % 256 in
    let P : ℕ → Type 0 = λ n.
    DecodesUpTo c.args.word.now (set c.loop-place.bytes at value) n c.max-greatest.result in
    subst P next (decodes_more c.args.word.now c.loop-place.bytes at c.digit-high.result c.digit-low.result
    c.loop-place.greatest c.max-greatest.result value c.loop-place.invariant inside room
    (c.digit-high.ensures ∙ ap value_or_255 (c.digits_apart.ensures.first c.loop-place.place few))
    (c.digit-low.ensures ∙ ap value_or_255 (c.digits_apart.ensures.second c.loop-place.place few))
    (c.max-greatest.ensures ∙ ap (λ n. max n c.loop-place.greatest) c.max.ensures) refl)

pub returns : goal.returns
returns c =
    let end : c.args.at + c.loop-place.place ≡ c.args.at + 16 = omega arith in
    let P : ℕ → Type 0 = λ n. DecodesUpTo c.args.word.now c.loop-place.bytes n c.loop-place.greatest in
    subst P end c.loop-place.invariant
