use Rattle.std.proofs.Common.{◌≡◌, ◌+◌, ◌*◌, ◌/◌, arith, length, subst, sym, ℕ}
use Rattle.share_text.specs.Digits.{DecodesUpTo}
use Rattle.share_text.proofs.DigitLemmas.{not_decoded}
use Rattle.share_text.proofs.payload.decode.Goals as goal

pub returns-then-not-has_pairs-clause-payload : goal.returns-then-not-has_pairs-clause-payload
returns-then-not-has_pairs-clause-payload c = not_decoded c.args.word.now (sym c.if-not-has_pairs.ensures)

pub loop-block-preserved : goal.loop-block-preserved
loop-block-preserved c =
    let next : 16 * c.loop-block.block + 16 ≡ 16 * (c.loop-block.block + 1) = omega arith in
    let P : ℕ → Type 0 = λ n.
    DecodesUpTo c.args.word.now c.decode_block-greatest.new.bytes n c.decode_block-greatest.result in
    subst P next c.decode_block-greatest.ensures

pub decode_rest-greatest-requires-clause-before : goal.decode_rest-greatest-requires-clause-before
decode_rest-greatest-requires-clause-before c =
    let end : 16 * c.loop-block.block ≡ 16 * (length c.args.word.now / 2 / 16) = omega arith in
    let P : ℕ → Type 0 = λ n. DecodesUpTo c.args.word.now c.loop-block.bytes n c.loop-block.greatest in
    subst P end c.loop-block.invariant
