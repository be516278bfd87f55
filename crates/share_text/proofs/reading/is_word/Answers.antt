use Rattle.std.proofs.Common.{sym, arith}
use Rattle.std.proofs.lemmas.Grind.{same_number_lists}
use Rattle.std.proofs.lemmas.Slice.Eq.{bytes_eq-Decides}
use Rattle.share_text.proofs.reading.is_word.Goals as goal

pub returns : goal.returns
returns c =
    sym ((bytes_eq-Decides c.args.word.now c.args.keyword.now).1
    (same_number_lists _ _ c.if-word-keyword.false (λ k h. c.loop-place.invariant k (omega (arith, h)))))
