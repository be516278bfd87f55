use Rattle.std.proofs.Common.{◌++◌, ℕ, List, take, arith, subst}
use Rattle.share_disk.specs.OpenText.{HasText}
use Rattle.share_writer.proofs.PieceLemmas.{piece-appended}
use Rattle.share_writer.proofs.writer.write_whole.Goals as goal

pub pieces-preserved : goal.pieces-preserved
pieces-preserved g c = (
  tt,
  tt,
  omega (arith, c.in-Some-write_some.ensures.few),
  (λ before had.
      let first = take c.pieces.done c.args.bytes.now in
      let P : List ℕ → Type 0 = λ bytes. HasText c.write_some.new.text bytes in
      subst P (piece-appended before c.args.bytes.now c.pieces.done c.in-Some-write_some.count)
      (c.in-Some-write_some.ensures.written (before ++ first) (c.pieces.invariant.3 before had))),
)
