use Rattle.std.proofs.Common.{ℕ, ◌<◌, List, length, get_or, sym, ap, ◌∙◌, arith}
use Rattle.share_web.specs.Heads.{with_byte}
use Rattle.share_web.proofs.HeadLemmas.{taken-nothing, taken_more}
use Rattle.share_web.proofs.head.Head.take.Goals as goal

pub bytes-init : goal.bytes-init
bytes-init c = sym (taken-nothing _)

pub bytes-preserved : goal.bytes-preserved
bytes-preserved c =
    let inside : c.bytes.index < length c.args.piece.now = omega arith in
    c.in_ok-add.ensures.ok
    ∙ ap (λ (h : List ℕ). with_byte h (get_or c.args.piece.now c.bytes.index 0)) c.bytes.invariant
    ∙ taken_more _ c.args.piece.now c.bytes.index inside
