use Rattle.std.proofs.Common.{◌≤◌, ◌+◌, arith, length}
use Rattle.std.proofs.lemmas.Result.{err_from_is_err_and}
use Rattle.share_model.specs.io.Calls.{no_offers}
use Rattle.share_model.proofs.lemmas.io.CallLemmas.{offers_more, refused_later}
use Rattle.share_text.proofs.HexLemmas.{hex_none, hex_more, hex_part}
use Rattle.share_text.proofs.hex.put_hex.Goals as goal

pub loop-at-init : goal.loop-at-init
loop-at-init g c = (hex_none _ _, no_offers)

pub loop-at-preserved : goal.loop-at-preserved
loop-at-preserved g c =
    let few : c.loop-at.at + c.min-count.result ≤ length c.args.bytes.now = omega arith in (
      hex_more _ _ _ c.args.bytes.now c.loop-at.at c.min-count.result c.loop-at.invariant.0 few
          c.in_ok-put_piece.ensures.0,
      offers_more c.loop-at.invariant.1 c.in_ok-put_piece.ensures.1,
    )

pub returns-in_err-put_piece : goal.returns-in_err-put_piece
returns-in_err-put_piece g c =
    let p = err_from_is_err_and c.from_residual.result c.from_residual.ensures.1 in
    rw p.1 (
      hex_part _ _ _ c.args.bytes.now c.loop-at.at c.min-count.result c.loop-at.invariant.0
          c.in_err-put_piece.ensures.0,
      refused_later c.loop-at.invariant.1 c.in_err-put_piece.ensures.1,
    )
