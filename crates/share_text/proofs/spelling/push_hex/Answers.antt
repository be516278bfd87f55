use Rattle.std.proofs.Common.{◌≤◌, ◌+◌, arith, length, Some}
use Rattle.share_model.proofs.lemmas.link.FieldLemmas.{all_bytes}
use Rattle.share_text.proofs.HexLemmas.{hex_none, hex_more}
use Rattle.share_text.proofs.spelling.push_hex.Goals as goal

pub loop-at-init : goal.loop-at-init
loop-at-init c = (hex_none (Some c.args.text.now) c.args.bytes.now, omega arith)

pub loop-at-preserved : goal.loop-at-preserved
loop-at-preserved c =
    let few : c.loop-at.at + c.min-count.result ≤ length c.args.bytes.now = omega arith in (
      hex_more _ _ _ c.args.bytes.now c.loop-at.at c.min-count.result c.loop-at.invariant.0 few
          c.push_piece.ensures.bytes,
      omega (arith, c.push_piece.ensures.long, c.loop-at.invariant.1),
    )

pub returns-clause-all : goal.returns-clause-all
returns-clause-all c = all_bytes c.args.bytes.now c.type_inv.bytes
