use Rattle.std.proofs.Common.{◌∙◌, ap, ◌++◌}
use Rattle.share_catalog.proofs.RowLemmas.{pushed_row}
use Rattle.share_catalog.proofs.row.row_line.Goals as goal

pub returns-clause-bytes : goal.returns-clause-bytes
returns-clause-bytes c =
    pushed_row c.args.row.now _ _ _ _ _ _ c.push_head.ensures.bytes c.push.ensures.bytes c.push_totals.ensures.bytes
    c.push-2.ensures.bytes (c.push-3.ensures.bytes ∙ ap (λ t. c.push-2.new.self ++ t) c.as_bytes.ensures.bytes)
    c.push-4.ensures.bytes
