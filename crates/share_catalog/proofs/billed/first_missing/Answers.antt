use Rattle.std.proofs.Common.{sym, ◌∙◌, arith}
use Rattle.share_catalog.proofs.BilledLemmas.{some_rows, last_at, first_at, found_below, found_last, none_missing}
use Rattle.share_catalog.proofs.billed.first_missing.Goals as goal
use Rattle.share_catalog.proofs.billed.first_missing.Goals.{else-rows-last-via-then-rows-last+else-not-is_accounted}
use Rattle.share_catalog.proofs.billed.first_missing.Goals.{else-rows-last-via-else-rows-last}

pub returns-in-Some : goal.returns-in-Some
returns-in-Some c =
    let some = some_rows c.args.rows.now _ c.is_empty.ensures c.if-is_empty.false in
    found_below c.args.rows.now c.args.given.now c.in-Some.number _ some (sym (last_at c.args.rows.now _ some))
    c.in-Some.ensures

pub returns-then-not-is_accounted : goal.returns-then-not-is_accounted
returns-then-not-is_accounted c =
    let some = some_rows c.args.rows.now _ c.is_empty.ensures c.if-is_empty.false in
    found_last c.args.rows.now c.args.given.now _ some (sym (last_at c.args.rows.now _ some)) c.in_default.ensures
    (omega (arith, first_at c.args.rows.now c.index-rows-0.result some, c.if-rows-last.true))
    (sym c.is_accounted.ensures ∙ c.if-not-is_accounted.true)

pub returns : goal.returns
returns c =
    let some = some_rows c.args.rows.now _ c.is_empty.ensures c.if-is_empty.false in
    none_missing c.args.rows.now c.args.given.now _ some (sym (last_at c.args.rows.now _ some)) c.in_default.ensures
    (λ from. elim c.else-rows-last.branch [
      | else-rows-last-via-then-rows-last+else-not-is_accounted w ↦
          sym w.is_accounted.ensures ∙ w.if-not-is_accounted.false
      | else-rows-last-via-else-rows-last w ↦
          absurd (omega (arith, first_at c.args.rows.now c.index-rows-0.result some, w.if-rows-last.false, from))
    ])
