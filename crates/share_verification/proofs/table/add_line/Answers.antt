use Rattle.std.proofs.Common.{sym, ◌∙◌, ap}
use Rattle.share_verification.specs.Tables.{follows}
use Rattle.share_verification.proofs.TableLemmas.{wrong_order}
use Rattle.share_verification.proofs.table.add_line.Goals as goal

pub returns-then-not-follows : goal.returns-then-not-follows
returns-then-not-follows c =
    wrong_order c.as_slice-then-not-follows.result.now c.args.rows.now.items c.args.line.now c.in-Ok.row c.wrong.result
    c.wrong.ensures c.as_slice-then-not-follows.ensures.value c.in-Ok.ensures.row.0 c.in-Ok.ensures.row.1
    (ap (λ rs. follows rs c.in-Ok.row) (sym c.as_slice.ensures.value) ∙ sym c.follows.ensures ∙ c.if-not-follows.true)

pub returns-in-Ok-push : goal.returns-in-Ok-push
returns-in-Ok-push c = record {
  row = c.in-Ok.row;
  added = c.in-Ok-push.ensures.items;
  is = c.in-Ok.ensures.row.0;
  spelled = c.in-Ok.ensures.row.1;
  after = ap (λ rs. follows rs c.in-Ok.row) (sym c.as_slice.ensures.value) ∙ sym c.follows.ensures
      ∙ c.if-not-follows.false;
}
