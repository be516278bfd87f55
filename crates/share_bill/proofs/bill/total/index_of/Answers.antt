use Rattle.std.proofs.Common.{sym, ◌∙◌}
use Rattle.std.specs.Str.{bytes_eq}
use Rattle.std.proofs.lemmas.List.Sums.{position_or_len_is}
use Rattle.share_bill.specs.declared.bill.total.TenantTotal.{TenantTotal}
use Rattle.share_bill.proofs.TotalLemmas.{index-none}
use Rattle.share_bill.proofs.bill.total.index_of.Goals as goal

pub returns-then-eq : goal.returns-then-eq
returns-then-eq c =
    let d = c.index-totals-at.result in
    sym (position_or_len_is (λ (t : TenantTotal). bytes_eq t.name c.args.name) c.args.totals.now c.loop-at.at d
    c.loop-at.auto.at-end (λ k below. c.loop-at.invariant k below d)
    (λ inside. sym c.eq.ensures ∙ c.if-eq.true))

pub returns : goal.returns
returns c =
    index-none c.args.totals.now c.args.name c.loop-at.at c.loop-at-test.false c.loop-at.auto.at-end c.loop-at.invariant
