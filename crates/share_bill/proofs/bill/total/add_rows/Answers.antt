use Rattle.std.proofs.Common.{refl, ap, sym, ◌∙◌, ◌++◌, ◌∷◌, [], map, take}
use Rattle.std.proofs.lemmas.List.{append-nil, take_more}
use Rattle.share_bill.specs.declared.bill.running.TenantBill.{TenantBill}
use Rattle.share_bill.specs.Totals.{name_of, row_name, each_once, figures_and, figures_of, figures_with, with_name}
use Rattle.share_bill.proofs.TotalLemmas.{names-more, figures-more}
use Rattle.share_bill.proofs.bill.total.add_rows.Goals as goal

pub loop-row-preserved : goal.loop-row-preserved
loop-row-preserved c =
    let rows = c.args.rows.now in
    let i = c.loop-row.row-index in
    let row = c.row-item.result in
    let before = take i rows in
    let more = take_more rows i row c.loop-row-test.true
    ∙ ap (λ (r : TenantBill). before ++ r ∷ []) (sym c.row-item.is) in
    let names = map name_of c.args.totals.now.items in (
      λ once.
          c.in_ok-add_row.ensures.names
          ∙ (ap (λ ns. with_name ns row.name) (c.loop-row.invariant.0 once)
          ∙ (names-more names before row
          ∙ ap (λ (rs : _). each_once (names ++ map row_name rs)) (sym more))),
      λ name.
          c.in_ok-add_row.ensures.sums name
          ∙ (ap (λ f. figures_and name f row) (c.loop-row.invariant.1 name)
          ∙ (figures-more name before row (figures_of c.args.totals.now.items name)
          ∙ ap (λ (rs : _). figures_with name rs (figures_of c.args.totals.now.items name)) (sym more))),
    )

pub loop-row-init : goal.loop-row-init
loop-row-init c = (
  λ once. sym once ∙ ap each_once (sym (append-nil (map name_of c.args.totals.now.items))),
  λ name. refl,
)
