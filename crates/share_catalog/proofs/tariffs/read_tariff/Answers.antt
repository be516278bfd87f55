use Rattle.share_catalog.proofs.TariffLemmas.{no_cell, no_overhead, no_price, three, three_whole, more_than_three}
use Rattle.share_catalog.proofs.TariffLemmas.{out_of_range}
use Rattle.std.proofs.Common.{sym, ◌∙◌}
use Rattle.share_catalog.proofs.tariffs.read_tariff.Goals as goal
use Rattle.share_catalog.proofs.tariffs.read_tariff.Goals.{else-is_end-via-then-is_end+else-is_tariff}
use Rattle.share_catalog.proofs.tariffs.read_tariff.Goals.{else-is_end-via-else-is_end}

pub returns-in_err-cell : goal.returns-in_err-cell
returns-in_err-cell c =
    rw c.from_residual.ensures (no_cell c.args.piece.now _ c.of-numbers.ensures c.in_err-cell.ensures)

pub returns-in_err-overhead : goal.returns-in_err-overhead
returns-in_err-overhead c =
    rw c.from_residual-in_err-overhead.ensures (no_overhead c.args.piece.now _ _ _ c.of-numbers.ensures
    c.in_ok-cell.ensures.1 c.in_err-overhead.ensures)

pub returns-in_err-price : goal.returns-in_err-price
returns-in_err-price c =
    rw c.from_residual-in_err-price.ensures (no_price c.args.piece.now _ _ _ _ _ c.of-numbers.ensures
    c.in_ok-cell.ensures.1 c.in_ok-overhead.ensures.1 c.in_err-price.ensures)

pub returns-then-is_tariff : goal.returns-then-is_tariff
returns-then-is_tariff c =
    let so = three c.args.piece.now c.in_ok-cell.cell c.in_ok-overhead.overhead c.in_ok-price.price _ _ _ _
    c.of-numbers.ensures c.in_ok-cell.ensures c.in_ok-overhead.ensures c.in_ok-price.ensures in
    (sym c.is_tariff.ensures ∙ c.if-is_tariff.true, three_whole _ _ _ _ _ so (c.is_end.ensures.0 c.if-is_end.true))

pub returns-else-is_end : goal.returns-else-is_end
returns-else-is_end c =
    let so = three c.args.piece.now c.in_ok-cell.cell c.in_ok-overhead.overhead c.in_ok-price.price _ _ _ _
    c.of-numbers.ensures c.in_ok-cell.ensures c.in_ok-overhead.ensures c.in_ok-price.ensures in
    elim c.else-is_end.branch [
      | else-is_end-via-then-is_end+else-is_tariff w ↦
          out_of_range _ _ _ _ _ so (sym w.is_tariff.ensures ∙ w.if-is_tariff.false)
      | else-is_end-via-else-is_end w ↦
          more_than_three _ _ _ _ _ so (λ e. let yes = sym w.if-is_end.false ∙ c.is_end.ensures.1 e in cc)
    ]
