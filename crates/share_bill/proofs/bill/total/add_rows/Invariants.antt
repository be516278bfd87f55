use Rattle.std.proofs.Common.{◌≡◌, ◌++◌, ℕ, List, map, take}
use Rattle.share_bill.specs.Totals.{name_of, row_name, each_once, figures_of, figures_with}
use Rattle.share_bill.proofs.bill.total.add_rows.Given as goal

abbrev pub invariant-loop-row : goal.invariant-loop-row
invariant-loop-row l =
    (each_once (map name_of l.initial.totals.items) ≡ map name_of l.initial.totals.items
    → map name_of l.totals.items
    ≡ each_once (map name_of l.initial.totals.items ++ map row_name (take l.row-index l.rows)))
    × ((name : List ℕ) → figures_of l.totals.items name
    ≡ figures_with name (take l.row-index l.rows) (figures_of l.initial.totals.items name))
