use Rattle.std.proofs.Common.{◌≡◌, ℕ, ◌<◌, get_or, false}
use Rattle.std.specs.Str.{bytes_eq}
use Rattle.share_bill.specs.declared.bill.total.TenantTotal.{TenantTotal}
use Rattle.share_bill.proofs.bill.total.index_of.Given as goal

-- none before has the name
abbrev pub invariant-loop-at : goal.invariant-loop-at
invariant-loop-at l =
    (k : ℕ) → k < l.at → (d : TenantTotal) → bytes_eq (get_or l.totals k d).name l.name ≡ false
