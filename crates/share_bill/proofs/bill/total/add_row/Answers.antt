use Rattle.std.proofs.Common.{◌≡◌, ◌<◌, ◌∙◌, ◌++◌, ◌∷◌, [], ap, subst, length, false, arith, set, map, get_or}
use Rattle.std.proofs.lemmas.Bool.Decides.{nat_tests}
use Rattle.std.specs.Prelude.{nat_lt}
use Rattle.share_bill.specs.declared.bill.total.TenantTotal.{TenantTotal}
use Rattle.share_bill.specs.Totals.{name_of, figures_of, index_of, no_figures, plus_row}
use Rattle.share_bill.proofs.TotalLemmas.{names-added, figures-added, names-pushed, figures-pushed}
use Rattle.share_bill.proofs.bill.total.add_row.Goals as goal

-- the index of the row's name
at_is : (c : goal.After-totals-1)
    → c.index_of-at.result ≡ index_of c.args.totals.now.items c.args.row.now.name
at_is c = c.index_of-at.ensures ∙ ap (λ ts. index_of ts c.args.row.now.name) c.as_slice.ensures.value

-- the entry of the row's name
abbrev entry : goal.After-totals-1 → TenantTotal
entry c = record { name = c.index_mut.result.now.name; sent = c.add.new.self }

inside : (c : goal.After-totals-1)
    → index_of c.args.totals.now.items c.args.row.now.name < length c.args.totals.now.items
inside c =
    let len = c.len.ensures in
    let test = c.if-at-len.true in
    subst (λ n. n < length c.args.totals.now.items) (at_is c) (omega (arith, len, test))

at_entry : (c : goal.After-totals-1) → c.index_mut.result.now
    ≡ get_or c.args.totals.now.items (index_of c.args.totals.now.items c.args.row.now.name) c.index_mut.result.now
at_entry c =
    c.index_mut.ensures.value
    ∙ ap (λ n. get_or c.args.totals.now.items n c.index_mut.result.now) (at_is c)

pub returns-then-at-len-clause-names : goal.returns-then-at-len-clause-names
returns-then-at-len-clause-names c =
    ap (λ n. map name_of (set c.args.totals.now.items n (entry c))) (at_is c)
    ∙ names-added c.args.totals.now.items c.args.row.now c.index_mut.result.now (entry c) (inside c)
    (ap (λ (t : TenantTotal). t.name) (at_entry c))
    (c.add.ensures ∙ ap (λ (t : TenantTotal). plus_row t.sent c.args.row.now) (at_entry c))

pub returns-then-at-len-clause-sums : goal.returns-then-at-len-clause-sums
returns-then-at-len-clause-sums c name =
    ap (λ n. figures_of (set c.args.totals.now.items n (entry c)) name) (at_is c)
    ∙ figures-added c.args.totals.now.items c.args.row.now c.index_mut.result.now (entry c) (inside c)
    (ap (λ (t : TenantTotal). t.name) (at_entry c))
    (c.add.ensures ∙ ap (λ (t : TenantTotal). plus_row t.sent c.args.row.now) (at_entry c)) name

outside : (c : goal.In_ok-push)
    → nat_lt (index_of c.args.totals.now.items c.args.row.now.name) (length c.args.totals.now.items) ≡ false
outside c =
    let len = c.len.ensures in let test = c.if-at-len.false in
    subst (λ n. nat_lt n (length c.args.totals.now.items) ≡ false)
    (c.index_of-at.ensures ∙ ap (λ ts. index_of ts c.args.row.now.name) c.as_slice.ensures.value)
    (grind (arith, nat_tests, len, test))

pushed : (c : goal.In_ok-push) → c.push.new.self.items
    ≡ c.args.totals.now.items ++ record { name = c.args.row.now.name; sent = plus_row no_figures c.args.row.now } ∷ []
pushed c = c.in_ok-push.ensures.items
    ∙ ap (λ (t : TenantTotal). c.args.totals.now.items ++ t ∷ []) c.first_total.ensures

pub returns-clause-names : goal.returns-clause-names
returns-clause-names c =
    ap (map name_of) (pushed c) ∙ names-pushed c.args.totals.now.items c.args.row.now (outside c)

pub returns-clause-sums : goal.returns-clause-sums
returns-clause-sums c name =
    ap (λ ts. figures_of ts name) (pushed c) ∙ figures-pushed c.args.totals.now.items c.args.row.now (outside c) name
