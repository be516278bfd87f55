use Rattle.std.proofs.Common.{◌≡◌, ◌==◌, false, length, Ok, Err, IfOk, IfErr, sym, ap, ◌∙◌, subst}
use Rattle.toml.specs.View.{items_view}
use Rattle.share_config.specs.Lists.{some_tariffs, tariff_of}
use Rattle.share_config.specs.Reading.{each}
use Rattle.share_config.specs.declared.fault.ConfigFault.TheVariants.{NoMemory}
use Rattle.share_config.proofs.TariffLemmas.{too_many, few}
use Rattle.share_config.proofs.tariff.some_tariffs.Goals as goal

pub returns-then-values-gt-MAX_TARIFFS-clause-fault :
    goal.returns-then-values-gt-MAX_TARIFFS-clause-fault
returns-then-values-gt-MAX_TARIFFS-clause-fault c =
    λ _. too_many c.args.values.now c.if-values-gt-MAX_TARIFFS.true ∙ ap Err (sym c.wrong.ensures)

pub returns-clause-ok : goal.returns-clause-ok
returns-clause-ok c =
    let some : (length c.args.values.now == 0) ≡ false = sym c.if-is_empty.ensures in
    let is : some_tariffs (items_view c.args.values.now) ≡ each tariff_of 1 (items_view c.args.values.now) =
    few c.args.values.now some c.if-values-gt-MAX_TARIFFS.false in
    subst (λ said. IfOk c.read_all.result (λ rates. said ≡ Ok rates.items)) (sym is) c.read_all.ensures.ok

pub returns-clause-fault : goal.returns-clause-fault
returns-clause-fault c =
    let some : (length c.args.values.now == 0) ≡ false = sym c.if-is_empty.ensures in
    let is : some_tariffs (items_view c.args.values.now) ≡ each tariff_of 1 (items_view c.args.values.now) =
    few c.args.values.now some c.if-values-gt-MAX_TARIFFS.false in
    subst (λ said. IfErr c.read_all.result (λ e. ¬ (e ≡ NoMemory) → said ≡ Err e)) (sym is) c.read_all.ensures.fault
