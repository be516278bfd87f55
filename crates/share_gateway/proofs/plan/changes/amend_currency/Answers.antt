use Rattle.std.proofs.Common.{◌≡◌, ◌∙◌, ap, sym, Some, None}
use Rattle.std.specs.Prelude.{position, find, is_some}
use Rattle.share_flows.proofs.FirstItemLemmas.{changed, unchanged, unfound, is_found}
use Rattle.share_gateway.specs.Plan.{has_name}
use Rattle.share_gateway.specs.PlanChanges.{currency_amended}
use Rattle.share_gateway.proofs.plan.changes.amend_currency.Goals as goal

pub returns-in-None : goal.returns-in-None
returns-in-None c =
    let none : position (has_name c.args.name) c.args.currencies.now.items ≡ None =
    ap (position (has_name c.args.name)) (sym c.as_slice.ensures.value) ∙ sym c.in-None.ensures in
    record {
      found = sym (ap is_some (unfound (has_name c.args.name) c.args.currencies.now.items none));
      amended =
          sym (unchanged (has_name c.args.name) (currency_amended c.args.grant c.args.amount)
          c.args.currencies.now.items none);
    }

pub returns-in-Some : goal.returns-in-Some
returns-in-Some c =
    let place : position (has_name c.args.name) c.args.currencies.now.items ≡ Some c.in-Some.index =
    ap (position (has_name c.args.name)) (sym c.as_slice.ensures.value) ∙ sym c.in-Some.ensures in
    record {
      found = sym (is_found (has_name c.args.name) c.args.currencies.now.items c.in-Some.index place);
      amended =
          changed (has_name c.args.name) (currency_amended c.args.grant c.args.amount) c.args.currencies.now.items
          c.in-Some.index c.index_mut-currency.result.now c.amend_in_currency.new.currency place
          c.index_mut-currency.ensures.value c.amend_in_currency.ensures;
    }
