use Rattle.std.proofs.Common.{◌∙◌, sym}
use Rattle.share_model.specs.lists.Rises.{Rises}
use Rattle.share_ledger.proofs.NumberLemmas.{flow-at}
use Rattle.share_ledger.proofs.tables.Tables.is_flow_at.Goals as goal

pub returns-in-Some : goal.returns-in-Some
unfolding Rises
returns-in-Some c = λ same.
    flow-at c.args.self.now.next_flow c.args.flow c.args.self.now.flows c.args.place
    (c.in-Some.field-0-0, c.in-Some.open) c.is_well_formed.ensures.numbered.flows.2
    (sym c.flow_at.ensures ∙ c.in-Some.is) (sym c.eq.ensures ∙ same)
