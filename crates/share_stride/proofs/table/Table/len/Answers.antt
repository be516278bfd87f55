use Rattle.std.proofs.Common.{ap, sym, ◌∙◌}
use Rattle.std.specs.FinMap.{len}
use Rattle.share_stride.specs.Table.{Clients}
use Rattle.share_stride.proofs.TableLemmas.{len-client_map}
use Rattle.share_stride.proofs.KeyLemmas.{distinct}
use Rattle.share_stride.proofs.table.Table.len.Goals as goal

pub returns : goal.returns
returns c =
    c.len.ensures
    ∙ sym (len-client_map c.self.inside.slots.slots (distinct _ _ c.self.invariant.indexed))
    ∙ ap (λ (clients : Clients). len clients.by_flow) c.self.view_is
