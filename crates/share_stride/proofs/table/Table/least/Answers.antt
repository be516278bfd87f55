use Rattle.std.proofs.Common.{Some, None}
use Rattle.share_stride.proofs.KeyLemmas.{distinct}
use Rattle.share_stride.proofs.NextFlowLemmas.{IsNext-view}
use Rattle.share_stride.proofs.table.Table.least.Goals as goal

pub returns-in-None : goal.returns-in-None
returns-in-None c =
    IsNext-view _ _ _ None (distinct _ _ c.self.invariant.indexed) c.self.invariant.ranked c.self.view_is
    c.in-None.ensures

pub returns-in-Some : goal.returns-in-Some
returns-in-Some c =
    IsNext-view _ _ _ (Some c.in-Some.entry) (distinct _ _ c.self.invariant.indexed) c.self.invariant.ranked
    c.self.view_is c.in-Some.ensures
