use Rattle.std.proofs.Common.{refl, sym, true≢false}
use Rattle.share_stride.proofs.ClientKeyLemmas.{absent_in_view, there_in_view}
use Rattle.share_stride.proofs.table.Table.find.Goals as goal

pub returns-in-None-clause-there : goal.returns-in-None-clause-there
returns-in-None-clause-there c = (
  λ is. absurd (true≢false (sym is)),
  λ there. absurd (absent_in_view _ _ _ c.args.flow c.self.invariant.indexed c.self.view_is c.in-None.ensures there),
)

pub returns-in-Some-clause-there : goal.returns-in-Some-clause-there
returns-in-Some-clause-there c = (
  λ _. there_in_view _ _ _ c.args.flow c.in-Some.key c.self.invariant.indexed c.self.view_is c.in-Some.ensures,
  λ _. refl,
)
