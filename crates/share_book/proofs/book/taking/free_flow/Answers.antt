use Rattle.std.specs.Prelude.{is_some}
use Rattle.std.proofs.Common.{◌∙◌, ap, sym}
use Rattle.share_book.proofs.TakeLemmas.{free-room}
use Rattle.share_book.proofs.book.taking.free_flow.Goals as goal

pub returns-clause-room : goal.returns-clause-room
returns-clause-room g c =
    free-room c.args.engine.now.live c.args.tenant ∙ ap is_some (sym c.free_flow.ensures)
