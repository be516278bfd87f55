use Rattle.share_catalog.proofs.PieceLemmas.{ended_is}
use Rattle.share_catalog.proofs.fields.Fields.is_end.Goals as goal

pub returns : goal.returns
returns g c = ended_is g.row.SEPARATOR c.self.inside.rest c.args.self.now c.is_none.result c.is_none.ensures
    c.self.view_is
