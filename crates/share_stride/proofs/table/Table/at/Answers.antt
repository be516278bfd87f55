use Rattle.share_stride.proofs.ClientKeyLemmas.{place_filled, client_found}
use Rattle.share_stride.proofs.table.Table.at.Goals as goal

pub unreachable-requires : goal.unreachable-requires
unreachable-requires c = place_filled _ _ _ c.self.invariant.indexed c.self.view_is c.args.client_key.now c.requires
    c.in-None.ensures

pub returns : goal.returns
returns c = client_found _ _ _ c.self.invariant.indexed c.self.view_is c.args.client_key.now c.requires _
    c.in-Some.ensures
