use Rattle.std.proofs.Common.{◌∙◌, ap, sym}
use Rattle.share_model.specs.link.Buffers.{has_packet}
use Rattle.share_flows.proofs.RingLemmas.{standing}
use Rattle.share_flows.proofs.buffers.Buffers.is_busy_at.Goals as goal

pub returns : goal.returns
returns c =
    c.is_busy.ensures
    ∙ ap has_packet (sym (standing _ _ c.args.handle.now c.index.result.now c.self.view_is c.requires c.index.ensures))
