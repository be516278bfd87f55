use Rattle.std.proofs.Common.{◌∙◌, Some, ap, option_map, sym}
use Rattle.share_model.specs.link.Buffers.{backlog_in}
use Rattle.share_flows.proofs.RingLemmas.{standing_of}
use Rattle.share_flows.proofs.buffers.Buffers.backlog.Goals as goal

pub returns : goal.returns
returns c =
    ap Some c.backlog.ensures
    ∙ ap (option_map backlog_in) (sym (standing_of _ _ c.in_ok-handle.handle c.index.result.now c.self.view_is
    c.in_ok-handle.ensures.2 c.index.ensures _ c.in_ok-handle.ensures.0))
