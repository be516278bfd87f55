use Rattle.std.proofs.Common.{◌∙◌, ap, sym}
use Rattle.share_model.specs.link.Buffers.{is_buffer_of}
use Rattle.share_flows.proofs.DistinctFlowLemmas.{by_place}
use Rattle.share_flows.proofs.buffers.stands_at.Goals as goal

pub returns-then-place-rings : goal.returns-then-place-rings
returns-then-place-rings c = λ stands.
    by_place c.args.rings.now c.args.flow c.args.place c.index-rings-place.result c.requires c.if-place-rings.true
    (ap (is_buffer_of c.args.flow) (sym c.index-rings-place.is) ∙ sym c.is_of.ensures ∙ stands)
