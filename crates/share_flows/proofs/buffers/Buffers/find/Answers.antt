use Rattle.std.proofs.Common.{◌≡◌, ◌∙◌, Some, refl, ap, sym, position}
use Rattle.share_model.specs.link.Buffers.{is_buffer_of}
use Rattle.share_flows.proofs.FirstItemLemmas.{unfound, is_found}
use Rattle.share_flows.proofs.buffers.Buffers.find.Goals as goal

pub returns-in-None : goal.returns-in-None
returns-in-None c =
    unfound (is_buffer_of c.args.flow) c.args.self.now
    (ap (position (is_buffer_of c.args.flow)) (sym (c.as_slice.ensures.value ∙ c.self.view_is))
    ∙ sym c.place_of.ensures ∙ c.in-None.is)

pub returns-in-Some : goal.returns-in-Some
returns-in-Some c =
    let stands : position (is_buffer_of c.args.flow) c.args.self.now ≡ Some c.in-Some.at =
    ap (position (is_buffer_of c.args.flow)) (sym (c.as_slice.ensures.value ∙ c.self.view_is))
    ∙ sym c.place_of.ensures ∙ c.in-Some.is in
    (refl, is_found (is_buffer_of c.args.flow) c.args.self.now c.in-Some.at stands, stands)
