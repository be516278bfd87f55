use Rattle.std.proofs.Common.{◌∙◌, ap, option_map, sym}
use Rattle.share_model.specs.declared.funding.OpenFlow.{OpenFlow}
use Rattle.share_model.specs.funding.Changes.{flow_named}
use Rattle.share_model.specs.link.View.{LinkView}
use Rattle.share_core.proofs.ArrivalLemmas.{open_stands}
use Rattle.share_core.proofs.link.Link.close_flow.Goals as goal

pub close-requires-clause-may : goal.close-requires-clause-may
close-requires-clause-may g c =
    let named = ap (λ (k : LinkView (Unit {0})). option_map (λ (f : OpenFlow). f.number)
    (flow_named k.live.graph c.args.name)) (sym c.self.view_is) ∙ sym c.flow.ensures ∙ c.in-Some.is in
    record {
      stands = open_stands c.args.self.now.live.graph c.args.name c.in-Some.flow named;
      unsent = sym c.is_in_part.ensures ∙ c.if-is_in_part.false;
    }
