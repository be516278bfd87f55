use Rattle.std.proofs.Common.{◌≤◌, ◌∙◌, Option, IfSome, ap, subst, sym}
use Rattle.share_flows.specs.Stamps.{BufferView}
use Rattle.share_model.specs.link.Buffers.{count_by}
use Rattle.share_flows.proofs.RingLemmas.{standing_of}
use Rattle.share_flows.proofs.buffers.Buffers.len.Goals as goal

pub returns-in-Some-clause-count : goal.returns-in-Some-clause-count
returns-in-Some-clause-count c =
    c.count.ensures.count
    ∙ ap count_by (sym (standing_of _ _ c.in-Some.handle c.index.result.now c.self.view_is c.in-Some.ensures.2
    c.index.ensures _ c.in-Some.ensures.0))

pub returns-in-Some-clause-limit : goal.returns-in-Some-clause-limit
returns-in-Some-clause-limit c =
    let is = standing_of _ _ c.in-Some.handle c.index.result.now c.self.view_is c.in-Some.ensures.2
    c.index.ensures _ c.in-Some.ensures.0 in
    subst (λ (o : Option BufferView). IfSome o (λ b. c.count.result ≤ b.limit)) (sym is) c.count.ensures.limit
