use Rattle.std.proofs.Common.{◌≡◌, ◌∙◌, ap, sym, arith, position, Some, None}
use Rattle.share_settings.specs.Ports.{PortsView}
use Rattle.share_settings.specs.Same.{same_port}
use Rattle.share_reload.proofs.OriginLemmas.{none_more, found_here, none_at_all}
use Rattle.share_reload.proofs.origin.port_origin.Goals as goal

pub returns-in-Some : goal.returns-in-Some
returns-in-Some c =
    let ports : c.index-old-index.result.ports ≡ c.as_slice.result.now =
    sym (c.as_slice.ensures.value ∙ ap (λ (t : PortsView). t.ports) c.tenant.view_is) in
    let some : position (same_port c.args.port.now) c.index-old-index.result.ports ≡ Some c.in-Some.place =
    ap (position (same_port c.args.port.now)) ports ∙ sym c.in-Some.ensures in
    found_here c.args.old.now c.args.port.now c.loop-index.index c.index-old-index.result (omega arith)
    c.index-old-index.is c.in-Some.place c.loop-index.invariant some

pub loop-index-preserved : goal.loop-index-preserved
loop-index-preserved c =
    let ports : c.index-old-index.result.ports ≡ c.as_slice.result.now =
    sym (c.as_slice.ensures.value ∙ ap (λ (t : PortsView). t.ports) c.tenant.view_is) in
    let none : position (same_port c.args.port.now) c.index-old-index.result.ports ≡ None =
    ap (position (same_port c.args.port.now)) ports ∙ sym c.in_default.ensures in
    none_more c.args.old.now c.args.port.now c.loop-index.index c.index-old-index.result (omega arith)
    c.index-old-index.is c.loop-index.invariant none

pub returns : goal.returns
returns c = none_at_all c.args.old.now c.args.port.now c.loop-index.index c.loop-index.invariant (omega arith)
