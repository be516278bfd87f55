use Rattle.std.proofs.Common.{◌≡◌, ◌<◌, ℕ, true, false, ◌∙◌, ap, sym, subst}
use Rattle.share_core.specs.Room.{has_room}
use Rattle.share_model.specs.link.Buffers.{count_in, pop_in}
use Rattle.share_model.specs.link.Calls.{is_spent}
use Rattle.share_model.specs.link.View.{LinkView}
use Rattle.share_model.proofs.lemmas.link.TurnLemmas.{events-below}
use Rattle.share_journal.proofs.RunLemmas.{run-sound}
use Rattle.share_book.specs.Closed.{ClosedView}
use Rattle.share_gateway.specs.PlanChanges.{tenant_flow}
use Rattle.share_book.proofs.CarryLemmas.{part-more, part-stops, part-all, spent-carried, textless-carried, due-some}
use Rattle.share_book.proofs.CarryLemmas.{due-full, pop-fewer, spent-life}
use Rattle.share_book.proofs.book.carrying.carry_tenant.Goals as goal
use Rattle.share_book.proofs.book.carrying.carry_tenant.Goals.{
  then-spent-via-then-spent,
  then-spent-via-else-spent+then-lacks_text,
}

pub returns-then-spent : goal.returns-then-spent
returns-then-spent g c =
    let free : has_room c.packets.audited.link.live c.args.name ≡ true =
    sym (c.has_room.ensures ∙ ap (λ (k : LinkView (Unit {0})). has_room k.live c.args.name) c.engine.ensures.link)
    ∙ c.if-has_room.true in
    let some =
    subst (λ n. 0 < n) (c.waiting.ensures ∙ ap (count_in c.packets.closed.buffers) c.packets.invariant.1)
    c.packets-test.true in
    let due = due-some c.packets.audited c.packets.closed c.args.name free some in
    let stops = part-stops c.args.audited.now c.args.closed.now c.args.name c.packets.audited c.packets.closed
    c.packets.invariant.0 in
    elim c.then-spent.branch [
      | then-spent-via-then-spent w ↦
          stops
          (spent-carried c.packets.audited c.packets.closed c.args.name
          (spent-life c.packets.audited.link
          (sym (c.spent.ensures ∙ ap is_spent c.engine-in-packets.ensures.link) ∙ w.if-spent.true))) due
      | then-spent-via-else-spent+then-lacks_text w ↦
          stops
          (textless-carried c.packets.audited c.packets.closed c.args.name
          (sym w.lacks_text.ensures ∙ w.if-lacks_text.true)) due
    ]

pub packets-smaller : goal.packets-smaller
packets-smaller g c =
    let some = subst (λ n. 0 < n) c.waiting.ensures c.packets-test.true in
    subst
    (λ (x : ClosedView).
    count_in x.buffers c.flow_of-flow.result < count_in c.packets.closed.buffers c.flow_of-flow.result)
    (sym c.carry_packet.ensures.closed)
    (subst
    (λ (f : ℕ). count_in (pop_in c.packets.closed.buffers f) c.flow_of-flow.result
    < count_in c.packets.closed.buffers c.flow_of-flow.result)
    c.packets.invariant.1 (pop-fewer c.packets.closed.buffers c.flow_of-flow.result some))

pub packets-preserved : goal.packets-preserved
packets-preserved g c =
    let free : has_room c.packets.audited.link.live c.args.name ≡ true =
    sym (c.has_room.ensures ∙ ap (λ (k : LinkView (Unit {0})). has_room k.live c.args.name) c.engine.ensures.link)
    ∙ c.if-has_room.true in
    let living : is_spent c.packets.audited.link ≡ false =
    sym (c.spent.ensures ∙ ap is_spent c.engine-in-packets.ensures.link) ∙ c.if-spent.false in (
      part-more c.args.audited.now c.args.closed.now c.args.name c.packets.audited c.packets.closed
          c.packets.invariant.0 c.carry_packet.new.audited c.carry_packet.new.closed free
          (events-below c.packets.audited.link (run-sound c.engine.ensures.run.run) living)
          (sym c.lacks_text.ensures ∙ c.if-lacks_text.false) c.carry_packet.ensures,
      c.packets.invariant.1
          ∙ ap (λ (x : ClosedView). tenant_flow x.plan c.args.name) (sym c.carry_packet.ensures.closed),
    )

pub returns-else-has_room : goal.returns-else-has_room
returns-else-has_room g c =
    let full : has_room c.packets.audited.link.live c.args.name ≡ false =
    sym (c.has_room.ensures ∙ ap (λ (k : LinkView (Unit {0})). has_room k.live c.args.name) c.engine.ensures.link)
    ∙ c.if-has_room.false in
    part-all c.args.audited.now c.args.closed.now c.args.name c.packets.audited c.packets.closed c.packets.invariant.0
    (due-full c.packets.audited c.packets.closed c.args.name full)
