use Rattle.std.proofs.Common.{◌≡◌, refl, ◌∙◌, ap, sym, subst, rules}
use Rattle.share_doors.specs.Door.{DoorView}
use Rattle.share_doors.specs.Fills.{Fills, nothing}
use Rattle.share_doors.specs.Takes.{nothing as takes_nothing}
use Rattle.share_doors.specs.declared.door.Filled.TheVariants.{Full}
use Rattle.share_doors.proofs.FillLemmas.{fills_same, fills_takes, fills_tenant, fills_then, has_room, is_room}
use Rattle.share_doors.proofs.FillLemmas.{no_room}
use Rattle.share_doors.proofs.door.Door.fill.Goals as goal

pub returns-then-not-self-clause-book : goal.returns-then-not-self-clause-book
returns-then-not-self-clause-book g c = takes_nothing _ _

pub returns-then-not-self-clause-counted : goal.returns-then-not-self-clause-counted
returns-then-not-self-clause-counted g c = nothing _ _

pub packets-init : goal.packets-init
packets-init g c = (nothing _ _, refl, λ none. (refl, refl))

pub packets-preserved : goal.packets-preserved
packets-preserved g c = (
  fills_then _ _ _ _ _ _ c.packets.invariant.0 c.serve_next.ensures.counted,
  c.serve_next.ensures.plan ∙ c.packets.invariant.1,
  λ none. absurd (is_room c.has_room.result c.packets.book.audited c.args.book.now.audited
      c.self-in-packets.inside.tenant c.args.self.now.tenant c.has_room.ensures (search rules)
      (ap (λ (d : DoorView). d.tenant) c.self-in-packets.view_is ∙ fills_tenant _ _ _ _ c.packets.invariant.0)
      (c.packets.invariant.2 none).1 none),
)

pub serve_next-requires : goal.serve_next-requires
serve_next-requires g c =
    has_room c.has_room.result c.packets.book.audited c.self-in-packets.inside.tenant _ c.has_room.ensures
    (search rules)
    (ap (λ (d : DoorView). d.tenant) c.self-in-packets.view_is)

pub returns-then-not-has_room-clause-same : goal.returns-then-not-has_room-clause-same
returns-then-not-has_room-clause-same g c = fills_same _ _ _ _ c.packets.invariant.0

pub returns-then-not-has_room-clause-book : goal.returns-then-not-has_room-clause-book
returns-then-not-has_room-clause-book g c = fills_takes _ _ _ _ c.packets.invariant.0

pub returns-then-not-has_room-clause-full : goal.returns-then-not-has_room-clause-full
returns-then-not-has_room-clause-full g c =
    λ (_ : Full ≡ Full). no_room c.has_room.result c.packets.book.audited c.self-in-packets.inside.tenant
    c.args.self.now.tenant c.has_room.ensures (search rules)
    (ap (λ (d : DoorView). d.tenant) c.self-in-packets.view_is ∙ fills_tenant _ _ _ _ c.packets.invariant.0)

pub returns-then-idle-places-clause-same : goal.returns-then-idle-places-clause-same
returns-then-idle-places-clause-same g c =
    fills_same _ _ _ _
    (subst (λ (d : DoorView). Fills c.args.self.now c.args.book.now.audited d c.serve_next.new.book.audited)
    (sym c.self-in-packets-2.view_is)
    (fills_then _ _ _ _ _ _ c.packets.invariant.0 c.serve_next.ensures.counted))

pub returns-then-idle-places-clause-book : goal.returns-then-idle-places-clause-book
returns-then-idle-places-clause-book g c =
    fills_takes _ _ _ _ (fills_then _ _ _ _ _ _ c.packets.invariant.0 c.serve_next.ensures.counted)

pub returns-then-idle-places-clause-counted : goal.returns-then-idle-places-clause-counted
returns-then-idle-places-clause-counted g c =
    subst (λ (d : DoorView). Fills c.args.self.now c.args.book.now.audited d c.serve_next.new.book.audited)
    (sym c.self-in-packets-2.view_is)
    (fills_then _ _ _ _ _ _ c.packets.invariant.0 c.serve_next.ensures.counted)

pub returns-clause-same : goal.returns-clause-same
returns-clause-same g c = fills_same _ _ _ _ c.packets.invariant.0

pub returns-clause-book : goal.returns-clause-book
returns-clause-book g c = fills_takes _ _ _ _ c.packets.invariant.0

pub returns-then-not-has_room-clause-waits : goal.returns-then-not-has_room-clause-waits
returns-then-not-has_room-clause-waits g c = λ none. (c.packets.invariant.2 none).0
