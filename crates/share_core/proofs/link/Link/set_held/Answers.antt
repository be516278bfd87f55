use Rattle.std.proofs.Common.{◌∙◌, ◌&&◌, ap, not, sym}
use Rattle.share_model.specs.link.Buffers.{is_busy}
use Rattle.share_model.specs.link.View.{LinkView}
use Rattle.share_model.proofs.lemmas.run.QueueLemmas.{queue-later}
use Rattle.share_model.proofs.lemmas.run.SoundHoldLemmas.{sound-hold_flow}
use Rattle.share_core.proofs.ActivityLemmas.{can-set_active}
use Rattle.share_core.proofs.ArrivalLemmas.{stands-booked}
use Rattle.share_core.proofs.HoldLemmas.{stands_in}
use Rattle.share_core.proofs.LifeLemmas.{living}
use Rattle.share_core.proofs.link.Link.set_held.Goals as goal

pub hold-requires : goal.hold-requires
hold-requires g c =
    stands-booked c.self.invariant.1 c.args.flow (stands_in _ _ c.args.flow c.self.view_is c.requires.stands)

pub set_active-requires-clause-can : goal.set_active-requires-clause-can
set_active-requires-clause-can g c =
    can-set_active c.self.invariant.1 c.self.inside.queue (queue-later c.self.invariant.1.queue) c.args.flow
    c.is_awake-active.result

pub invariant_of-self : goal.invariant_of-self
invariant_of-self g c =
    let sound = c.self.invariant.1 in
    let stands = stands_in _ _ c.args.flow c.self.view_is c.requires.stands in
    let active = c.is_awake-active.ensures
    ∙ ap (λ (k : LinkView (Unit {0})). is_busy k.live.buffers c.args.flow && not c.args.held) (sym c.self.view_is) in (
      (c.self.invariant.0.0, c.set_active.ensures.levelled_with),
      rw (c.set_active.ensures.queue, c.set_active.ensures.ledger, c.hold.ensures, active)
          (sound-hold_flow sound (living _ _ c.self.view_is c.requires.living sound) c.args.flow c.args.held stands),
    )
