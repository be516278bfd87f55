use Rattle.std.proofs.Common.{◌∙◌, refl, sym, true}
use Rattle.share_model.proofs.lemmas.run.QueueLemmas.{queue-later}
use Rattle.share_core.proofs.ActivityLemmas.{stays-active, stays-level, can-set_active, free_in, still_in}
use Rattle.share_core.proofs.ArrivalLemmas.{few_numbers, refused_full, took_number, sound-came, body_in}
use Rattle.share_core.proofs.LifeLemmas.{living}
use Rattle.share_core.proofs.BufferHandleLemmas.{buffered_at, stands_in}
use Rattle.share_core.proofs.link.Link.accept_at.Goals as goal
use Rattle.share_core.proofs.link.Link.accept_at.Goals.{then-wakes, else-wakes}

pub push_at-requires-clause-numbers : goal.push_at-requires-clause-numbers
push_at-requires-clause-numbers g c = few_numbers c.self.invariant.1 c.self.invariant.0.0 c.args.handle.now.flow

pub set_active-requires-clause-can : goal.set_active-requires-clause-can
set_active-requires-clause-can g c =
    can-set_active c.self.invariant.1 c.self.inside.queue (queue-later c.self.invariant.1.queue) c.args.handle.now.flow
    true

pub invariant_of-self : goal.invariant_of-self
invariant_of-self g c = rw (c.in_default.ensures.full.2) c.self.invariant

pub invariant_of-self-then-wakes : goal.invariant_of-self-then-wakes
invariant_of-self-then-wakes g c =
    let sound = c.self.invariant.1 in
    let there = buffered_at c.self.inside.buffers c.args.handle.now
    (stands_in _ _ c.args.handle.now c.self.view_is c.requires.stands) in
    let free = free_in _ _ c.args.handle.now.flow c.self.view_is (sym c.wakes_at-wakes.ensures ∙ c.if-wakes.true) in (
      (c.self.invariant.0.0, c.set_active.ensures.levelled_with),
      rw (c.set_active.ensures.queue, c.set_active.ensures.ledger, c.in-Ok.ensures.ok.1)
          (rw free at (sound-came sound (living _ _ c.self.view_is c.requires.living sound) c.args.handle.now.flow
          c.args.body.payload
          (body_in _ _ c.args.body.payload c.self.view_is c.requires.body) there)),
    )

pub invariant_of-self-else-wakes : goal.invariant_of-self-else-wakes
invariant_of-self-else-wakes g c =
    let sound = c.self.invariant.1 in
    let f = c.args.handle.now.flow in
    let there = buffered_at c.self.inside.buffers c.args.handle.now
    (stands_in _ _ c.args.handle.now c.self.view_is c.requires.stands) in
    let awake = still_in _ _ f c.self.view_is (sym c.wakes_at-wakes.ensures ∙ c.if-wakes.false) in (
      c.self.invariant.0,
      rw (c.in-Ok.ensures.ok.1) (rw (
        stays-level sound f _ awake c.self.inside.queue sound.level,
        stays-active sound f _ awake,
      ) at (sound-came sound (living _ _ c.self.view_is c.requires.living sound) f c.args.body.payload
          (body_in _ _ c.args.body.payload c.self.view_is c.requires.body) there)),
    )

pub returns-in_default : goal.returns-in_default
returns-in_default g c =
    let there = buffered_at c.self.inside.buffers c.args.handle.now
    (stands_in _ _ c.args.handle.now c.self.view_is c.requires.stands) in
    let full = c.in_default.ensures.full in
    refused_full _ _ c.refuse.new.self c.args.handle.now.flow c.args.body.payload c.refuse.result c.push_at.new.self
    c.self.view_is full.2 there full.1 c.refuse.ensures

pub returns : goal.returns
returns g c =
    let f = c.args.handle.now.flow in
    let there = buffered_at c.self.inside.buffers c.args.handle.now
    (stands_in _ _ c.args.handle.now c.self.view_is c.requires.stands) in
    let ok = c.in-Ok.ensures.ok in
    took_number _ _ _ f c.args.body.payload c.in-Ok.seq c.self.view_is there ok.0
    (elim c.if-wakes.branch [
      | then-wakes w ↦
          let free = free_in _ _ f c.self.view_is (sym c.wakes_at-wakes.ensures ∙ w.if-wakes.true) in
          w.self-is ∙ rw (w.set_active.ensures.queue, w.set_active.ensures.ledger, ok.1, free) refl
      | else-wakes w ↦
          let awake = still_in _ _ f c.self.view_is (sym c.wakes_at-wakes.ensures ∙ w.if-wakes.false) in
          w.self-is ∙ rw (
            ok.1,
            stays-level c.self.invariant.1 f _ awake c.self.inside.queue c.self.invariant.1.level,
            stays-active c.self.invariant.1 f _ awake,
          ) refl
    ])
