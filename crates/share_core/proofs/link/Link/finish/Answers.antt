use Rattle.std.proofs.Common.{◌≡◌, ◌≤◌, ◌∙◌, true, false, refl, subst, sym}
use Rattle.share_model.specs.link.View.{LinkView}
use Rattle.share_model.proofs.lemmas.run.SoundLinkLemmas.{units_due-few}
use Rattle.share_core.proofs.LifeLemmas.{living}
use Rattle.share_core.proofs.BufferHandleLemmas.{booked_at, stands_in}
use Rattle.share_core.proofs.SentFrameLemmas.{sent, within, known, posts, short, joined, clock, busy}
use Rattle.share_core.proofs.SentFrameLemmas.{charged-level, charged-can, due-stays, activity-stays, sound-finish}
use Rattle.share_core.proofs.SentFrameLemmas.{left, finished}
use Rattle.share_core.proofs.link.Link.finish.Goals as goal
use Rattle.share_core.proofs.link.Link.finish.Goals.{then-not-is_busy_at, else-not-is_busy_at}

pub charge_at-units-requires-clause-there : goal.charge_at-units-requires-clause-there
charge_at-units-requires-clause-there g c =
    booked_at c.self.invariant.1 c.args.due.buffer
    (stands_in _ _ c.args.due.buffer c.self.view_is c.requires.stands)

pub charge_at-units-requires-clause-known : goal.charge_at-units-requires-clause-known
charge_at-units-requires-clause-known g c =
    known _ _ _ c.args.due c.self.invariant.1 (sent _ _ c.args.due c.self.view_is c.requires.due)

pub charge_at-units-requires-clause-account : goal.charge_at-units-requires-clause-account
charge_at-units-requires-clause-account g c =
    posts _ _ _ c.args.due c.self.invariant.1
    (sent _ _ c.args.due c.self.view_is c.requires.due) c.self.invariant.0.0

pub charge_at-units-requires-clause-few : goal.charge_at-units-requires-clause-few
charge_at-units-requires-clause-few g c =
    short _ _ _ c.args.due c.self.invariant.1 (sent _ _ c.args.due c.self.view_is c.requires.due)

pub charge-requires-clause-there : goal.charge-requires-clause-there
charge-requires-clause-there g c =
    joined _ _ _ c.args.due c.self.invariant.1 (sent _ _ c.args.due c.self.view_is c.requires.due)

pub charge-requires-clause-clock : goal.charge-requires-clause-clock
charge-requires-clause-clock g c =
    let sound = c.self.invariant.1 in
    let t = sent _ _ c.args.due c.self.view_is c.requires.due in
    rw (c.charge_at-units.ensures.units)
    (clock _ _ _ c.args.due sound t (g.met.S.Rates.in_range c.self.inside.shelf) c.self.invariant.0.0
    (living _ _ c.self.view_is c.requires.living sound) _ (short _ _ _ c.args.due sound t))

pub pop_at-requires-clause-there : goal.pop_at-requires-clause-there
pop_at-requires-clause-there g c = stands_in _ _ c.args.due.buffer c.self.view_is c.requires.stands

pub pop_at-requires-clause-busy : goal.pop_at-requires-clause-busy
pop_at-requires-clause-busy g c =
    busy _ _ _ c.args.due c.self.invariant.1 (sent _ _ c.args.due c.self.view_is c.requires.due)

pub set_active-requires-clause-level : goal.set_active-requires-clause-level
set_active-requires-clause-level g c =
    let t = sent _ _ c.args.due c.self.view_is c.requires.due in
    rw (c.charge.ensures) (charged-level _ _ _ c.args.due c.self.invariant.1 t c.charge_at-units.result)

pub set_active-requires-clause-can : goal.set_active-requires-clause-can
set_active-requires-clause-can g c =
    let sound = c.self.invariant.1 in
    let t = sent _ _ c.args.due c.self.view_is c.requires.due in
    let few = subst (λ units. units ≤ 11842) (sym c.charge_at-units.ensures.units)
    (units_due-few _ _ c.args.due.buffer.flow _ (g.met.S.Rates.in_range c.self.inside.shelf)
    (short _ _ _ c.args.due sound t)) in
    rw (c.charge.ensures)
    (charged-can _ _ _ c.args.due sound t c.charge_at-units.result
    (living _ _ c.self.view_is c.requires.living sound) few false)

pub invariant_of-self : goal.invariant_of-self
invariant_of-self g c =
    let sound = c.self.invariant.1 in
    let t = sent _ _ c.args.due c.self.view_is c.requires.due in
    let fits = within _ _ c.args.due c.args.k c.self.view_is t c.requires.within in
    let unbroken = subst (λ (k : LinkView (Unit {0})). k.live.broken ≡ false) (sym c.self.view_is)
    c.requires.unbroken in
    let idle = left _ _ _ _ false c.pop_at.ensures.after c.is_busy_at.ensures c.if-not-is_busy_at.true in (
      (c.self.invariant.0.0, c.set_active.ensures.levelled_with),
      rw (
        c.set_active.ensures.queue,
        c.set_active.ensures.ledger,
        c.pop_at.ensures.after,
        c.charge.ensures,
        c.charge_at-units.ensures.posted,
        c.charge_at-units.ensures.units,
        c.from.ensures,
      )
          (rw (idle) at (sound-finish _ _ _ c.args.due sound t (g.met.S.Rates.in_range c.self.inside.shelf)
          (living _ _ c.self.view_is c.requires.living sound) unbroken c.args.k fits.1)),
    )

pub invariant_of-self-else-not-is_busy_at : goal.invariant_of-self-else-not-is_busy_at
invariant_of-self-else-not-is_busy_at g c =
    let sound = c.self.invariant.1 in
    let t = sent _ _ c.args.due c.self.view_is c.requires.due in
    let fits = within _ _ c.args.due c.args.k c.self.view_is t c.requires.within in
    let unbroken = subst (λ (k : LinkView (Unit {0})). k.live.broken ≡ false) (sym c.self.view_is)
    c.requires.unbroken in
    let still = left _ _ _ _ true c.pop_at.ensures.after c.is_busy_at.ensures c.if-not-is_busy_at.false in (
      c.self.invariant.0,
      rw (
        c.pop_at.ensures.after,
        c.charge.ensures,
        c.charge_at-units.ensures.posted,
        c.charge_at-units.ensures.units,
        c.from.ensures,
      )
          (rw (
            still,
            due-stays _ _ _ c.args.due sound t,
            activity-stays _ _ _ c.args.due sound t,
          ) at (sound-finish _ _ _ c.args.due sound t (g.met.S.Rates.in_range c.self.inside.shelf)
          (living _ _ c.self.view_is c.requires.living sound) unbroken c.args.k fits.1)),
    )

pub returns : goal.returns
returns g c =
    let sound = c.self.invariant.1 in
    let t = sent _ _ c.args.due c.self.view_is c.requires.due in
    finished _ _ _ c.args.due c.args.k c.self.view_is t
    (elim c.if-not-is_busy_at.branch [
      | then-not-is_busy_at w ↦
          let idle = left _ _ _ _ false c.pop_at.ensures.after c.is_busy_at.ensures w.if-not-is_busy_at.true in
          w.self-is ∙ rw (
            w.set_active.ensures.queue,
            w.set_active.ensures.ledger,
            idle,
            c.pop_at.ensures.after,
            c.charge.ensures,
            c.charge_at-units.ensures.posted,
            c.charge_at-units.ensures.units,
            c.from.ensures,
          ) refl
      | else-not-is_busy_at w ↦
          let still = left _ _ _ _ true c.pop_at.ensures.after c.is_busy_at.ensures w.if-not-is_busy_at.false in
          w.self-is ∙ rw (
            c.pop_at.ensures.after,
            c.charge.ensures,
            c.charge_at-units.ensures.posted,
            c.charge_at-units.ensures.units,
            c.from.ensures,
            still,
            due-stays _ _ _ c.args.due sound t,
            activity-stays _ _ _ c.args.due sound t,
          ) refl
    ])
