use Rattle.std.proofs.Common.{◌≡◌, false, subst, sym}
use Rattle.share_model.specs.link.View.{LinkView}
use Rattle.share_core.proofs.LifeLemmas.{living}
use Rattle.share_core.proofs.BufferHandleLemmas.{booked_at, stands_in}
use Rattle.share_core.proofs.SentFrameLemmas.{sent, known, posts, out_few, joined, clock, sound-fail}
use Rattle.share_core.proofs.link.Link.fail.Goals as goal

pub charge_at-units-requires-clause-there : goal.charge_at-units-requires-clause-there
charge_at-units-requires-clause-there g c =
    booked_at c.self.invariant.1 c.args.due.buffer
    (stands_in _ _ c.args.due.buffer c.self.view_is c.requires.stands)

pub charge_at-units-requires-clause-known : goal.charge_at-units-requires-clause-known
charge_at-units-requires-clause-known g c =
    known _ _ _ c.args.due c.self.invariant.1 (sent _ _ c.args.due c.self.view_is c.requires.due)

pub charge_at-units-requires-clause-account : goal.charge_at-units-requires-clause-account
charge_at-units-requires-clause-account g c =
    posts _ _ _ c.args.due c.self.invariant.1
    (sent _ _ c.args.due c.self.view_is c.requires.due) c.self.invariant.0.0

pub charge_at-units-requires-clause-few : goal.charge_at-units-requires-clause-few
charge_at-units-requires-clause-few g c =
    out_few _ _ _ c.args.due c.self.invariant.1 (sent _ _ c.args.due c.self.view_is c.requires.due)

pub charge-requires-clause-there : goal.charge-requires-clause-there
charge-requires-clause-there g c =
    joined _ _ _ c.args.due c.self.invariant.1 (sent _ _ c.args.due c.self.view_is c.requires.due)

pub charge-requires-clause-clock : goal.charge-requires-clause-clock
charge-requires-clause-clock g c =
    let sound = c.self.invariant.1 in
    let t = sent _ _ c.args.due c.self.view_is c.requires.due in
    rw (c.charge_at-units.ensures.units)
    (clock _ _ _ c.args.due sound t (g.met.S.Rates.in_range c.self.inside.shelf) c.self.invariant.0.0
    (living _ _ c.self.view_is c.requires.living sound) _ (out_few _ _ _ c.args.due sound t))

pub invariant_of-self : goal.invariant_of-self
invariant_of-self g c =
    let sound = c.self.invariant.1 in
    let t = sent _ _ c.args.due c.self.view_is c.requires.due in
    let unbroken = subst (λ (k : LinkView (Unit {0})). k.live.broken ≡ false) (sym c.self.view_is)
    c.requires.unbroken in (
      c.self.invariant.0,
      rw (c.charge.ensures, c.charge_at-units.ensures.posted, c.charge_at-units.ensures.units)
          (sound-fail _ _ _ c.args.due sound t (g.met.S.Rates.in_range c.self.inside.shelf)
          (living _ _ c.self.view_is c.requires.living sound) unbroken),
    )
