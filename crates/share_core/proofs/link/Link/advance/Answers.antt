use Rattle.std.proofs.Common.{◌≡◌, false, subst, sym}
use Rattle.share_model.specs.link.View.{LinkView}
use Rattle.share_core.proofs.LifeLemmas.{living}
use Rattle.share_core.proofs.SentFrameLemmas.{sent, within, sound-advance}
use Rattle.share_core.proofs.link.Link.advance.Goals as goal

pub invariant_of-self : goal.invariant_of-self
invariant_of-self g c =
    let sound = c.self.invariant.1 in
    let t = sent _ _ c.args.due c.self.view_is c.requires.due in
    let fits = within _ _ c.args.due c.args.k c.self.view_is t c.requires.within in
    let unbroken = subst (λ (k : LinkView (Unit {0})). k.live.broken ≡ false) (sym c.self.view_is)
    c.requires.unbroken in (
      c.self.invariant.0,
      rw (c.from.ensures) (sound-advance _ _ _ c.args.due sound t
          (living _ _ c.self.view_is c.requires.living sound) unbroken c.args.k fits.0 c.requires.part),
    )
