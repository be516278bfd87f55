-- A link whose life is not over.
use Rattle.std.proofs.Common.{◌≡◌, ◌<◌, false, sym, subst}
use Rattle.share_model.specs.link.Calls.{is_spent}
use Rattle.share_model.specs.link.View.{LinkView}
use Rattle.share_model.proofs.lemmas.link.TurnLemmas.{events-below}
use Rattle.share_model.specs.run.Sound.{Sound}

-- a sound link that is not spent has made fewer events than its life
pub living : {W : Type 0} (s k : LinkView W) → s ≡ k → is_spent k ≡ false → Sound s.life s.rates s.live
    → s.live.counts.events < s.life
living s k same over sound = events-below s sound (subst (λ k. is_spent k ≡ false) (sym same) over)
