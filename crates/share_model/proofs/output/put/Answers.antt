use Rattle.std.proofs.Common.{◌<◌, arith}
use Rattle.share_model.specs.io.Calls.{no_offers}
use Rattle.share_model.proofs.lemmas.io.CallLemmas.{offered_once, offers_more}
use Rattle.share_model.proofs.lemmas.io.OutputLemmas.{put_none, put_more}
use Rattle.share_model.proofs.output.put.Goals as goal

pub loop-at-init : goal.loop-at-init
loop-at-init g c = (put_none _ _, no_offers)

pub loop-at-preserved : goal.loop-at-preserved
loop-at-preserved g c =
    let some : 0 < c.in-Accepted.count = omega arith in (
      put_more _ _ _ _ _ _ c.loop-at.invariant.0 (g.met.V.TellingWriter.tells _ _ _ _ c.in-Accepted.ensures),
      offers_more c.loop-at.invariant.1 (offered_once _ _ c.in-Accepted.ensures some),
    )
