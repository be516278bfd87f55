use Rattle.share_downlink.proofs.GivenLemmas.{gives_none, gives_then}
use Rattle.share_downlink.proofs.downlink.Downlink.take.Goals as goal

pub loop-index-init : goal.loop-index-init
loop-index-init g c = gives_none g.D.Deliver.delivers _ _

pub loop-index-preserved : goal.loop-index-preserved
loop-index-preserved g c =
    gives_then g.D.Deliver.delivers _ _ _ _ _ _ c.loop-index.invariant c.serve-is_more.ensures
