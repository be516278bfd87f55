use Rattle.share_downlink.proofs.GivenLemmas.{cuts_nothing, cuts_one, gives_less, stays_same}
use Rattle.share_downlink.proofs.incoming.Incoming.give_all.Goals as goal

pub frames-init : goal.frames-init
frames-init g c = cuts_nothing g.D.Deliver.delivers _ _ _ _ _ _ (stays_same _ _ _)

pub frames-smaller : goal.frames-smaller
frames-smaller g c =
    gives_less g.D.Deliver.delivers _ _ _ _ _ _ c.in-Frame.flow c.in-Frame.seq c.in-Frame.tariff c.in-Frame.ensures

pub frames-preserved : goal.frames-preserved
frames-preserved g c =
    cuts_one g.D.Deliver.delivers _ _ _ _ _ _ _ _ _ c.in-Frame.flow c.in-Frame.seq c.in-Frame.tariff
    c.frames.invariant c.in-Frame.ensures
