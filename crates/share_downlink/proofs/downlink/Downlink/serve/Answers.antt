use Rattle.std.proofs.Common.{refl}
use Rattle.share_downlink.proofs.GivenLemmas.{gives_same, gives_then}
use Rattle.share_downlink.proofs.downlink.Downlink.serve.Goals as goal

pub returns-in-Given : goal.returns-in-Given
returns-in-Given g c =
    gives_then g.D.Deliver.delivers _ _ _ _ _ _
    (gives_same g.D.Deliver.delivers _ _ _ _ _ _ c.give_first.ensures refl c.replace_before.ensures)
    c.give-in-Given.ensures
