use Rattle.std.proofs.Common.{refl}
use Rattle.share_downlink.proofs.GivenLemmas.{gives_none, gives_same}
use Rattle.share_downlink.proofs.downlink.Downlink.give.Goals as goal

pub returns-in_default : goal.returns-in_default
returns-in_default g c =
    gives_same g.D.Deliver.delivers _ _ _ _ _ _ (gives_none g.D.Deliver.delivers _ _) refl c.self.view_is
