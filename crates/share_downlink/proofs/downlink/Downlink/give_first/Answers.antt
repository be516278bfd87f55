use Rattle.std.proofs.Common.{refl}
use Rattle.share_downlink.proofs.GivenLemmas.{first_gives, gives_none, gives_same}
use Rattle.share_downlink.proofs.downlink.Downlink.give_first.Goals as goal

pub returns-in_default : goal.returns-in_default
returns-in_default g c =
    gives_same g.D.Deliver.delivers _ _ _ _ _ _ (gives_none g.D.Deliver.delivers _ _) refl c.self.view_is

pub returns-then-is_over : goal.returns-then-is_over
returns-then-is_over g c =
    gives_same g.D.Deliver.delivers _ _ _ _ _ _ (gives_none g.D.Deliver.delivers _ _) refl c.self.view_is

pub returns : goal.returns
returns g c =
    rw (← c.self.view_is)
    (first_gives g.D.Deliver.delivers c.give_first-first.result _ _ _ _ _ _ c.give_first-first.ensures.given)
