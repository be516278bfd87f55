use Rattle.share_doors.specs.Fills.{no_drop}
use Rattle.share_doors.proofs.FillLemmas.{drops_none, drops_then}
use Rattle.share_doors.proofs.door.Door.discard.Goals as goal

pub returns-then-not-self : goal.returns-then-not-self
returns-then-not-self c = no_drop _

pub packets-init : goal.packets-init
packets-init c = no_drop _

pub packets-preserved : goal.packets-preserved
packets-preserved c = drops_then _ _ _ c.packets.invariant c.discard_next.ensures

pub returns-then-idle-places : goal.returns-then-idle-places
returns-then-idle-places c =
    drops_then _ _ _ (drops_then _ _ _ c.packets.invariant c.discard_next.ensures)
    (drops_none _ _ c.self-in-packets.view_is)
