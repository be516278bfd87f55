use Rattle.share_doors.specs.Fills.{no_drop}
use Rattle.share_doors.proofs.FillLemmas.{drops_then}
use Rattle.share_doors.proofs.door.Door.drop_waiting.Goals as goal

pub packets-init : goal.packets-init
packets-init c = no_drop _

pub packets-preserved : goal.packets-preserved
packets-preserved c = drops_then _ _ _ c.packets.invariant c.drop_packet.ensures

pub returns-then-not-drop_packet : goal.returns-then-not-drop_packet
returns-then-not-drop_packet c = drops_then _ _ _ c.packets.invariant c.drop_packet.ensures
