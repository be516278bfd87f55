use Rattle.share_doors.proofs.FillLemmas.{drops_packet, drops_unread}
use Rattle.share_doors.proofs.door.Door.drop_packet.Goals as goal

pub returns-in-Dropped : goal.returns-in-Dropped
returns-in-Dropped c = drops_packet _ _ _ _ c.self.view_is c.in-Dropped.ensures c.count_dropped.ensures

pub returns-in-More : goal.returns-in-More
returns-in-More c = drops_unread _ _ _ c.self.view_is c.in-More.ensures

pub returns-in-Nothing : goal.returns-in-Nothing
returns-in-Nothing c = drops_unread _ _ _ c.self.view_is c.in-Nothing.ensures

pub returns-in-Over : goal.returns-in-Over
returns-in-Over c = drops_unread _ _ _ c.self.view_is c.in-Over.ensures
