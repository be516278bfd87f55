use Rattle.std.proofs.Common.{refl}
use Rattle.share_doors.proofs.FillLemmas.{fills_no_payload, fills_nothing, fills_of_port, fills_unread}
use Rattle.share_doors.proofs.door.Door.serve_port.Goals as goal

pub returns-in_default-clause-counted : goal.returns-in_default-clause-counted
returns-in_default-clause-counted g c = fills_nothing _ _ _ _ c.self.view_is refl

pub returns-then-is_over-clause-counted : goal.returns-then-is_over-clause-counted
returns-then-is_over-clause-counted g c = fills_nothing _ _ _ _ c.self.view_is refl

pub returns-in-Packet-clause-counted : goal.returns-in-Packet-clause-counted
returns-in-Packet-clause-counted g c =
    fills_of_port _ _ _ _ c.in-Packet.bytes _ _ c.self.view_is c.in-Packet.ensures.gives.0 c.count.ensures
    (record {
      one = record {
        payload = c.give.new.reader.packet;
        answer = c.in-Packet.ensures.gives.1.1.0;
        packet = c.in-Packet.ensures.gives.1.1.1;
      };
      count = c.in-Packet.ensures.gives.1.0;
    })

pub returns-in-Dropped-clause-counted : goal.returns-in-Dropped-clause-counted
returns-in-Dropped-clause-counted g c =
    fills_no_payload _ _ _ _ _ _ c.self.view_is c.in-Dropped.ensures.gives.0 c.count_dropped.ensures
    c.in-Dropped.ensures.gives.1

pub returns-in-More-clause-counted : goal.returns-in-More-clause-counted
returns-in-More-clause-counted g c =
    fills_unread _ _ _ _ _ c.self.view_is c.in-More.ensures.gives.0 c.in-More.ensures.gives.1

pub returns-in-Nothing-clause-counted : goal.returns-in-Nothing-clause-counted
returns-in-Nothing-clause-counted g c =
    fills_unread _ _ _ _ _ c.self.view_is c.in-Nothing.ensures.gives.0 c.in-Nothing.ensures.gives.1

pub returns-in-Over-clause-counted : goal.returns-in-Over-clause-counted
returns-in-Over-clause-counted g c =
    fills_unread _ _ _ _ _ c.self.view_is c.in-Over.ensures.gives.0 c.in-Over.ensures.gives.1
