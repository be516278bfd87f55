use Rattle.std.proofs.Common.{rules, refl}
use Rattle.share_doors.proofs.sender.Sender.put.Goals as goal

pub returns-in-Packet-clause-book : goal.returns-in-Packet-clause-book
returns-in-Packet-clause-book g c = record {
  one = record { payload = c.payload-payload.result.now; answer = c.take.result; packet = search rules };
  count = refl;
}
