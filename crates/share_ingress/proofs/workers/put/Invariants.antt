use Rattle.std.proofs.Common.{◌≡◌}
use Rattle.share_ingress.specs.Gates.{Waits}
use Rattle.share_ingress.proofs.workers.put.Given as goal

abbrev pub invariant-loop : goal.invariant-loop
invariant-loop g l = record {
  end : l.end ≡ record l.initial.end { refused = l.end.refused };
  reader : l.reader ≡ record l.initial.reader { reads_left = l.reader.reads_left };
  parcel : l.parcel ≡ l.fn.parcel;
  gate : Waits g.G.Gate.told l.initial.end l.initial.reader.reads_left l.initial.gate l.reader.reads_left
      l.end.refused l.gate;
}
