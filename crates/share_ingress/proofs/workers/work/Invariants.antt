use Rattle.share_ingress.proofs.GateLemmas.{HasQueuedSome}
use Rattle.share_ingress.proofs.WorkerLemmas.{Working}
use Rattle.share_ingress.proofs.workers.work.Given as goal

abbrev pub invariant-loop : goal.invariant-loop
invariant-loop g l = record {
  working : Working g.R.TellingReader.left l.initial.reader l.reader l.initial.end l.end;
  running : HasQueuedSome g.R.TellingReader.gives g.G.Gate.told l.initial.reader l.initial.end l.initial.gate l.reader
      l.end l.gate;
}
