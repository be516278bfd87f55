use Rattle.std.proofs.Common.{arith, refl}
use Rattle.share_ingress.proofs.GateLemmas.{running_none, running_more, ran_dropped, ran_over}
use Rattle.share_ingress.proofs.WorkerLemmas.{working_none, takes, worked_over, worked_dropped, working_more}
use Rattle.share_ingress.proofs.workers.work.Goals as goal

pub loop-init : goal.loop-init
loop-init g c = record { working = working_none g.R.TellingReader.gives _ _ _; running = running_none _ _ _ _ _ }

pub returns-in-Ended-clause-worked : goal.returns-in-Ended-clause-worked
returns-in-Ended-clause-worked g c =
    worked_over g.R.TellingReader.gives g.R.TellingReader.left g.met.R.TellingReader.tells _ _ _ _ _ _ _
    c.loop.invariant.working
    c.in-Ended.ensures.again c.in-Ended.ensures.first c.in-Ended.ensures.reason
    (rw (c.queued.ensures.count, c.queued-first.ensures.count) refl)

pub returns-in-Ended-clause-ran : goal.returns-in-Ended-clause-ran
returns-in-Ended-clause-ran g c =
    ran_over g.R.TellingReader.gives g.G.Gate.told _ _ _ _ _ _ c.loop.invariant.running _ _ g.R.TellingReader.left _
    c.in-Ended.ensures.again c.in-Ended.ensures.first c.in-Ended.ensures.reason
    (rw (c.queued.ensures.count, c.queued-first.ensures.count) refl)

pub returns-in-Err-clause-worked : goal.returns-in-Err-clause-worked
returns-in-Err-clause-worked g c =
    let taken = takes g.R.TellingReader.gives g.R.TellingReader.left _ _ _ _ c.in-Item.ensures.again
    c.in-Item.ensures.first in
    worked_dropped g.R.TellingReader.gives g.R.TellingReader.left _ _ _ _ _ _ _
    (record { name = c.in-Item.name; payload = c.in-Item.parcel }) c.loop.invariant.working taken
    c.in-Err.ensures.reader _ _ _ _ c.in-Err.ensures.end c.in-Err.ensures.gate.reason
    (rw (c.queued-in-Item.ensures.count, c.queued-first.ensures.count) (omega arith))

pub returns-in-Err-clause-ran : goal.returns-in-Err-clause-ran
returns-in-Err-clause-ran g c =
    let taken = takes g.R.TellingReader.gives g.R.TellingReader.left _ _ _ _ c.in-Item.ensures.again
    c.in-Item.ensures.first in
    ran_dropped g.R.TellingReader.gives g.G.Gate.told _ _ _ _ _ _ c.loop.invariant.running _ taken.calls _ _ _
    c.queued-first.ensures.count c.queued-in-Item.ensures.count refl _ c.before-in-Item.ensures _
    c.in-Err.ensures.reader _ _ _ c.in-Err.ensures.gate c.in-Err.ensures.end

pub loop-preserved : goal.loop-preserved
loop-preserved g c =
    let taken = takes g.R.TellingReader.gives g.R.TellingReader.left _ _ _ _ c.in-Item.ensures.again
    c.in-Item.ensures.first in
    record {
      working = working_more g.R.TellingReader.gives g.R.TellingReader.left _ _ _ _ _ _ _
          (record { name = c.in-Item.name; payload = c.in-Item.parcel }) c.loop.invariant.working taken
          c.in_default.ensures.reader c.in_default.ensures.end;
      running = running_more g.R.TellingReader.gives g.G.Gate.told _ _ _ _ _ _ c.loop.invariant.running _ taken.calls _
          _ _
          c.queued-first.ensures.count c.queued-in-Item.ensures.count refl _ c.before-in-Item.ensures _ _ _ _ _ _
          c.in_default.ensures.reader c.in_default.ensures.gate c.offered.ensures c.in_default.ensures.end;
    }
