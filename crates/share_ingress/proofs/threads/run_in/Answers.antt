use Rattle.std.proofs.Common.{◌≡◌, length, arith}
use Rattle.share_ingress.specs.Threads.{IsNotStarted, IsWorkDone}
use Rattle.share_ingress.proofs.ThreadLemmas.{begun_none, begun_more, joined_none, joined_more, joined_all, finished}
use Rattle.share_ingress.proofs.ThreadLemmas.{nil_of}
use Rattle.share_ingress.proofs.threads.run_in.Goals as goal

pub loop-job-init : goal.loop-job-init
loop-job-init g c = record {
  begun = rw c.in-Ok.ensures.items (begun_none _ _);
  all = c.in-Ok-with_capacity.ensures.items;
  len = c.in-Ok-with_capacity.ensures.len;
  total = omega (arith, c.in-Ok.ensures.len);
  room = omega (arith, c.in-Ok.ensures.capacity, c.len.ensures);
  space = omega (arith, c.in-Ok-with_capacity.ensures.capacity, c.len-2.ensures);
}

pub loop-job-preserved : goal.loop-job-preserved
loop-job-preserved g c = record {
  begun = begun_more _ _ _ _ _ _ c.in-Some.job c.start.result c.loop-job.invariant.begun c.in-Some.ensures.items
      c.put_last.ensures.items c.start.ensures;
  all = c.loop-job.invariant.all;
  len = c.loop-job.invariant.len;
  total = omega (arith, c.loop-job.invariant.total, c.in-Some.ensures.cases, c.put_last.ensures.len);
  room = omega (arith, c.loop-job.invariant.room, c.put_last.ensures.capacity);
  space = c.loop-job.invariant.space;
}

pub loop-one-init : goal.loop-one-init
loop-one-init g c =
    let none : length c.loop-job.jobs.items ≡ 0 = omega (
      arith,
      c.loop-job.jobs.ok.0,
      c.in_default-pop.ensures.cases.0,
    ) in
    record {
      joined = joined_none _ _ _ _ _ _ c.loop-job.invariant.begun (nil_of _ none) c.loop-job.invariant.all;
      total = omega (arith, c.loop-job.invariant.total, c.loop-job.invariant.len, c.in_default-pop.ensures.cases.0);
      space = c.loop-job.invariant.space;
    }

pub loop-one-preserved : goal.loop-one-preserved
loop-one-preserved g c = record {
  joined = joined_more _ _ _ _ _ _ _ c.in-Some-pop.one c.finish.result c.in-Some-pop.ensures.items
      c.put_last-in-Some-pop.ensures.items (finished c.in-Some-pop.one c.finish.result
      (IsWorkDone g.R.TellingReader.gives g.R.TellingReader.left g.G.Gate.told) IsNotStarted
      (λ handle. handle.promise.0.value)
      c.finish.ensures)
      c.loop-one.invariant.joined;
  total = omega (arith, c.loop-one.invariant.total, c.in-Some-pop.ensures.cases, c.put_last-in-Some-pop.ensures.len);
  space = omega (arith, c.loop-one.invariant.space, c.put_last-in-Some-pop.ensures.capacity);
}

pub returns-clause-each : goal.returns-clause-each
returns-clause-each g c =
    let none : length c.loop-one.begun.items ≡ 0 =
    omega (arith, c.loop-one.begun.ok.0, c.in_default-pop-2.ensures.cases.0) in
    joined_all _ _ _ _ _ c.loop-one.invariant.joined (nil_of _ none)
