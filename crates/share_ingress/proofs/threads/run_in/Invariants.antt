use Rattle.std.proofs.Common.{◌≡◌, ◌≤◌, ◌+◌, [], MatchResult, vec_len, vec_capacity}
use Rattle.share_ingress.specs.Threads.{IsJobDone, IsNotStarted}
use Rattle.share_ingress.proofs.ThreadLemmas.{AreBegun, Joined}
use Rattle.share_ingress.proofs.threads.run_in.Given as goal

abbrev pub invariant-loop-job : goal.invariant-loop-job
invariant-loop-job g l = record {
  begun : AreBegun l.fn.jobs.items l.jobs.items l.begun.items
      (λ job slot. MatchResult slot (λ handle. handle.promise.0.value ≡ job) (IsNotStarted job));
  all : l.all.items ≡ [];
  len : vec_len l.all ≡ 0;
  total : vec_len l.begun + vec_len l.jobs ≡ vec_len l.fn.jobs;
  room : vec_len l.fn.jobs ≤ vec_capacity l.begun;
  space : vec_len l.fn.jobs ≤ vec_capacity l.all;
}

abbrev pub decreases-loop-job : goal.decreases-loop-job
decreases-loop-job g l = vec_len l.jobs

abbrev pub invariant-loop-one : goal.invariant-loop-one
invariant-loop-one g l = record {
  joined : Joined l.fn.jobs.items l.begun.items l.all.items
      (λ job slot. MatchResult slot (λ handle. handle.promise.0.value ≡ job) (IsNotStarted job))
      (IsJobDone g.R.TellingReader.gives g.R.TellingReader.left g.G.Gate.told);
  total : vec_len l.begun + vec_len l.all ≡ vec_len l.fn.jobs;
  space : vec_len l.fn.jobs ≤ vec_capacity l.all;
}

abbrev pub decreases-loop-one : goal.decreases-loop-one
decreases-loop-one g l = vec_len l.begun
