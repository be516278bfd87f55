use Rattle.std.proofs.Common.{◌≡◌, ◌≤◌, ◌+◌, ◌-◌, vec_len, vec_capacity}
use Rattle.share_served.proofs.slots.with_clerks.Given as goal

abbrev pub invariant-loop-alloc : goal.invariant-loop-alloc
invariant-loop-alloc g l = record {
  made : l.locked ≡ record l.initial.locked { clerks = l.initial.locked.clerks + vec_len l.slots };
  few : l.initial.locked.clerks + l.count ≤ 8;
  fits : vec_len l.slots ≤ l.count;
  room : l.count ≤ vec_capacity l.slots;
}

abbrev pub decreases-loop-alloc : goal.decreases-loop-alloc
decreases-loop-alloc g l = l.count - vec_len l.slots
