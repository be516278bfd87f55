use Rattle.std.proofs.Common.{◌≡◌, ◌≤◌, ◌+◌, vec_len, vec_capacity}
use Rattle.share_model.specs.lists.Each.{Each}
use Rattle.share_served.proofs.slots.filled.Given as goal

abbrev pub invariant-loop-end : goal.invariant-loop-end
invariant-loop-end g l = record {
  linked : Each (λ e. e.link ≡ g.L.LinkBrand.link) l.ends.items;
  room : vec_len l.ends + vec_len l.slots ≤ vec_capacity l.slots;
  places : vec_len l.ends + vec_len l.slots ≡ vec_len l.initial.ends;
}

abbrev pub decreases-loop-end : goal.decreases-loop-end
decreases-loop-end g l = vec_len l.ends
