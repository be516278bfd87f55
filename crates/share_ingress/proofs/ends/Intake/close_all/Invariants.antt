use Rattle.std.proofs.Common.{◌≡◌, vec_len}
use Rattle.share_model.specs.lists.Each.{Each}
use Rattle.share_ingress.specs.Gathers.{IsTaken}
use Rattle.share_ingress.proofs.IntakeLemmas.{ClosedEnds}
use Rattle.share_ingress.proofs.ends.Intake.close_all.Given as goal

abbrev pub invariant-loop-end : goal.invariant-loop-end
invariant-loop-end l = record {
  link : Each (λ e. e.link ≡ l.initial.intake.link) l.ends.items;
  taken : Each (IsTaken l.initial.intake.popped) l.ends.items;
  closed : ClosedEnds l.initial.intake l.initial.ends.items l.intake l.ends.items;
}

abbrev pub decreases-loop-end : goal.decreases-loop-end
decreases-loop-end l = vec_len l.ends
