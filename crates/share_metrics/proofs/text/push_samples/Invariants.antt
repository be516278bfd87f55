use Rattle.std.proofs.Common.{◌≡◌, ◌++◌, take}
use Rattle.share_metrics.specs.Metrics.{samples_text}
use Rattle.share_metrics.proofs.text.push_samples.Given as goal

abbrev pub invariant-tenants : goal.invariant-tenants
invariant-tenants l = l.text.items ≡ l.initial.text.items ++ samples_text l.family (take l.index l.tenants)
