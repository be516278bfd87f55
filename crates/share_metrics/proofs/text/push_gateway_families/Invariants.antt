use Rattle.std.proofs.Common.{◌≡◌, ◌++◌, take}
use Rattle.std.specs.Prelude.{flat_map}
use Rattle.share_metrics.specs.Metrics.{gateway_family}
use Rattle.share_metrics.proofs.text.push_gateway_families.Given as goal

abbrev pub invariant-families : goal.invariant-families
invariant-families l =
    l.text.items ≡ l.initial.text.items ++ flat_map (gateway_family l.exposition l.status) (take l.index l.families)
