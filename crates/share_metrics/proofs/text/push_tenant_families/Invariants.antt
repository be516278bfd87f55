use Rattle.std.proofs.Common.{◌≡◌, ◌++◌, take}
use Rattle.std.specs.Prelude.{flat_map}
use Rattle.share_metrics.specs.Metrics.{tenant_family}
use Rattle.share_metrics.proofs.text.push_tenant_families.Given as goal

abbrev pub invariant-families : goal.invariant-families
invariant-families l =
    l.text.items ≡ l.initial.text.items ++ flat_map (tenant_family l.exposition l.tenants) (take l.index l.families)
