use Rattle.std.proofs.Common.{◌≡◌, ◌++◌, take, map}
use Rattle.std.specs.Prelude.{flat_map}
use Rattle.json.specs.Tree.{json_tokens}
use Rattle.share_status.specs.Status.{tenant_of}
use Rattle.share_status.proofs.text.push_tenants.Given as goal

abbrev pub invariant-tenants : goal.invariant-tenants
invariant-tenants l = l.text ≡ l.initial.text ++ flat_map json_tokens (map tenant_of (take l.index l.tenants))
