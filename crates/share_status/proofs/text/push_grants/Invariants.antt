use Rattle.std.proofs.Common.{◌≡◌, ◌++◌, take, map}
use Rattle.std.specs.Prelude.{flat_map}
use Rattle.json.specs.Tree.{json_tokens}
use Rattle.share_status.specs.Status.{grant_of}
use Rattle.share_status.proofs.text.push_grants.Given as goal

abbrev pub invariant-grants : goal.invariant-grants
invariant-grants l = l.text ≡ l.initial.text ++ flat_map json_tokens (map grant_of (take l.index l.grants))
