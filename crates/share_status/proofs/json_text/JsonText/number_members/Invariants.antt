use Rattle.std.proofs.Common.{◌≡◌, ◌++◌, take}
use Rattle.std.specs.Prelude.{flat_map}
use Rattle.share_status.specs.Members.{number_member}
use Rattle.share_status.proofs.json_text.JsonText.number_members.Given as goal

abbrev pub invariant-members : goal.invariant-members
invariant-members l = l.self ≡ l.initial.self ++ flat_map number_member (take l.index l.members)
