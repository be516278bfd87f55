use Rattle.std.proofs.Common.{◌≤◌, ℕ, List, length, rules, subst}
use Rattle.share_uplink.specs.Passing.{nothing}
use Rattle.share_uplink.proofs.PassingLemmas.{takes_piece}
use Rattle.share_uplink.proofs.passing.send_piece.Goals as goal

pub returns-in-Ok-Moved : goal.returns-in-Ok-Moved
returns-in-Ok-Moved c =
    takes_piece _ c.in-Ok-Moved.count _
    (subst (λ (bytes : List ℕ). c.in-Ok-Moved.count ≤ length bytes) c.ready.ensures (search rules))
    c.sent.ensures

pub returns : goal.returns
returns c = nothing _

pub returns-2 : goal.returns-2
returns-2 c = nothing _
