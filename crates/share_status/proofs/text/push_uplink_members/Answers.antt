use Rattle.share_status.proofs.TokenLemmas.{three_steps}
use Rattle.share_status.specs.Status.{uplink_members}
use Rattle.share_status.proofs.text.push_uplink_members.Goals as goal

pub returns : goal.returns
unfolding uplink_members
returns c =
    let first = rw c.uplink_state_of.ensures at c.in_ok-string_member.ensures in
    three_steps c.number_members.result _ _ _ _ _ _ _ first c.in_ok-push_address.ensures c.number_members.ensures
