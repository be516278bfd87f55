use Rattle.share_status.proofs.TokenLemmas.{five_steps}
use Rattle.share_status.specs.Status.{tenant_plan}
use Rattle.share_status.proofs.text.push_plan.Goals as goal

pub returns : goal.returns
unfolding tenant_plan
returns c =
    let first = rw c.name_text.ensures at c.in_ok-string_member.ensures in
    let flow = rw c.from.ensures at c.in_ok-number_members.ensures in
    let tickets = rw c.from-2.ensures at c.in_ok-number_members-2.ensures in
    five_steps c.push_grants.result _ _ _ _ _ _ _ _ _ _ _ first flow c.in_ok-flag_member.ensures tickets
    c.push_grants.ensures
