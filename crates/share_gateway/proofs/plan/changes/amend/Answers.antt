use Rattle.std.proofs.Common.{sym, arith, ◌<◌, ◌≤◌, length}
use Rattle.share_gateway.proofs.PlanChangeLemmas.{amended-at, unamended-at}
use Rattle.share_gateway.proofs.plan.changes.amend.Goals as goal

pub returns-then-index-len : goal.returns-then-index-len
returns-then-index-len c =
    let few : c.args.index < length c.args.grants.now.items = omega arith in
    amended-at c.args.index c.args.amount c.args.grants.now.items c.index_mut.result.now few c.index_mut.ensures.value

pub returns-else-index-len : goal.returns-else-index-len
returns-else-index-len c =
    let past : length c.args.grants.now.items ≤ c.args.index = omega arith in
    sym (unamended-at c.args.index c.args.amount c.args.grants.now.items past)
