use Rattle.std.proofs.Common.{◌≡◌, map, take, arith, take_all}
use Rattle.share_status.proofs.TokenLemmas.{on_ok, array_written}
use Rattle.share_status.specs.Status.{tenant_of}
use Rattle.share_status.proofs.text.push_tenants.Goals as goal

pub returns : goal.returns
returns c =
    let all : take c.tenants.index c.args.tenants.now ≡ c.args.tenants.now = take_all _ _ (omega arith) in
    on_ok _ (array_written _ _ _ _ _ _ (map tenant_of c.args.tenants.now)
    c.in_ok-key.ensures c.in_ok-begin_array.ensures
    (rw (← all) c.tenants.invariant))
    c.end_array.ensures
