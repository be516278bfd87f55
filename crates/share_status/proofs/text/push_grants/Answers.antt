use Rattle.std.proofs.Common.{◌≡◌, map, take, arith, take_all}
use Rattle.share_status.proofs.TokenLemmas.{on_ok, array_written}
use Rattle.share_status.specs.Status.{grant_of}
use Rattle.share_status.proofs.text.push_grants.Goals as goal

pub returns : goal.returns
returns c =
    let all : take c.grants.index c.args.grants.now ≡ c.args.grants.now = take_all _ _ (omega arith) in
    on_ok _ (array_written _ _ _ _ _ _ (map grant_of c.args.grants.now) c.in_ok-key.ensures c.in_ok-begin_array.ensures
    (rw (← all) c.grants.invariant))
    c.end_array.ensures
