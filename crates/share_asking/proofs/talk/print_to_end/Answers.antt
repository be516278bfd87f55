use Rattle.std.proofs.Common.{rules, ◌≡◌, false, true}
use Rattle.share_asking.specs.Replies.{is_end}
use Rattle.share_asking.proofs.ConversationLemmas.{passed_end, passed_other}
use Rattle.share_asking.proofs.talk.print_to_end.Goals as goal

pub returns-then-is_end : goal.returns-then-is_end
returns-then-is_end g c =
    let end : is_end c.in_ok-row.row.items ≡ true = search rules in
    passed_end _ _ _ _ _ _ c.in_ok-row.row.items c.loop.invariant c.in_ok-row.ensures end

pub loop-preserved : goal.loop-preserved
loop-preserved g c =
    let other : is_end c.in_ok-row.row.items ≡ false = search rules in
    passed_other _ _ _ _ _ _ c.in_ok-row.row.items c.loop.invariant c.in_ok-row.ensures other
