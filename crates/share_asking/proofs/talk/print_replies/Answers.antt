use Rattle.std.proofs.Common.{[], ℕ, Bor, List}
use Rattle.share_asking.proofs.ConversationLemmas.{answered_append, texts_suc}
use Rattle.share_asking.proofs.talk.print_replies.Goals as goal

pub loop-line-preserved : goal.loop-line-preserved
loop-line-preserved g c =
    let none : Bor (List ℕ) = record { ref_ptr = (0, 0); now = [] } in
    rw (texts_suc c.args.lines.now c.loop-line.line-index none c.loop-line-test.true, c.either-is_refused.ensures)
    (answered_append _ _ _ _ _ _ _ _ _ _ c.loop-line.invariant c.in_ok-refused.ensures)
