use Rattle.share_asking.proofs.ConversationLemmas.{PassedOthers}
use Rattle.share_asking.proofs.talk.print_to_end.Given as goal

abbrev pub invariant-loop : goal.invariant-loop
invariant-loop g l =
    PassedOthers (g.R.Read.remaining l.initial.replies) (g.R.Read.remaining l.replies)
    (g.W.Write.contents l.initial.output) (g.W.Write.contents l.output)
