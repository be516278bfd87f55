use Rattle.std.proofs.Common.{map, take}
use Rattle.share_asking.specs.Conversation.{Answered}
use Rattle.share_asking.proofs.talk.print_replies.Given as goal

abbrev pub invariant-loop-line : goal.invariant-loop-line
invariant-loop-line g l =
    Answered (g.R.Read.remaining l.initial.replies) (g.R.Read.remaining l.replies)
    (g.W.Write.contents l.initial.output) (g.W.Write.contents l.output)
    (map (λ line. line.now) (take l.line-index l.lines)) l.is_refused
