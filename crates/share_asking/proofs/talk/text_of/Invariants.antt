use Rattle.std.proofs.Common.{◌≡◌, map, take}
use Rattle.share_asking.specs.Conversation.{lines_bytes}
use Rattle.share_asking.proofs.talk.text_of.Given as goal

abbrev pub invariant-loop-line : goal.invariant-loop-line
invariant-loop-line l = l.text.items ≡ lines_bytes (map (λ line. line.now) (take l.line-index l.lines))
