use Rattle.std.proofs.Common.{◌-◌, ◌≤◌, length, map, take}
use Rattle.std.specs.Io.KnownBytes.{Appends}
use Rattle.share_asking.specs.Conversation.{Answered, lines_bytes}
use Rattle.share_asking.proofs.talk.ask.Given as goal

abbrev pub decreases-batches : goal.decreases-batches
decreases-batches g l = length l.lines - l.from

abbrev pub invariant-batches : goal.invariant-batches
invariant-batches g l = record {
  within : l.from ≤ length l.lines;
  sent : Appends (g.S.Write.contents l.initial.requests) (g.S.Write.contents l.requests)
      (lines_bytes (map (λ line. line.now) (take l.from l.lines)));
  answered : Answered (g.R.Read.remaining l.initial.replies) (g.R.Read.remaining l.replies)
      (g.W.Write.contents l.initial.output) (g.W.Write.contents l.output)
      (map (λ line. line.now) (take l.from l.lines)) l.is_refused;
}
