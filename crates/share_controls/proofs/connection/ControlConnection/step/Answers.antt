use Rattle.std.proofs.Common.{ap}
use Rattle.share_controls.specs.Controls.{ControlView, looked}
use Rattle.share_controls.proofs.LineLemmas.{comes_same, comes_then}
use Rattle.share_controls.proofs.connection.ControlConnection.step.Goals as goal

pub returns-in-Line-clause-found : goal.returns-in-Line-clause-found
returns-in-Line-clause-found c = (
  c.self.inside.lines.ahead,
  comes_same _ _ (ap (λ (v : ControlView). v.ahead) c.self.view_is),
  c.in-Line.ensures.next,
)

pub returns-in-OverLong-clause-found : goal.returns-in-OverLong-clause-found
returns-in-OverLong-clause-found c = (
  c.self.inside.lines.ahead,
  comes_same _ _ (ap (λ (v : ControlView). v.ahead) c.self.view_is),
  c.in-OverLong.ensures.next,
)

pub returns-then-not-self-clause-found : goal.returns-then-not-self-clause-found
returns-then-not-self-clause-found c =
    looked _ c.self.inside.lines.ahead _ c.next.new.self.line
    (comes_same _ _ (ap (λ (v : ControlView). v.ahead) c.self.view_is)) c.in-Unfinished.ensures.next

pub returns-in-Bytes-clause-came : goal.returns-in-Bytes-clause-came
returns-in-Bytes-clause-came c =
    comes_then _ c.next.new.self.ahead _ c.read.ensures.came.came
    (looked _ c.self.inside.lines.ahead _ c.next.new.self.line
    (comes_same _ _ (ap (λ (v : ControlView). v.ahead) c.self.view_is)) c.in-Unfinished.ensures.next)
    c.read.ensures.came.ahead

pub returns-in-Interrupted-clause-found : goal.returns-in-Interrupted-clause-found
returns-in-Interrupted-clause-found c =
    comes_then _ c.next.new.self.ahead _ c.read.ensures.came.came
    (looked _ c.self.inside.lines.ahead _ c.next.new.self.line
    (comes_same _ _ (ap (λ (v : ControlView). v.ahead) c.self.view_is)) c.in-Unfinished.ensures.next)
    c.read.ensures.came.ahead

pub returns-in-End-clause-found : goal.returns-in-End-clause-found
returns-in-End-clause-found c =
    comes_then _ c.next.new.self.ahead _ c.read.ensures.came.came
    (looked _ c.self.inside.lines.ahead _ c.next.new.self.line
    (comes_same _ _ (ap (λ (v : ControlView). v.ahead) c.self.view_is)) c.in-Unfinished.ensures.next)
    c.read.ensures.came.ahead
