use Rattle.std.proofs.Common.{refl, ◌∙◌, ap}
use Rattle.share_controls.specs.Controls.{ControlView, nothing}
use Rattle.share_controls.proofs.LineLemmas.{comes_more, seeks_more}
use Rattle.share_controls.proofs.connection.ControlConnection.advance.Goals as goal

pub calls-init : goal.calls-init
calls-init c = (nothing _, refl)

pub returns-in-Some-clause-seeks : goal.returns-in-Some-clause-seeks
returns-in-Some-clause-seeks c = seeks_more _ _ _ _ _ c.calls.invariant.0 c.in-Some.ensures.found

pub calls-preserved : goal.calls-preserved
calls-preserved c = (
  comes_more _ _ _ c.calls.invariant.0 c.in-None.ensures.came,
  c.step.ensures.same
      ∙ ap (λ (v : ControlView). record v {
        line = c.step.new.self.line;
        ahead = c.step.new.self.ahead;
        reads = c.step.new.self.reads;
        has_ended = c.step.new.self.has_ended;
      }) c.calls.invariant.1,
)
