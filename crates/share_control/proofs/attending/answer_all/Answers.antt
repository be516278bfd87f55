use Rattle.std.proofs.Common.{refl, ◌∙◌}
use Rattle.share_control.proofs.AttendingLemmas.{writes_none, writes_next}
use Rattle.share_control.proofs.attending.answer_all.Goals as goal

pub loop-init : goal.loop-init
loop-init g c = record { all = writes_none _ _ _ _ _ _; reader = refl }

pub loop-preserved : goal.loop-preserved
loop-preserved g c =
    let asked = c.in-Some-next_request.ensures.next in
    let answered = c.in_ok-answer.ensures in
    record {
      all = writes_next _ _ _ _ _ _ _ _ _ c.loop.invariant.all asked.0 _ asked.1 c.in-Some-next_request.request asked.2
          answered.0 _ answered.1 _ answered.2.0 answered.2.1;
      reader = c.next_request.ensures.reader ∙ c.loop.invariant.reader;
    }
