use Rattle.std.proofs.Common.{◌≡◌, ◌+◌, ◌-◌, arith, drop, length, length-drop}
use Rattle.std.proofs.lemmas.List.{length-take}
use Rattle.share_asking.proofs.ConversationLemmas.{answered_append, sent_append, texts_add}
use Rattle.share_asking.proofs.talk.ask.Goals as goal

pub batches-preserved : goal.batches-preserved
batches-preserved g c =
    let lines = c.args.lines.now in
    let from = c.batches.from in
    let count = c.batch_len.result in
    let same : from + count - from ≡ count = omega arith in
    let step = texts_add lines from count in
    record {
      within = omega (arith, length-take (length lines - from) (drop from lines), length-drop from lines);
      sent = rw step (sent_append _ _ _ _ _ c.batches.invariant.sent (rw same at c.in_ok-refused.ensures.sent));
      answered = rw (step, c.either-is_refused.ensures)
          (answered_append _ _ _ _ _ _ _ _ _ _ c.batches.invariant.answered
          (rw same at c.in_ok-refused.ensures.answered));
    }
