use Rattle.share_ingress.proofs.ReaderLemmas.{none_read, on_later, answers_later, answers_ended, bad_record}
use Rattle.share_ingress.proofs.reader.IngressReader.read_on.Goals as goal

pub record-init : goal.record-init
record-init g c = none_read _ _ _ c.requires

pub returns-in-Whole : goal.returns-in-Whole
returns-in-Whole g c = answers_later _ _ _ _ _ _ c.record.invariant c.give.ensures

pub end-requires : goal.end-requires
end-requires g c = rw (← c.self.view_is, ← c.as_slice.ensures) c.in-Bad.ensures

pub returns-in-Bad : goal.returns-in-Bad
returns-in-Bad g c =
    answers_later _ _ _ _ _ _ c.record.invariant (answers_ended _ _ _ _ _ _ _ (bad_record _ _ _
    (rw (← c.self.view_is, ← c.as_slice.ensures) c.in-Bad.ensures)) c.end.ensures.answer c.end.ensures.same)

pub read-requires-clause-more : goal.read-requires-clause-more
read-requires-clause-more g c = rw (← c.self.view_is, ← c.as_slice.ensures) c.in-Part.ensures

pub returns-in-Err : goal.returns-in-Err
returns-in-Err g c =
    answers_later _ _ _ _ _ _ c.record.invariant
    (answers_ended _ _ _ _ _ _ _ c.in-Err.ensures.read c.end-in-Err.ensures.answer c.end-in-Err.ensures.same)

pub record-preserved : goal.record-preserved
record-preserved g c = on_later _ _ _ _ _ c.record.invariant c.in_default.ensures.read
