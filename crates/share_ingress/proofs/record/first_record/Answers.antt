use Rattle.share_ingress.proofs.RecordLemmas.{name_length_bad, name_cut, name_bad, named}
use Rattle.share_ingress.proofs.record.first_record.Goals as goal

pub returns-then-length-eq0 : goal.returns-then-length-eq0
returns-then-length-eq0 c =
    name_length_bad _ _ (rw c.from-length.ensures c.in-Some.ensures.value) c.then-length-eq0.either

pub returns-then-bytes-length : goal.returns-then-bytes-length
returns-then-bytes-length c =
    name_cut _ _ (rw c.from-length.ensures c.in-Some.ensures.value) c.if-length-eq0.false c.if-length-gt-MAX_NAME.false
    c.if-bytes-length.true

pub returns-in-None : goal.returns-in-None
returns-in-None c =
    name_bad _ _ (rw c.from-length.ensures c.in-Some.ensures.value) c.if-length-eq0.false c.if-length-gt-MAX_NAME.false
    c.if-bytes-length.false c.in-None.ensures

pub returns-in-Some-read : goal.returns-in-Some-read
returns-in-Some-read c =
    named _ _ (rw c.from-length.ensures c.in-Some.ensures.value) c.if-length-eq0.false c.if-length-gt-MAX_NAME.false _ _
    c.if-bytes-length.false c.in-Some-read.ensures c.after_name.ensures
