use Rattle.std.proofs.Common.{◌+◌, inl, length, ap, refl}
use Rattle.share_gateway.specs.ByteQueue.{ByteQueueView}
use Rattle.share_gateway.proofs.RecordLemmas.{gives_item}
use Rattle.share_gateway.proofs.records.Records.next.Goals as goal

pub returns-in-Bad : goal.returns-in-Bad
returns-in-Bad c = (inl (rw (← c.self.view_is, ← c.as_slice-bytes.ensures) c.in-Bad.ensures), refl)

pub returns-in-Part : goal.returns-in-Part
returns-in-Part c = (
  rw (← c.self.view_is, ← c.as_slice-bytes.ensures) c.in-Part.ensures,
  rw (← c.self.view_is, ← c.as_slice-bytes.ensures) c.if-names_other.ensures,
  refl,
)

pub returns-in-Whole : goal.returns-in-Whole
returns-in-Whole c =
    rw (← c.self.view_is)
    (gives_item c.self.inside.name c.self.inside.bytes.bytes c.self.inside.bytes.given c.in-Whole.name
    c.give.new.self.given c.give.new.self.bytes c.in-Whole.size (3 + length c.as_bytes.result.now)
    (rw (← c.as_slice-bytes.ensures) c.if-names_other.ensures) (rw (← c.as_slice-bytes.ensures) c.in-Whole.ensures)
    (ap (λ t. 3 + length t) c.as_bytes.ensures.value) (ap (λ (q : ByteQueueView). q.given) c.give.ensures)
    (ap (λ (q : ByteQueueView). q.bytes) c.give.ensures))
