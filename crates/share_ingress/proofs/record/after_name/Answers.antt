use Rattle.std.proofs.Common.{arith}
use Rattle.share_ingress.proofs.RecordLemmas.{byte_below, length_cut, length_bad, payload_cut, record_whole}
use Rattle.share_ingress.proofs.record.after_name.Goals as goal

pub returns-then-tail-lt2 : goal.returns-then-tail-lt2
returns-then-tail-lt2 c = length_cut _ _ c.requires c.if-tail-lt2.true

pub returns-then-size-eq0 : goal.returns-then-size-eq0
returns-then-size-eq0 c =
    length_bad _ _ c.requires _ _ c.if-tail-lt2.false c.from.ensures c.from-2.ensures c.then-size-eq0.either

pub returns-then-tail-size : goal.returns-then-tail-size
returns-then-tail-size c =
    payload_cut _ _ c.requires _ _ c.if-tail-lt2.false c.from.ensures c.from-2.ensures (omega (
      arith,
      c.if-size-eq0.false,
    ))
    c.if-size-gt-MAX_PAYLOAD.false c.if-tail-size.true

pub returns : goal.returns
returns c =
    record_whole _ _ c.requires _ _ c.if-tail-lt2.false c.from.ensures c.from-2.ensures (omega (
      arith,
      c.if-size-eq0.false,
    ))
    c.if-size-gt-MAX_PAYLOAD.false (byte_below _ (rw c.from-2.ensures (c.type_inv.tail 1))) c.if-tail-size.false
