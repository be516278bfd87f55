use Rattle.std.proofs.lemmas.Bool.Decides.{Decides-eqb}
use Rattle.std.proofs.lemmas.Slice.Eq.{slice_eq-Decides}
use Rattle.share_gateway.proofs.RecordLemmas.{other_by}
use Rattle.share_gateway.proofs.records.is_other.Goals as goal

pub returns : goal.returns
returns c =
    other_by c.args.name.now c.args.first c.args.rest.now c.from-length.result c.from-length.ensures
    c.if-length-eq0.false c.if-length-gt-MAX_NAME.false c.if-rest-length.false c.eq-is_same.result
    c.as_bytes.result.now c.as_bytes.ensures.value (slice_eq-Decides Decides-eqb _ _ _ c.eq-is_same.ensures)
