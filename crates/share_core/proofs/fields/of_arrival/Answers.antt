use Rattle.std.proofs.Common.{◌∙◌, sym, ap}
use Rattle.std.specs.List.{list_all}
use Rattle.share_model.specs.link.Fields.{is_byte}
use Rattle.share_core.proofs.fields.of_arrival.Goals as goal

pub returns : goal.returns
returns c = (
  c.as_bytes.ensures.name,
  record {
    some = c.as_slice.ensures.some;
    few = c.as_slice.ensures.few;
    bytes = ap (list_all is_byte) (sym c.as_slice.ensures.value) ∙ c.of_bytes.ensures;
  },
)
