use Rattle.std.proofs.Common.{◌∙◌, ap, sym}
use Rattle.std.specs.List.{list_all}
use Rattle.share_model.specs.text.Lines.{is_byte}
use Rattle.share_text.proofs.spelling.push_send.Goals as goal

pub returns-clause-payload : goal.returns-clause-payload
returns-clause-payload c =
    (c.as_slice.ensures.some, ap (list_all is_byte) (sym c.as_slice.ensures.value) ∙ c.push_hex.ensures.all)
