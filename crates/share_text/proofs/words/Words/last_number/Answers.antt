use Rattle.std.proofs.Common.{sym, ◌∙◌, ap}
use Rattle.share_model.specs.text.Lines.{number_of}
use Rattle.share_text.specs.Words.{last}
use Rattle.share_text.proofs.ReadingLemmas.{last_number}
use Rattle.share_text.proofs.words.Words.last_number.Goals as goal

pub returns-in-Some : goal.returns-in-Some
returns-in-Some c =
    c.number_in.ensures ∙ sym (last_number c.in-Some.bytes.now) ∙ ap (last number_of) (sym c.in-Some.ensures)
