use Rattle.std.proofs.Common.{sym, ◌∙◌, ap}
use Rattle.std.specs.Str.{bytes_eq}
use Rattle.share_catalog.proofs.NumberLemmas.{not_a_number, another_spelling}
use Rattle.share_catalog.proofs.number.read_number.Goals as goal

pub returns-in_err-number : goal.returns-in_err-number
returns-in_err-number c = rw c.from_residual.ensures (not_a_number c.args.word.now c.in_err-number.ensures)

pub returns-else-eq : goal.returns-else-eq
returns-else-eq c =
    let text = c.as_bytes.ensures.value ∙ c.format.ensures.text in
    another_spelling c.args.word.now c.in_ok-number.number c.in_ok-number.ensures
    (sym c.if-eq.false ∙ c.eq.ensures ∙ ap (λ t. bytes_eq t c.args.word.now) text)
