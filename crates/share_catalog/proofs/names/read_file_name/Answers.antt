use Rattle.std.proofs.Common.{sym, ◌∙◌}
use Rattle.share_catalog.proofs.NameLemmas.{no_stem, no_value, no_ending, no_kind, other_name}
use Rattle.share_catalog.proofs.NumberLemmas.{other_bytes}
use Rattle.share_catalog.proofs.names.read_file_name.Goals as goal

pub returns-in_err-digits : goal.returns-in_err-digits
returns-in_err-digits c =
    rw c.from_residual.ensures (no_stem c.args.name.now _ c.of-pieces.ensures c.in_err-digits.ensures)

pub returns-in_err-number : goal.returns-in_err-number
returns-in_err-number c =
    rw c.from_residual-in_err-number.ensures (no_value c.args.name.now _ _ _ c.of-pieces.ensures c.in_ok-digits.ensures
    c.in_err-number.ensures)

pub returns-in_err-word : goal.returns-in_err-word
returns-in_err-word c =
    rw c.from_residual-in_err-word.ensures (no_ending c.args.name.now _ _ _ c.of-pieces.ensures c.in_ok-digits.ensures
    c.in_err-word.ensures)

pub returns-in_err-kind : goal.returns-in_err-kind
returns-in_err-kind c =
    rw c.from_residual-in_err-kind.ensures (no_kind c.args.name.now _ _ _ _ _ c.of-pieces.ensures
    c.in_ok-digits.ensures c.in_ok-word.ensures c.in_err-kind.ensures)

pub returns-else-eq : goal.returns-else-eq
returns-else-eq c =
    other_name c.args.name.now _ _ _ _ _ (record { number = c.in_ok-number.number; kind = c.in_ok-kind.kind })
    c.of-pieces.ensures c.in_ok-digits.ensures c.in_ok-number.ensures c.in_ok-word.ensures c.in_ok-kind.ensures.1
    (λ e. other_bytes _ _ (sym c.if-eq.false ∙ c.eq.ensures) (c.as_bytes.ensures ∙ c.file_name.ensures.name ∙ e))
