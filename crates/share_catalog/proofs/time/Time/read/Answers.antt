use Rattle.std.proofs.Common.{sym, ◌∙◌}
use Rattle.share_catalog.proofs.NumberLemmas.{other_bytes}
use Rattle.share_catalog.proofs.TimeLemmas.{not_a_time, another_time, other_length}
use Rattle.share_catalog.proofs.time.Time.read.Goals as goal

pub returns-in_err-time : goal.returns-in_err-time
returns-in_err-time c =
    rw c.from_residual.ensures (not_a_time c.args.word.now _ _ _ _ _ _ c.four_at.ensures c.two_at.ensures.value
    c.two_at-2.ensures.value c.two_at-3.ensures.value c.two_at-4.ensures.value c.two_at-5.ensures.value
    c.in_err-time.ensures)

pub returns-else-eq : goal.returns-else-eq
returns-else-eq c =
    another_time c.args.word.now c.in_ok-time.time _ _ _ _ _ _ c.four_at.ensures c.two_at.ensures.value
    c.two_at-2.ensures.value c.two_at-3.ensures.value c.two_at-4.ensures.value c.two_at-5.ensures.value
    c.in_ok-time.ensures
    (λ e. other_bytes _ _ (sym c.if-eq.false ∙ c.eq.ensures) (c.as_slice.ensures ∙ c.text.ensures ∙ e))

pub returns-then-word-ne-LENGTH : goal.returns-then-word-ne-LENGTH
returns-then-word-ne-LENGTH c = other_length c.args.word.now c.if-word-ne-LENGTH.true
