use Rattle.std.proofs.Common.{refl, sym, ◌∙◌, inl, inr}
use Rattle.share_control.proofs.RequestLemmas.{at_ok, at_err, ready_locked}
use Rattle.share_control.proofs.requests.change.Goals as goal

pub returns-then-is_err : goal.returns-then-is_err
returns-then-is_err g c =
    at_err _ c.ready.result c.ready.ensures (sym c.is_err.ensures.value ∙ c.if-is_err.true)
    (λ e kept. inr (refl, kept.0))

pub returns : goal.returns
returns g c =
    at_ok _ c.ready.result c.ready.ensures (sym c.is_err.ensures.value ∙ c.if-is_err.false)
    (λ x ready. inl (ready_locked _ _ _ _ _ ready.0 c.obey_locked-said.ensures))
