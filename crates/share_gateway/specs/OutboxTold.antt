-- An outbox does what its `told` says.
use Rattle.std.specs.Prelude.{◌≡◌, ℕ, List, [], ◌∷◌, ◌++◌, length, take, Some}
use Rattle.std.specs.List.{concat}
use Rattle.std.proofs.Common.{arith, ap, sym, ◌∙◌}
use Rattle.std.proofs.lemmas.List.{append-nil, map-append, take_all}
use Rattle.std.proofs.lemmas.List.Folds.{concat-append}
use Rattle.share_model.specs.declared.writer.Answer.{Answer}
use Rattle.share_model.specs.declared.writer.Answer.TheVariants.{Accepted, Interrupted, Failed}
use Rattle.share_model.specs.io.Told.{WasTold, with_first}
use Rattle.share_gateway.specs.Outbox.{OutboxView, OutboxAnswers, with_frame, outbox_told}

-- one more frame is reported as one more call
told_more : (o : OutboxView) (piece : List ℕ) → outbox_told (with_frame o piece)
    ≡ with_first (outbox_told o) piece (length piece)
told_more o piece =
    let bytes : concat (o.frames ++ piece ∷ []) ≡ concat o.frames ++ take (length piece) piece =
    concat-append o.frames (piece ∷ [])
    ∙ ap (λ t. concat o.frames ++ t) (append-nil piece ∙ sym (take_all (length piece) piece (omega arith))) in
    let counts = map-append (λ (frame : List ℕ). length frame) o.frames (piece ∷ []) in
    (λ k. record { bytes = bytes k; counts = counts k })

pub outbox_tells : (before : OutboxView) (piece : List ℕ) (answer : Answer) (after : OutboxView)
    → OutboxAnswers before piece answer after
    → WasTold (Some (outbox_told before)) piece answer (Some (outbox_told after))
outbox_tells before piece (Accepted k) after did =
    rw (did.2, did.0) (omega arith, ap Some (told_more before piece))
outbox_tells before piece Interrupted after did = ap (λ o. Some (outbox_told o)) did.1
outbox_tells before piece Failed after did = absurd did
