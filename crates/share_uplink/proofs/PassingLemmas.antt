-- The bytes that the wire takes, call by call.
use Rattle.std.proofs.Common.{◌≡◌, ◌≤◌, ◌-◌, ℕ, Bool, true, false, if◌then◌else◌, Result, Ok, Err, IfOk, IfErr}
use Rattle.std.proofs.Common.{List, [], ◌∷◌, ◌++◌, length, take, drop, arith, refl, sym, subst}
use Rattle.std.proofs.lemmas.Bool.Decides.{nat_tests}
use Rattle.std.proofs.lemmas.List.{length-append, length-drop, length-take}
use Rattle.std.specs.List.{concat}
use Rattle.std.specs.declared.io.Error.{Error}
use Rattle.share_gateway.specs.Outbox.{OutboxView, first_whole, goes_whole, ready_frame, ready_of, send_more}
use Rattle.share_sockets.specs.declared.progress.Progress.{Progress}
use Rattle.share_sockets.specs.declared.progress.Progress.TheVariants.{Moved, Again, Waits, Over}
use Rattle.share_transit.specs.Transit.{TransitView}
use Rattle.share_uplink.specs.Passing.{WireTakes, SendsFrames, SendsOne, frame, no_frame, nothing, piece}

-- one piece
pub takes_piece : (t : TransitView) (n : ℕ) (new : TransitView) → n ≤ length (ready_of t.outbox)
    → new ≡ record t { outbox = send_more n t.outbox } → WireTakes t new
takes_piece t n new few is = subst (λ (x : TransitView). WireTakes t x) (sym is) (piece t t (nothing t) n few)

-- pieces after others
pub takes_more : (s t u : TransitView) → WireTakes s t → WireTakes t u → WireTakes s u
takes_more s _ _ first (nothing t) = first
takes_more s _ _ first (piece t u later n few) = piece s u (takes_more s t u first later) n few

-- ---- Whole frames

fits : (n out allowed : ℕ) → goes_whole n out allowed ≡ true → (out ≡ 0) × (n ≤ allowed)
fits n out allowed is = (grind (arith, nat_tests, is), grind (arith, nat_tests, is))

whole_by : (b : Bool) (first others : List ℕ) (out allowed : ℕ)
    → (b ≡ true → (out ≡ 0) × (length first ≤ allowed))
    → length (if b then first else []) ≤ length (take (allowed - out) (drop out (first ++ others)))
whole_by true first others out allowed fit =
    let none : out ≡ 0 = (fit refl).0 in
    let few : length first ≤ allowed = (fit refl).1 in
    omega (
      arith,
      length-take (allowed - out) (drop out (first ++ others)),
      length-drop out (first ++ others),
      length-append first others,
    )
whole_by false first others out allowed fit = omega arith

whole_few : (frames : List (List ℕ)) (out allowed : ℕ)
    → length (first_whole frames out allowed) ≤ length (take (allowed - out) (drop out (concat frames)))
whole_few [] out allowed = omega arith
whole_few (first ∷ others) out allowed =
    whole_by (goes_whole (length first) out allowed) first (concat others) out allowed
    (λ is. fits (length first) out allowed is)

-- the frame that may go next is among the bytes that are ready
pub frame_few : (o : OutboxView) → length (ready_frame o) ≤ length (ready_of o)
frame_few o = whole_few o.frames o.out o.allowed

-- a call that sent the frame, or did nothing
sends_one : (s t u : TransitView) (progress : Progress) → SendsFrames s t → SendsOne t progress u
    → SendsFrames s u
sends_one s t u (Moved n) sends is = subst (λ (x : TransitView). SendsFrames s x) (sym is) (frame s t sends)
sends_one s t u Again sends is = subst (λ (x : TransitView). SendsFrames s x) (sym is) sends
sends_one s t u Waits sends is = subst (λ (x : TransitView). SendsFrames s x) (sym is) sends
sends_one s t u Over sends is = subst (λ (x : TransitView). SendsFrames s x) (sym is) sends

pub sends_call : (s t u : TransitView) (outcome : Result Progress Error) → SendsFrames s t
    → IfOk outcome (λ progress. SendsOne t progress u) → IfErr outcome (λ _. u ≡ t) → SendsFrames s u
sends_call s t u (Ok progress) sends sent failed = sends_one s t u progress sends sent
sends_call s t u (Err fault) sends sent failed = subst (λ (x : TransitView). SendsFrames s x) (sym failed) sends

-- frames are pieces
pub frames_taken : (s t : TransitView) → SendsFrames s t → WireTakes s t
frames_taken _ _ (no_frame t) = nothing t
frames_taken _ _ (frame s t sends) =
    piece s t (frames_taken s t sends) (length (ready_frame t.outbox)) (frame_few t.outbox)
