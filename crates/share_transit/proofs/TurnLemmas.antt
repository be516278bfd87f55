-- The effect of a turn on the frames that are due.
use Rattle.std.proofs.Common.{◌≡◌, ◌<◌, ℕ, ◌-◌, Bool, true, false, nat_lt, if◌then◌else◌}
use Rattle.std.proofs.Common.{List, [], ◌∷◌, ◌++◌, length, arith, refl, sym, subst}
use Rattle.std.proofs.lemmas.Bool.{ltb-true, ltb-false}
use Rattle.share_model.specs.link.Turns.{frame_of}
use Rattle.share_gateway.specs.Outbox.{OutboxView, empty_outbox, frame_bytes}
use Rattle.share_book.specs.Audited.{Audited}
use Rattle.share_book.specs.Book.{Turns}
use Rattle.share_book.specs.Sends.{lacks_room}
use Rattle.share_book.specs.declared.book.Turned.{Turned}
use Rattle.share_book.specs.declared.book.Turned.TheVariants.{NoText, NoRoom, Spent, Idle, Wrote}
use Rattle.share_transit.specs.declared.transit.Due.{Due}
use Rattle.share_transit.specs.Transit.{Trails, TransitView, TurnsInto}
use Rattle.share_transit.proofs.PacedLemmas.{put_is, frame_some, is_wrote, stays_is}
use Rattle.share_transit.proofs.TransitLemmas.{few-due, frame-trails}

pub empty-trails : (o : OutboxView) → o ≡ empty_outbox → Trails o []
empty-trails o is =
    subst (λ o. Trails o []) (sym is) (record {
      first = [];
      others = [];
      frames_are = refl;
      allowed_are = refl;
      out_are = omega arith;
      counts_are = refl;
      solid = tt;
    })

few_by : (b : Bool) (count held : ℕ) → nat_lt count 4096 ≡ b → nat_lt (if b then 65536 - held else 0) 9017 ≡ false
    → count < 4096
few_by true count held test room = ltb-true count 4096 test
few_by false count held test room = absurd (omega (arith, ltb-false 0 9017 room))

-- an outbox with room for the longest frame has few frames
few_frames : (o : OutboxView) → lacks_room o ≡ false → length o.frames < 4096
few_frames o room = few_by (nat_lt (length o.frames) 4096) (length o.frames) (length (frame_bytes o)) refl room

pub turned-room : (a : Audited) (o : OutboxView) (due : List Due) (flow seq count : ℕ) (new : Audited)
    (after : OutboxView) → Trails o due → Turns a o (Wrote flow seq count) new after → length due < 4096
turned-room a o due flow seq count new after t did =
    let p = put_is a o flow seq count new after did in
    omega (arith, few-due o due t, few_frames o p.room)

pub turned-trails : (a : Audited) (o : OutboxView) (due : List Due) (flow seq count ends : ℕ) (new : Audited)
    (after : OutboxView) → Trails o due → Turns a o (Wrote flow seq count) new after
    → Trails after (due ++ record { ends = ends; count = count } ∷ [])
turned-trails a o due flow seq count ends new after t did =
    let p = put_is a o flow seq count new after did in
    subst (λ o. Trails o (due ++ record { ends = ends; count = count } ∷ [])) (sym p.outbox)
    (frame-trails o due (frame_of p.frame) (record { ends = ends; count = count }) t (frame_some p.frame) p.count_is)

pub stays-trails : (a : Audited) (o : OutboxView) (due : List Due) (answer : Turned) (new : Audited)
    (after : OutboxView) → is_wrote answer ≡ false → Trails o due → Turns a o answer new after → Trails after due
stays-trails a o due answer new after none t did =
    subst (λ o. Trails o due) (sym (stays_is a o answer new after none did).1) t

-- a turn that did not write
pub stays-into : (old : TransitView) (before : Audited) (answer : Turned) (o : OutboxView) (after : Audited)
    → ((flow seq count : ℕ) → answer ≡ Wrote flow seq count → ⊥) → Turns before old.outbox answer after o
    → TurnsInto old before answer (record old { outbox = o }) after
stays-into old before (Wrote flow seq count) o after not did = absurd (not flow seq count refl)
stays-into old before NoText o after not did = record { outbox = o; turns = did; transit = refl }
stays-into old before NoRoom o after not did = record { outbox = o; turns = did; transit = refl }
stays-into old before Spent o after not did = record { outbox = o; turns = did; transit = refl }
stays-into old before Idle o after not did = record { outbox = o; turns = did; transit = refl }
