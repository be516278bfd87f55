-- The view of a book in contracts, and the effects of its calls.
use Rattle.std.specs.Prelude.{◌≡◌, ◌⊎◌, ℕ, Bool, not, List, [], ◌∷◌, length, is_some, MatchOption, Option, None, Some}
use Rattle.std.specs.Prelude.{if◌then◌else◌}
use Rattle.share_base.specs.Body.{unstamped, is_payload_length}
use Rattle.share_base.specs.declared.command.Event.TheVariants.{Arrived, Written}
use Rattle.share_core.specs.Room.{has_room}
use Rattle.share_model.specs.funding.Changes.{flow_named, flow_number}
use Rattle.share_model.specs.funding.Graph.{NameBytes}
use Rattle.share_model.specs.link.Buffers.{Buffer, buffer_of}
use Rattle.share_model.specs.link.Calls.{is_spent}
use Rattle.share_model.specs.link.Live.{Live}
use Rattle.share_model.specs.link.Turns.{Sending, frame_of, sending}
use Rattle.share_book.specs.Audited.{Audited, after_event, lacks_text}
use Rattle.share_gateway.specs.Outbox.{OutboxView, with_frame}
use Rattle.share_gateway.specs.Plan.{PlanView}
use Rattle.share_book.specs.Sends.{lacks_room}
use Rattle.share_book.specs.declared.book.Taken.{Taken}
use Rattle.share_book.specs.declared.book.Taken.TheVariants.{Packet, Range, Spent, NoText, NoRoom, NoMemory}
use Rattle.share_book.specs.declared.book.Turned.{Turned}
use Rattle.share_book.specs.declared.book.Turned.TheVariants.{
  NoText as TurnNoText,
  NoRoom as TurnNoRoom,
  Spent as TurnSpent,
  Idle,
  Wrote,
}

-- the engine with its text, and the plan as it is
pub record BookView : Type 0 where
  pub audited : Audited
  pub plan : PlanView

-- the answer of the first test that holds, in the order of the table
abbrev pub first_of : {A : Type 0} → List (Bool × A) → Option A
first_of [] = None
first_of (row ∷ rows) = if row.0 then Some row.1 else first_of rows

-- ---- Taking

-- the number that the next packet of a buffer takes
abbrev pub next_in : Option Buffer → ℕ
next_in None = 0
next_in (Some b) = b.next

-- and of the flow of a name
abbrev pub next_number : Live → NameBytes → ℕ
next_number l name = next_in (buffer_of l.buffers (flow_number (flow_named l.graph name)))

-- why a packet of n bytes is not taken, memory aside
abbrev pub take_refusal : Audited → NameBytes → ℕ → Option Taken
take_refusal a name n = first_of (
    (not (is_payload_length n), Range)
    ∷ (is_spent a.link, Spent)
    ∷ (lacks_text a, NoText)
    ∷ (not (has_room a.link.live name), NoRoom)
    ∷ [])

-- the packet is an event, with its line, and takes the next number
pub record TakesPacket (old : Audited) (name payload : List ℕ) (taken : Taken) (new : Audited) : Type 0 where
  pub answer : taken ≡ Packet (next_number old.link.live name)
  pub event : new ≡ after_event old (Arrived name (unstamped payload))

-- unless one of these refusals stands, the packet is taken, or memory was refused for it; otherwise nothing changes
abbrev pub Takes : Audited → NameBytes → List ℕ → Taken → Audited → Type 0
Takes old name payload taken new =
    MatchOption (take_refusal old name (length payload))
    (TakesPacket old name payload taken new ⊎ ((taken ≡ NoMemory) × (new ≡ old)))
    (λ why. (taken ≡ why) × (new ≡ old))

-- ---- Turns

-- why no frame is sent
abbrev pub turn_refusal : Audited → OutboxView → Option Turned
turn_refusal a o = first_of (
    (lacks_text a, TurnNoText)
    ∷ (lacks_room o, TurnNoRoom)
    ∷ (is_spent a.link, TurnSpent)
    ∷ (not (is_some (sending a.link.live)), Idle)
    ∷ [])

-- the next frame went into the outbox as a whole: one event, with its line
pub record SendsFrame (old : Audited) (before : OutboxView) (s : Sending) (turned : Turned) (new : Audited)
    (after : OutboxView) : Type 0 where
  pub answer : turned ≡ Wrote s.head.flow s.head.seq (length (frame_of s))
  pub event : new ≡ after_event old (Written (length (frame_of s)))
  pub outbox : after ≡ with_frame before (frame_of s)

abbrev pub SendsNext : Audited → OutboxView → Option Sending → Turned → Audited → OutboxView → Type 0
SendsNext old before None turned new after = ⊥
SendsNext old before (Some s) turned new after = SendsFrame old before s turned new after

-- unless one of these refusals stands, the next frame is sent; otherwise nothing changes
abbrev pub Turns : Audited → OutboxView → Turned → Audited → OutboxView → Type 0
Turns old before turned new after =
    MatchOption (turn_refusal old before) (SendsNext old before (sending old.link.live) turned new after)
    (λ why. (turned ≡ why) × (new ≡ old) × (after ≡ before))
