-- A turn of a book: a whole frame, or none.
use Rattle.std.specs.Prelude.{◌≡◌, Bool, true, length, nat_lt, Option, None, Some}
use Rattle.share_base.specs.declared.command.Event.TheVariants.{Written}
use Rattle.share_base.specs.declared.command.Turn.{Turn}
use Rattle.share_base.specs.declared.command.Turn.TheVariants.{Idle, Wrote as WroteTurn}
use Rattle.share_model.specs.link.Turns.{Sending, frame_of}
use Rattle.share_book.specs.Audited.{Audited, after_event}
use Rattle.share_gateway.specs.Outbox.{OutboxView, room_of, with_frame}

-- the longest frame has no room in the outbox
abbrev pub lacks_room : OutboxView → Bool
lacks_room o = nat_lt (room_of o) 9017

-- the frame that is sent went into the outbox as a whole, and is an event, with its line
pub record SentWhole (old : Audited) (before : OutboxView) (s : Sending) (turn : Turn) (new : Audited)
    (after : OutboxView) : Type 0 where
  pub turn_is : turn ≡ WroteTurn s.head.flow s.head.seq (length (frame_of s)) true
  pub event : new ≡ after_event old (Written (length (frame_of s)))
  pub outbox : after ≡ with_frame before (frame_of s)

-- the next frame is sent; if there is none, nothing changes
abbrev pub SentNext : Audited → OutboxView → Option Sending → Turn → Audited → OutboxView → Type 0
SentNext old before None turn new after = (turn ≡ Idle) × (new ≡ old) × (after ≡ before)
SentNext old before (Some s) turn new after = SentWhole old before s turn new after
