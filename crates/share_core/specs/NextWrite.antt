-- The write that is due, as the code sees it.
use Rattle.std.specs.Prelude.{◌≡◌, ◌<◌, ◌≤◌, ℕ, List, length, Option, None, Some, MatchBool}
use Rattle.share_base.specs.declared.command.Turn.{Turn}
use Rattle.share_base.specs.declared.command.Turn.TheVariants.{Idle, Broken, Spent}
use Rattle.share_model.specs.link.Calls.{is_spent}
use Rattle.share_model.specs.link.Frame.{header}
use Rattle.share_model.specs.link.Turns.{Sending, frame_of, sending, rest_of}
use Rattle.share_model.specs.link.View.{LinkView}
use Rattle.share_core.specs.declared.next_write.NextWrite.{NextWrite}

-- the flow and the number of the packet, the number of the flow's tariff, the bytes of the frame that are out, and its
-- length. The buffer of the flow stands at the given index
abbrev pub next_write_of : ℕ → Sending → NextWrite
next_write_of at s = record {
  buffer = record { flow = s.head.flow; at = at };
  seq = s.head.seq;
  tariff = s.tariff;
  out = s.out;
  length = length (frame_of s);
}

-- a frame is sent, and the write is its own, wherever the buffer of its flow stands
abbrev pub IsNextWriteOf : Option Sending → NextWrite → Type 0
IsNextWriteOf None due = ⊥
IsNextWriteOf (Some s) due = due ≡ next_write_of due.buffer.at s

-- a frame is sent, and these are the bytes before its payload
abbrev pub IsHeaderOf : Option Sending → List ℕ → Type 0
IsHeaderOf None bytes = ⊥
IsHeaderOf (Some s) bytes = bytes ≡ header s.version s.tariff s.head.flow s.head.seq (length s.head.payload)

-- k bytes, at least 1, are no more than what is left of the frame that is sent
abbrev pub IsWithinRest : Option Sending → ℕ → Type 0
IsWithinRest None k = ⊥
IsWithinRest (Some s) k = (0 < k) × (k ≤ length (rest_of s))

-- no write is due, and a turn answers why. The reasons, in order: the life is spent, the link is broken, or there is
-- nothing to send
abbrev pub WritesNothing : {W : Type 0} → LinkView W → Turn → Type 0
WritesNothing k turn =
    MatchBool (is_spent k) (turn ≡ Spent)
    (MatchBool k.live.broken (turn ≡ Broken) ((sending k.live ≡ None) × (turn ≡ Idle)))
