-- The counts of a door, by the records and packets that its connections and its packet ports give a book.
use Rattle.std.specs.Prelude.{ℕ}
use Rattle.share_book.specs.Audited.{Audited}
use Rattle.share_doors.specs.Door.{DoorView, counted, dropped_one, read_one}
use Rattle.share_doors.specs.Takes.{TakesBytes}

-- Packets of the tenant were taken, one after the other, each was counted, and nothing else happened. Each packet that
-- was read of a packet port was taken, or dropped and counted.
pub data Fills : DoorView → Audited → DoorView → Audited → Type 0 where
  nothing : (d : DoorView) (a : Audited) → Fills d a d a
  packet : (d e : DoorView) (a b c : Audited) → Fills d a e b → (n : ℕ) → TakesBytes e.tenant n b c
      → Fills d a (counted n e) c
  of_port : (d e : DoorView) (a b c : Audited) → Fills d a e b → (n : ℕ) → TakesBytes e.tenant n b c
      → Fills d a (counted n (read_one e)) c
  no_payload : (d e : DoorView) (a b : Audited) → Fills d a e b → Fills d a (dropped_one (read_one e)) b

-- Packets were dropped, one after the other, and each was counted. Each packet that was read of a packet port is one of
-- these.
pub data Drops : DoorView → DoorView → Type 0 where
  no_drop : (d : DoorView) → Drops d d
  record_dropped : (d e : DoorView) → Drops d e → Drops d (dropped_one e)
  packet_dropped : (d e : DoorView) → Drops d e → Drops d (dropped_one (read_one e))
