-- The view of an outbox in contracts, and the effects of its calls. An outbox holds frames on their way to the wire.
-- They leave in the order in which they came, byte by byte, and stay until their last byte is out.
use Rattle.std.specs.Prelude.{◌≡◌, ℕ, ◌+◌, ◌-◌, ◌==◌, min, Bool, true, false, ◌&&◌, nat_lt, nat_le, if◌then◌else◌}
use Rattle.std.specs.Prelude.{List, [], ◌∷◌, ◌++◌, length, map, take, drop}
use Rattle.std.specs.List.{concat}
use Rattle.share_model.specs.declared.writer.Answer.{Answer}
use Rattle.share_model.specs.declared.writer.Answer.TheVariants.{Accepted, Interrupted, Failed}
use Rattle.share_model.specs.io.Told.{Told}

-- the frames that are not out whole, and the number of bytes of the first of them that are out. Then comes the number
-- of bytes, from its beginning on, that may be out
pub record OutboxView : Type 0 where
  pub frames : List (List ℕ)
  pub out : ℕ
  pub allowed : ℕ

-- the bytes of all its frames
abbrev pub frame_bytes : OutboxView → List ℕ
frame_bytes o = concat o.frames

abbrev pub empty_outbox : OutboxView
empty_outbox = record { frames = []; out = 0; allowed = 0 }

-- a frame of n bytes has room: there are at most 4096 frames, and they have at most 65536 bytes together
abbrev pub takes : OutboxView → ℕ → Bool
takes o n = nat_lt (length o.frames) 4096 && nat_le (length (frame_bytes o) + n) 65536

-- the greatest length of a frame that has room, in bytes
abbrev pub room_of : OutboxView → ℕ
room_of o = if nat_lt (length o.frames) 4096 then 65536 - length (frame_bytes o) else 0

-- a frame was put after the others
abbrev pub with_frame : OutboxView → List ℕ → OutboxView
with_frame o frame = record o { frames = o.frames ++ frame ∷ [] }

-- n bytes more may be out, as far as there are frames
abbrev pub allow_more : ℕ → OutboxView → OutboxView
allow_more n o = record o { allowed = min (o.allowed + n) (length (frame_bytes o)) }

-- the bytes that may go next: of those that are not out, as many as are allowed
abbrev pub ready_of : OutboxView → List ℕ
ready_of o = take (o.allowed - o.out) (drop o.out (frame_bytes o))

-- no byte of a frame of n bytes is out, and all of them are allowed
abbrev pub goes_whole : ℕ → ℕ → ℕ → Bool
goes_whole n out allowed = out == 0 && nat_le n allowed

-- the first of these frames, if no byte of it is out and all of them are allowed
abbrev pub first_whole : List (List ℕ) → ℕ → ℕ → List ℕ
first_whole [] out allowed = []
first_whole (frame ∷ frames) out allowed = if goes_whole (length frame) out allowed then frame else []

-- the frame that may go next as one piece
abbrev pub ready_frame : OutboxView → List ℕ
ready_frame o = first_whole o.frames o.out o.allowed

-- that many bytes of these frames are out, and that many may be: a frame that is out whole is gone
unfoldable pub passed : List (List ℕ) → ℕ → ℕ → OutboxView
passed [] out allowed = record { frames = []; out = out; allowed = allowed }
passed (frame ∷ frames) out allowed =
    if nat_le (length frame) out then passed frames (out - length frame) (allowed - length frame)
    else record { frames = frame ∷ frames; out = out; allowed = allowed }

-- the frames that are out whole are gone
abbrev pub without_whole : OutboxView → OutboxView
without_whole o = passed o.frames o.out o.allowed

-- n bytes more are out
abbrev pub send_more : ℕ → OutboxView → OutboxView
send_more n o = without_whole (record o { out = o.out + n })

-- the rest begins at the beginning of its first frame
abbrev pub begun_again : OutboxView → OutboxView
begun_again o = record o { out = 0 }

-- a whole frame is taken, if it has room; otherwise the outbox stays as it is. No offer fails.
abbrev pub OutboxAnswers : OutboxView → List ℕ → Answer → OutboxView → Type 0
OutboxAnswers before piece (Accepted k) after =
    (k ≡ length piece) × (takes before (length piece) ≡ true) × (after ≡ with_frame before piece)
OutboxAnswers before piece Interrupted after = (takes before (length piece) ≡ false) × (after ≡ before)
OutboxAnswers before piece Failed after = ⊥

-- its reports: the bytes of its frames, and the length of each
abbrev pub outbox_told : OutboxView → Told
outbox_told o = record { bytes = frame_bytes o; counts = map (λ (frame : List ℕ). length frame) o.frames }

-- the frames that bytes consist of, by the length of each
abbrev pub frames_in : List ℕ → List ℕ → List (List ℕ)
frames_in [] bytes = []
frames_in (n ∷ lengths) bytes = take n bytes ∷ frames_in lengths (drop n bytes)
