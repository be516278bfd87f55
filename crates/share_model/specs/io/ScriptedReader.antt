-- A reader over memory that answers as a script says.
use Rattle.std.specs.Prelude.{◌≡◌, ◌==◌, ◌<◌, ◌≤◌, ℕ, min, max, List, [], ◌∷◌, length, drop, Some, ⊤}
use Rattle.std.specs.Prelude.{if◌then◌else◌}
use Rattle.share_model.specs.declared.reader.Got.{Got}
use Rattle.share_model.specs.declared.reader.Got.TheVariants.{Bytes, End, Interrupted, Failed}
use Rattle.share_model.specs.io.Given.{Gives}

-- the answers that are left, and the bytes that are left
pub record ScriptedBytes : Type 0 where
  pub answers : List Got
  pub left : List ℕ

-- that many bytes, at least 1, cut to those that are left and to the room; the end if none is left
abbrev pub bytes_or_end : ℕ → ℕ → ℕ → Got
bytes_or_end left room k = if left == 0 then End else Bytes (min (min (max k 1) left) room)

-- an answer if that many bytes are left: it is the end only if none is
abbrev pub got_cut_to : ℕ → ℕ → Got → Got
got_cut_to left room (Bytes k) = bytes_or_end left room k
got_cut_to left room End = bytes_or_end left room room
got_cut_to left room Interrupted = Interrupted
got_cut_to left room Failed = Failed

-- the first of the answers that are left; if none is left, all bytes are given
abbrev pub next_got : List Got → ℕ → ℕ → Got
next_got [] left room = bytes_or_end left room room
next_got (got ∷ answers) left room = got_cut_to left room got

-- no more is given than is left and has room, and it is the end only if nothing is left
abbrev pub FitsIn : ℕ → ℕ → Got → Type 0
FitsIn left room (Bytes k) = (0 < k) × (k ≤ left) × (k ≤ room)
FitsIn left room End = left ≡ 0
FitsIn left room Interrupted = ⊤
FitsIn left room Failed = ⊤

-- the script goes on by one answer, which is given, and its bytes are those in front
pub record ScriptedGives (before : ScriptedBytes) (buffer : List ℕ) (got : Got) (after : ScriptedBytes) : Type 0 where
  pub next : after.answers ≡ drop 1 before.answers
  pub given : got ≡ next_got before.answers (length before.left) (length buffer)
  pub gives : Gives (Some before.left) buffer got (Some after.left)
