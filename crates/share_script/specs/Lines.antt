-- A connection that is read line by line.
use Rattle.std.specs.Prelude.{◌≡◌, ◌<◌, ◌≤◌, ℕ, Bool, true, false, List, [], ◌∷◌, ◌++◌, length, map, nat_le, take}
use Rattle.std.specs.Prelude.{Option, None, Some, if◌then◌else◌}
use Rattle.share_model.specs.declared.reader.Got.{Got}
use Rattle.share_model.specs.declared.reader.Got.TheVariants.{Bytes, End, Interrupted, Failed}
use Rattle.share_model.specs.io.Given.{Gives}
use Rattle.share_model.specs.text.Talk.{lines_of}
use Rattle.share_script.specs.Script.{NoFeed}
use Rattle.share_script.specs.declared.lines.Incoming.{Incoming}
use Rattle.share_script.specs.declared.lines.Incoming.TheVariants.{Line, OverLong, Unfinished}

-- the reader, the line that was given last, and the bytes that came after it; if no line is given, it is empty
pub record Connection (R : Type 0) : Type 0 where
  pub reader : R
  pub line : List ℕ
  pub ahead : List ℕ

-- The next line

-- the bytes are a line, its line feed, and the rest
pub record FirstLine (bytes line rest : List ℕ) : Type 0 where
  pub whole : bytes ≡ line ++ 10 ∷ rest
  pub clean : NoFeed line

-- a line without its line feed so far, of which no more is kept than shows that it is too long
abbrev pub IsUnfinished : List ℕ → Type 0
IsUnfinished bytes = NoFeed bytes × (length bytes ≤ 20481)

-- the first line ahead is given, or it has more than 20480 bytes and is passed over, or its line feed did not come
abbrev pub IsNextLine : List ℕ → Incoming → List ℕ → List ℕ → Type 0
IsNextLine ahead Line line rest = FirstLine ahead line rest × (length line ≤ 20480)
IsNextLine ahead OverLong line rest = (line ≡ [])
    × ((long : List ℕ) × FirstLine ahead long rest × (20480 < length long))
IsNextLine ahead Unfinished line rest = (line ≡ []) × NoFeed ahead × IsUnfinished rest × (rest ≡ take 20481 ahead)

-- The lines of all that comes

-- none is a line of more than 20480 bytes
abbrev pub unless_long : List ℕ → Option (List ℕ)
unless_long line = if nat_le (length line) 20480 then Some line else None

abbrev pub incoming_lines : List ℕ → List (Option (List ℕ))
incoming_lines bytes = map unless_long (lines_of bytes)

abbrev pub given_by : Incoming → List ℕ → List (Option (List ℕ))
given_by Line line = Some line ∷ []
given_by OverLong _ = None ∷ []
given_by Unfinished _ = []

-- from a connection of which nothing was read: the text that was read, the lines that were given, and what is ahead
pub data Took : List ℕ → List (Option (List ℕ)) → List ℕ → Type 0 where
  took_nothing : Took [] [] []
  took_next : (text : List ℕ) (given : List (Option (List ℕ))) (ahead : List ℕ) (found : Incoming)
      (line rest : List ℕ)
      → Took text given ahead → IsNextLine ahead found line rest → Took text (given ++ given_by found line) rest
  took_read : (text : List ℕ) (given : List (Option (List ℕ))) (ahead came : List ℕ)
      → Took text given ahead → Took (text ++ came) given (ahead ++ came)

-- Reads

abbrev pub bytes_of : Got → List ℕ → List ℕ
bytes_of (Bytes n) buffer = take n buffer
bytes_of End buffer = []
bytes_of Interrupted buffer = []
bytes_of Failed buffer = []

-- one read call was made; the bytes that it gave came, and they are those that the reader reports
pub record ReadCall {R : Type 0} (left : R → Option (List ℕ)) (gives : R → List ℕ → Got → R → Type 0)
    (before : R) (got : Got) (after : R) (came : List ℕ) : Type 0 where
  pub buffer : List ℕ
  pub called : gives before buffer got after
  pub told : Gives (left before) buffer got (left after)
  pub came_is : came ≡ bytes_of got buffer

-- they come after what was ahead
pub record Came {R : Type 0} (left : R → Option (List ℕ)) (gives : R → List ℕ → Got → R → Type 0)
    (before : Connection R) (got : Got) (after : Connection R) : Type 0 where
  pub came : List ℕ
  pub call : ReadCall left gives before.reader got after.reader came
  pub ahead : after.ahead ≡ before.ahead ++ came
  pub no_line : after.line ≡ []

-- The bytes that a connection holds

-- the part of a line that was kept, and the bytes after it; the line is given, or its line feed did not come
abbrev pub connection : {R : Type 0} → R → List ℕ → List ℕ → Bool → Connection R
connection reader kept chunk is_given = record {
  reader = reader;
  line = if is_given then kept else [];
  ahead = (if is_given then [] else kept) ++ chunk;
}

-- the piece of a chunk up to its first line feed was kept, and the line feed passed; or the whole chunk was kept
abbrev pub IsPieceKept : List ℕ → List ℕ → Bool → List ℕ → List ℕ → Type 0
IsPieceKept kept chunk true now rest = (piece : List ℕ) × FirstLine chunk piece rest
    × (now ≡ take 20481 (kept ++ piece))
IsPieceKept kept chunk false now rest = NoFeed chunk × (rest ≡ []) × (now ≡ take 20481 (kept ++ chunk))
