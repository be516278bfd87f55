-- The text of a book: its first line, and then a line for each of its events.
use Rattle.std.specs.Prelude.{◌-◌, ℕ, List, ◌++◌, drop, length, codes}
use Rattle.share_base.specs.declared.command.Event.{Event}
use Rattle.share_base.specs.declared.command.Event.TheVariants.{Commanded, Arrived, Written, Faulted}
use Rattle.share_model.specs.text.Audit.{event_line, written_line}
use Rattle.share_text.specs.Lengths.{length_line}
use Rattle.share_book.specs.declared.book_text.TextKind.{TextKind}
use Rattle.share_book.specs.declared.book_text.TextKind.TheVariants.{Whole, Lengths}

-- ---- Lines

abbrev pub first_line : TextKind → List ℕ
first_line Whole = codes "audit 2\n"
first_line Lengths = codes "lengths 2\n"

-- in a text of lengths the line of a packet names the length of its payload in bytes
abbrev pub lengths_line : Event → List ℕ
lengths_line (Commanded c) = written_line (event_line (Commanded c))
lengths_line (Arrived flow body) = length_line flow (length body.payload)
lengths_line (Written k) = written_line (event_line (Written k))
lengths_line Faulted = written_line (event_line Faulted)

-- the line of an event
abbrev pub line_in : TextKind → Event → List ℕ
line_in Whole e = written_line (event_line e)
line_in Lengths e = lengths_line e

-- more bytes than this no line of an event has
abbrev pub longest_line : TextKind → ℕ
longest_line Whole = 18023
longest_line Lengths = 64

-- ---- The text that waits to be drained

-- the bytes that wait, and the most that may wait
pub record TextView : Type 0 where
  pub bytes : List ℕ
  pub space : ℕ

-- the number of bytes more that may wait
abbrev pub text_room : TextView → ℕ
text_room t = t.space - length t.bytes

abbrev pub with_bytes : TextView → List ℕ → TextView
with_bytes t more = record t { bytes = t.bytes ++ more }

-- the first n bytes were drained
abbrev pub after_drain : TextView → ℕ → TextView
after_drain t n = record t { bytes = drop n t.bytes }
