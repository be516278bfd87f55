-- The view of the frames on their way to the wire and of the text on its way to the disk in contracts. The effects of
-- its calls. Text is counted in bytes over all books.
use Rattle.std.specs.Prelude.{◌≡◌, ◌≤◌, ◌<◌, ℕ, ◌+◌, ◌-◌, ◌^◌, min, max, nat_le, if◌then◌else◌}
use Rattle.std.specs.Prelude.{List, [], ◌∷◌, ◌++◌, length, map, take}
use Rattle.std.specs.List.{concat}
use Rattle.share_book.specs.Audited.{Audited}
use Rattle.share_book.specs.Book.{Turns}
use Rattle.share_book.specs.Texts.{after_drain}
use Rattle.share_book.specs.declared.book.Turned.{Turned}
use Rattle.share_book.specs.declared.book.Turned.TheVariants.{NoText, NoRoom, Spent, Idle, Wrote}
use Rattle.share_gateway.specs.Outbox.{OutboxView, empty_outbox, allow_more}
use Rattle.share_transit.specs.declared.transit.Due.{Due}

-- the outbox, and the frames whose text is not written, which are the last ones in it. Then come the bytes of text
-- handed to the disk, and those that it has written
pub record TransitView : Type 0 where
  pub outbox : OutboxView
  pub due : List Due
  pub handed : ℕ
  pub written : ℕ

abbrev pub empty_transit : TransitView
empty_transit = record { outbox = empty_outbox; due = []; handed = 0; written = 0 }

-- ---- The invariants

abbrev pub AreSolid : List (List ℕ) → Type 0
AreSolid [] = Unit {0}
AreSolid (frame ∷ frames) = (0 < length frame) × AreSolid frames

-- all bytes of the first frames are allowed, and those that are due are the others
pub record Trails (o : OutboxView) (due : List Due) : Type 0 where
  pub first : List (List ℕ)
  pub others : List (List ℕ)
  pub frames_are : o.frames ≡ first ++ others
  pub allowed_are : o.allowed ≡ length (concat first)
  pub out_are : o.out ≤ o.allowed
  pub counts_are : map (λ (frame : List ℕ). length frame) others ≡ map (λ (d : Due). d.count) due
  pub solid : AreSolid others

-- ---- Turns

-- the frame of a turn is due when the text that there is then is written
abbrev pub after_turn : TransitView → OutboxView → Turned → List ℕ → TransitView
after_turn t o (Wrote flow seq count) text =
    record t { outbox = o; due = t.due ++ record { ends = t.handed + length text; count = count } ∷ [] }
after_turn t o NoText text = record t { outbox = o }
after_turn t o NoRoom text = record t { outbox = o }
after_turn t o Spent text = record t { outbox = o }
after_turn t o Idle text = record t { outbox = o }

pub record TurnsInto (old : TransitView) (before : Audited) (turned : Turned) (new : TransitView) (after : Audited)
    : Type 0 where
  pub outbox : OutboxView
  pub turns : Turns before old.outbox turned after outbox
  pub transit : new ≡ after_turn old outbox turned after.text.bytes

-- ---- Text for the disk

-- the number of bytes of a text that go on a page: those that have room, of at most 2^64 - 1 over the whole life
abbrev pub handed_count : TransitView → List ℕ → List ℕ → ℕ
handed_count t page text = min (min (65536 - length page) (length text)) ((2 ^ 64 - 1) - t.handed)

-- they are at the end of the page, and drained
pub record Hands (old : TransitView) (before : Audited) (page : List ℕ) (new : TransitView) (after : Audited)
    (filled : List ℕ) : Type 0 where
  pub transit : new ≡ record old { handed = old.handed + handed_count old page before.text.bytes }
  pub book : after
      ≡ record before { text = after_drain before.text (handed_count old page before.text.bytes) }
  pub page_is : filled ≡ page ++ take (handed_count old page before.text.bytes) before.text.bytes

-- ---- Text that is written

-- the number of bytes of the first of these frames, those whose text ends within the first n bytes
abbrev pub due_bytes : ℕ → List Due → ℕ
due_bytes n [] = 0
due_bytes n (d ∷ ds) = if nat_le d.ends n then d.count + due_bytes n ds else 0

-- and the frames after them
abbrev pub still_due : ℕ → List Due → List Due
still_due n [] = []
still_due n (d ∷ ds) = if nat_le d.ends n then still_due n ds else d ∷ ds

-- these bytes more are allowed, and these frames are due
abbrev pub settled : TransitView → TransitView
settled t = record t {
  outbox = allow_more (due_bytes t.written t.due) t.outbox;
  due = still_due t.written t.due;
}

-- the disk has written that many bytes, as far as they were handed to it, and no fewer than before
abbrev pub text_written : ℕ → TransitView → TransitView
text_written total t = settled (record t { written = max t.written (min total t.handed) })
