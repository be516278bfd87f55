-- The whole life of a transit, over all books.
use Rattle.std.specs.Prelude.{◌≡◌, ◌≤◌, ◌<◌, ℕ, ◌+◌, List, [], ◌∷◌, ◌++◌, length, map, take, drop, Option, None, Some}
use Rattle.std.specs.List.{concat}
use Rattle.share_base.specs.declared.command.Event.{Event}
use Rattle.share_model.specs.link.Turns.{Sending, frame_of, sending}
use Rattle.share_book.specs.Audited.{Audited, after_event}
use Rattle.share_book.specs.declared.book.Turned.{Turned}
use Rattle.share_book.specs.declared.book.Turned.TheVariants.{NoText, NoRoom, Spent, Idle, Wrote}
use Rattle.share_gateway.specs.Outbox.{ready_of, send_more, begun_again}
use Rattle.share_gateway.specs.OutboxHistory.{AreParts}
use Rattle.share_transit.specs.Transit.{TransitView, TurnsInto, Hands, empty_transit, text_written}

-- a turn: its frame, and the length in bytes of the text of all books when its line was in it
pub record TextTurn : Type 0 where
  pub frame : List ℕ
  pub ends : ℕ

abbrev pub frames_of : List TextTurn → List (List ℕ)
frames_of turns = map (λ (t : TextTurn). t.frame) turns

abbrev pub turn_by : Option Sending → ℕ → List TextTurn
turn_by None ends = []
turn_by (Some s) ends = record { frame = frame_of s; ends = ends } ∷ []

-- the turn that was made, if one was
abbrev pub turn_made : Turned → Option Sending → ℕ → List TextTurn
turn_made (Wrote flow seq count) next ends = turn_by next ends
turn_made NoText next ends = []
turn_made NoRoom next ends = []
turn_made Spent next ends = []
turn_made Idle next ends = []

-- The calls from the beginning on. They have the text that was handed to the disk, and the turns. Then come what the
-- wire took before each `again`, the earliest first, and since the last one. Last come the transit and the open book. A
-- book makes other events between turns, and the next book is opened when all text of the one before was handed over.
pub data Paced : List ℕ → List TextTurn → List (List ℕ) → List ℕ → TransitView → Audited → Type 0 where
  began : (a : Audited) → Paced [] [] [] [] empty_transit a
  turned : (handed : List ℕ) (turns : List TextTurn) (before : List (List ℕ)) (given : List ℕ) (t : TransitView)
      (a : Audited)
      → Paced handed turns before given t a → (answer : Turned) (new : TransitView) (after : Audited)
      → TurnsInto t a answer new after
      → Paced handed (turns ++ turn_made answer (sending a.link.live) (length handed + length after.text.bytes)) before
      given new after
  happened : (handed : List ℕ) (turns : List TextTurn) (before : List (List ℕ)) (given : List ℕ) (t : TransitView)
      (a : Audited) → Paced handed turns before given t a → (e : Event)
      → Paced handed turns before given t (after_event a e)
  handed_over : (handed : List ℕ) (turns : List TextTurn) (before : List (List ℕ)) (given : List ℕ) (t : TransitView)
      (a : Audited)
      → Paced handed turns before given t a → (page filled : List ℕ) (new : TransitView) (after : Audited)
      → Hands t a page new after filled
      → Paced (handed ++ drop (length page) filled) turns before given new after
  wrote : (handed : List ℕ) (turns : List TextTurn) (before : List (List ℕ)) (given : List ℕ) (t : TransitView)
      (a : Audited) → Paced handed turns before given t a → (total : ℕ)
      → Paced handed turns before given (text_written total t) a
  sent : (handed : List ℕ) (turns : List TextTurn) (before : List (List ℕ)) (given : List ℕ) (t : TransitView)
      (a : Audited) → Paced handed turns before given t a → (n : ℕ) → n ≤ length (ready_of t.outbox)
      → Paced handed turns before (given ++ take n (ready_of t.outbox))
      (record t { outbox = send_more n t.outbox }) a
  again : (handed : List ℕ) (turns : List TextTurn) (before : List (List ℕ)) (given : List ℕ) (t : TransitView)
      (a : Audited) → Paced handed turns before given t a
      → Paced handed turns (before ++ given ∷ []) [] (record t { outbox = begun_again t.outbox }) a
  opened : (handed : List ℕ) (turns : List TextTurn) (before : List (List ℕ)) (given : List ℕ) (t : TransitView)
      (a : Audited) → Paced handed turns before given t a → a.text.bytes ≡ [] → (next : Audited)
      → Paced handed turns before given t next

-- the text of each of these turns is within the first n bytes
abbrev pub AreWithin : ℕ → List TextTurn → Type 0
AreWithin n [] = Unit {0}
AreWithin n (t ∷ ts) = (t.ends ≤ n) × AreWithin n ts

-- and of none of these
abbrev pub AreBeyond : ℕ → List TextTurn → Type 0
AreBeyond n [] = Unit {0}
AreBeyond n (t ∷ ts) = (n < t.ends) × AreBeyond n ts

-- The turns whose text is written are the first ones. The wire took their frames alone, in order, up to those that are
-- left, of which all bytes are ready that are not out. The frames of the other turns wait after them.
pub record FollowsText (handed : List ℕ) (turns : List TextTurn) (before : List (List ℕ)) (given : List ℕ)
    (t : TransitView) (a : Audited) : Type 0 where
  pub counted : t.handed ≡ length handed
  pub fits : t.written ≤ t.handed
  pub early : List TextTurn
  pub late : List TextTurn
  pub turns_are : turns ≡ early ++ late
  pub early_written : AreWithin t.written early
  pub late_unwritten : AreBeyond t.written late
  pub left : List (List ℕ)
  pub wire : AreParts (frames_of early) (before ++ given ∷ []) left
  pub ready : ready_of t.outbox ≡ drop t.outbox.out (concat left)
  pub kept : t.outbox.frames ≡ left ++ frames_of late
