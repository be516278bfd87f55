-- The outcome of the whole text of a book, run as a script.
use Rattle.std.specs.Prelude.{◌≡◌, ℕ, Bool, List, [], ◌∷◌, ◌++◌, flat_map, Option, None, Some}
use Rattle.std.specs.List.{concat}
use Rattle.std.specs.Io.KnownBytes.{Appends}
use Rattle.share_base.specs.declared.command.Event.{Event}
use Rattle.share_base.specs.declared.command.Event.TheVariants.{Commanded, Arrived, Written, Faulted}
use Rattle.share_base.specs.declared.version.Version.TheVariants.{Two}
use Rattle.share_model.specs.declared.rates.Rate.{Rate}
use Rattle.share_model.specs.io.Told.{Told}
use Rattle.share_model.specs.link.Live.{Live}
use Rattle.share_model.specs.link.Turns.{Sending, frame_of, sending}
use Rattle.share_model.specs.link.View.{LinkView}
use Rattle.share_model.specs.run.Fold.{State, empty_state, out, step}
use Rattle.share_model.specs.text.Talk.{start_of_script, talk, after, lines_of}
use Rattle.share_model.specs.text.Texts.{line_text}
use Rattle.share_book.specs.Audited.{Audited, IsRunAndText}
use Rattle.share_reconciliation.specs.Reconciled.{whole_text}

-- ---- The frames of a book

abbrev pub frame_by : Option Sending → List (List ℕ)
frame_by None = []
frame_by (Some s) = frame_of s ∷ []

-- the frame that a turn puts into the outbox is the one that the link sends next; other events put none
abbrev pub frames_by : Live → Event → List (List ℕ)
frames_by l (Commanded c) = []
frames_by l (Arrived flow body) = []
frames_by l (Written k) = frame_by (sending l)
frames_by l Faulted = []

-- the frames that these events put into the outbox, in order
unfoldable pub frames_from : List Rate → State → List Event → List (List ℕ)
frames_from rates s [] = []
frames_from rates s (e ∷ es) = frames_by s.live e ++ frames_from rates (step rates s e) es

-- the bytes of all frames that a book has put into the outbox
abbrev pub book_bytes : (a : Audited) → IsRunAndText a → List ℕ
book_bytes a text = concat (frames_from a.link.rates (empty_state Two) text.events)

-- ---- The script

-- the lines of the book's text
abbrev pub text_lines : (a : Audited) → IsRunAndText a → List (List ℕ)
text_lines a text = lines_of (whole_text a text)

-- run as a script with the book's tariffs, they are answered by the book's replies, one line each. They come to the
-- contents of the book's link and to the bytes of its frames
pub record IsReplayOfBook (a : Audited) (text : IsRunAndText a) (life : ℕ) (lacks : List Bool) : Type 0 where
  pub answers : talk life a.link.rates start_of_script lacks (text_lines a text) ≡ flat_map line_text text.replies
  pub live : (after life a.link.rates start_of_script lacks (text_lines a text)).state.live ≡ a.link.live
  pub bytes : out (after life a.link.rates start_of_script lacks (text_lines a text)).state ≡ book_bytes a text

-- the same of an engine that has run them, and of what was printed
pub record IsBookAgain (a : Audited) (text : IsRunAndText a) (before printed : Option (List ℕ)) (new : LinkView Told)
    : Type 0 where
  pub answers : Appends before printed (flat_map line_text text.replies)
  pub live : new.live ≡ a.link.live
  pub bytes : new.writer.bytes ≡ book_bytes a text
