-- A whole script: its lines, the answer to each, and what its link comes to. Every write is taken to accept all that it
-- was offered.
use Rattle.std.specs.Prelude.{◌≢◌, ℕ, ◌+◌, ◌==◌, Bool, true, false, ◌&&◌, List, [], ◌∷◌, ◌++◌, codes, drop, length, min}
use Rattle.std.specs.Prelude.{Option, None, Some, Result, Ok, Err, is_none, if◌then◌else◌}
use Rattle.std.specs.List.{slice_split}
use Rattle.std.specs.Str.{bytes_eq}
use Rattle.share_base.specs.Body.{BodyView}
use Rattle.share_base.specs.declared.refusal.Refusal.{Refusal}
use Rattle.share_base.specs.declared.refusal.Refusal.TheVariants.{NoMemory, Spent as SpentRefusal, Syntax}
use Rattle.share_base.specs.declared.command.Command.{Command}
use Rattle.share_base.specs.declared.command.Reply.TheVariants.{Refused}
use Rattle.share_base.specs.declared.command.Turn.{Turn}
use Rattle.share_base.specs.declared.command.Turn.TheVariants.{Idle, Broken, Spent}
use Rattle.share_base.specs.declared.command.Event.{Event}
use Rattle.share_base.specs.declared.command.Event.TheVariants.{Commanded, Arrived, Written, Faulted}
use Rattle.share_base.specs.declared.command.Outcome.TheVariants.{Replied, Turned}
use Rattle.share_base.specs.declared.version.Version.{Version}
use Rattle.share_base.specs.declared.version.Version.TheVariants.{One, Two}
use Rattle.share_model.specs.declared.line.Line.{Line}
use Rattle.share_model.specs.declared.line.Line.TheVariants.{Change, Send, Turn as TurnLine, Torn, Report, Audit}
use Rattle.share_model.specs.declared.rates.Rate.{Rate}
use Rattle.share_model.specs.link.Live.{life_is_spent}
use Rattle.share_model.specs.link.Commands.{takes_memory, command_refusal}
use Rattle.share_model.specs.link.Turns.{Sending, sending, rest_of}
use Rattle.share_model.specs.run.Events.{write_of}
use Rattle.share_model.specs.run.Fold.{State, empty_state, step, outcome}
use Rattle.share_model.specs.lists.Each.{Each}
use Rattle.share_model.specs.text.Lines.{reading}
use Rattle.share_model.specs.text.Report.{report}
use Rattle.share_model.specs.text.Texts.{line_text}

-- A script in progress: what its link came to, the number of its lines answered, and the count of each write

pub record Progress : Type 0 where
  pub state : State
  pub lines : ℕ
  pub writes : List ℕ

-- a script is of version 1 until its first line says another
abbrev pub start_of_script : Progress
start_of_script = record { state = empty_state One; lines = 0; writes = [] }

-- one more line was answered, without an event
abbrev pub onward : Progress → Progress
onward p = record { state = p.state; lines = p.lines + 1; writes = p.writes }

-- one more line was answered, with this event
abbrev pub after_event : List Rate → Progress → Event → Progress
after_event rates p e = record { state = step rates p.state e; lines = p.lines + 1; writes = p.writes ++ write_of e }

-- the first line named the version, and the link is a new one of this version
abbrev pub with_version : Progress → Version → Progress
with_version p version = record { state = empty_state version; lines = p.lines + 1; writes = p.writes }

-- The effect of a line: an event; a text without one; or the choice of the version, which has no text

pub data Made : Type 0 where
  makes : Event → Made
  says : List ℕ → Made
  chooses : Version → Made

abbrev pub refusal_line : Refusal → Made
refusal_line e = says (line_text (Replied (Refused e)))

-- a turn that was no event
abbrev pub no_event : Turn → Made
no_event turn = says (line_text (Turned turn))

abbrev pub is_syntax : Refusal → Bool
is_syntax Syntax = true
is_syntax _ = false

-- Syntax is tested before Spent, any other refusal of a reading after it
abbrev pub unread_event : ℕ → State → Refusal → Made
unread_event life s e =
    if is_syntax e then refusal_line Syntax
    else if life_is_spent life s.live then refusal_line SpentRefusal
    else refusal_line e

-- a command finds no memory only if nothing else refuses it
abbrev pub finds_none : Bool → List Rate → State → Command → Bool
finds_none lack rates s c = lack && takes_memory c && is_none (command_refusal rates s.live c)

abbrev pub change_event : ℕ → List Rate → State → Bool → Command → Made
change_event life rates s lack c =
    if life_is_spent life s.live then refusal_line SpentRefusal
    else if finds_none lack rates s c then refusal_line NoMemory
    else makes (Commanded c)

abbrev pub send_event : ℕ → State → Bool → List ℕ → BodyView → Made
send_event life s lack flow body =
    if life_is_spent life s.live then refusal_line SpentRefusal
    else if lack then refusal_line NoMemory
    else makes (Arrived flow body)

-- the writer accepts all that it is offered
abbrev pub write_event : ℕ → Option Sending → Made
write_event most None = no_event Idle
write_event most (Some x) = makes (Written (min most (length (rest_of x))))

abbrev pub fault_event : Option Sending → Made
fault_event None = no_event Idle
fault_event (Some x) = makes Faulted

-- Spent, then Broken
abbrev pub unless_over : ℕ → State → Made → Made
unless_over life s event =
    if life_is_spent life s.live then no_event Spent
    else if s.live.broken then no_event Broken
    else event

-- the report of the link as it is, in a spent life too
abbrev pub report_event : State → Made
report_event s = says (report s.live)

-- as the first line `audit 1` and `audit 2` choose the version of the script; anywhere else they are Syntax
abbrev pub audit_event : Version → Bool → Made
audit_event version first = if first then chooses version else refusal_line Syntax

abbrev pub is_first : Progress → Bool
is_first p = p.lines == 0

abbrev pub line_event : ℕ → List Rate → Progress → Bool → Line → Made
line_event life rates p lack (Change c) = change_event life rates p.state lack c
line_event life rates p lack (Send flow body) = send_event life p.state lack flow body
line_event life rates p lack (TurnLine most) = unless_over life p.state (write_event most (sending p.state.live))
line_event life rates p lack Torn = unless_over life p.state (fault_event (sending p.state.live))
line_event life rates p lack Report = report_event p.state
line_event life rates p lack (Audit version) = audit_event version (is_first p)

abbrev pub read_event : ℕ → List Rate → Progress → Bool → Result Line Refusal → Made
read_event life rates p lack (Ok l) = line_event life rates p lack l
read_event life rates p lack (Err e) = unread_event life p.state e

-- The answer to a line

-- an event is one step, answered with its outcome; a text without an event changes no state; a version is chosen
-- without an answer
abbrev pub progress_and_text : List Rate → Progress → Made → Progress × List ℕ
progress_and_text rates p (makes e) = (after_event rates p e, line_text (outcome rates p.state e))
progress_and_text rates p (says text) = (onward p, text)
progress_and_text rates p (chooses version) = (with_version p version, [])

abbrev pub line_answer : ℕ → List Rate → Progress → Bool → Line → Progress × List ℕ
line_answer life rates p lack l = progress_and_text rates p (line_event life rates p lack l)

-- the answer to these bytes as the next line; the flag says whether memory is lacking
unfoldable pub answer : ℕ → List Rate → Progress → Bool → List ℕ → Progress × List ℕ
answer life rates p lack bytes =
    progress_and_text rates p (read_event life rates p lack (reading p.state.live.version bytes))

-- Whole scripts

-- whether the first line finds no memory; a line without a flag finds it
abbrev pub first_flag : List Bool → Bool
first_flag [] = false
first_flag (lack ∷ lacks) = lack

-- the text that the lines are answered with
unfoldable pub talk : ℕ → List Rate → Progress → List Bool → List (List ℕ) → List ℕ
talk life rates p lacks [] = []
talk life rates p lacks (l ∷ ls) =
    (answer life rates p (first_flag lacks) l).1
    ++ talk life rates (answer life rates p (first_flag lacks) l).0 (drop 1 lacks) ls

-- the script after the lines
unfoldable pub after : ℕ → List Rate → Progress → List Bool → List (List ℕ) → Progress
after life rates p lacks [] = p
after life rates p lacks (l ∷ ls) = after life rates (answer life rates p (first_flag lacks) l).0 (drop 1 lacks) ls

abbrev pub is_feed : ℕ → Bool
is_feed b = b == 10

-- the bytes after the last line feed are a line if there are any
abbrev pub last_line : List ℕ → List (List ℕ)
last_line [] = []
last_line (b ∷ bs) = (b ∷ bs) ∷ []

abbrev pub without_empty_end : List (List ℕ) → List (List ℕ)
without_empty_end [] = []
without_empty_end (l ∷ []) = last_line l
without_empty_end (l ∷ m ∷ ls) = l ∷ without_empty_end (m ∷ ls)

abbrev pub lines_of : List ℕ → List (List ℕ)
lines_of bytes = without_empty_end (slice_split is_feed bytes)

-- The version of a script

-- it is 2 if the first line is `audit 2`, and otherwise 1
abbrev pub version_of_script : List (List ℕ) → Version
version_of_script [] = One
version_of_script (l ∷ ls) = if bytes_eq l (codes "audit 2") then Two else One

-- none of a text's lines says that memory was lacking
abbrev pub FoundMemory : List ℕ → Type 0
FoundMemory text = Each (λ line. line ≢ codes "no 1 NoMemory") (lines_of text)
