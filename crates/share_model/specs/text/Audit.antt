-- The audit of a list of events: a script that makes them again, line by line.
use Rattle.std.specs.Prelude.{◌≡◌, ℕ, Bool, true, not, List, ◌∷◌, ◌++◌, map, flat_map, codes}
use Rattle.std.specs.List.{list_all}
use Rattle.share_base.specs.declared.command.Event.{Event}
use Rattle.share_base.specs.declared.command.Event.TheVariants.{Commanded, Arrived, Written, Faulted}
use Rattle.share_base.specs.declared.command.Outcome.{Outcome}
use Rattle.share_base.specs.declared.version.Version.{Version}
use Rattle.share_model.specs.declared.line.Line.{Line}
use Rattle.share_model.specs.declared.line.Line.TheVariants.{Change, Send, Turn, Torn, Audit}
use Rattle.share_model.specs.declared.rates.Rate.{Rate}
use Rattle.share_model.specs.run.Fold.{State}
use Rattle.share_model.specs.text.Lines.{spelling_of}
use Rattle.share_model.specs.text.Talk.{start_of_script, talk, after, lines_of}
use Rattle.share_model.specs.text.Texts.{line_text}

-- the line that makes an event: for a write a turn that offers the accepted bytes, for a fault its declaration
abbrev pub event_line : Event → Line
event_line (Commanded c) = Change c
event_line (Arrived flow body) = Send flow body
event_line (Written k) = Turn k
event_line Faulted = Torn

-- the line of the version, and then that of each event
abbrev pub audit_lines : Version → List Event → List Line
audit_lines version events = Audit version ∷ map event_line events

-- the spelling of a line and its line feed
abbrev pub written_line : Line → List ℕ
written_line l = spelling_of l ++ codes "\n"

unfoldable pub audit : Version → List Event → List ℕ
audit version events = flat_map written_line (audit_lines version events)

-- no line of a script finds that memory is lacking
abbrev pub IsAmple : List Bool → Type 0
IsAmple lacks = list_all not lacks ≡ true

-- a script that finds memory for each of its lines is answered by the texts of these outcomes, and comes to this state
pub record AnswersWith (life : ℕ) (rates : List Rate) (script : List ℕ) (outcomes : List Outcome) (s : State) : Type 0
  where
    pub text : (lacks : List Bool) → IsAmple lacks
        → talk life rates start_of_script lacks (lines_of script) ≡ flat_map line_text outcomes
    pub state : (lacks : List Bool) → IsAmple lacks → (after life rates start_of_script lacks (lines_of script)).state
        ≡ s
