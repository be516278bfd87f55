-- The run of a script: each line makes an event, or is answered without one; the first may choose the version.
use Rattle.std.specs.Prelude.{ℕ, Bool, List, [], ◌∷◌, ◌++◌, drop, flat_map}
use Rattle.share_base.specs.declared.command.Event.{Event}
use Rattle.share_base.specs.declared.command.Outcome.{Outcome}
use Rattle.share_model.specs.declared.rates.Rate.{Rate}
use Rattle.share_model.specs.text.Lines.{reading}
use Rattle.share_model.specs.text.Talk.{Progress, Made, makes, says, chooses, read_event, answer, first_flag}
use Rattle.share_model.specs.text.Texts.{line_text}

-- the events of each line
unfoldable pub made_of : ℕ → List Rate → Progress → List Bool → List (List ℕ) → List Made
made_of life rates p lacks [] = []
made_of life rates p lacks (l ∷ ls) =
    read_event life rates p (first_flag lacks) (reading p.state.live.version l)
    ∷ made_of life rates (answer life rates p (first_flag lacks) l).0 (drop 1 lacks) ls

abbrev pub events_by : Made → List Event
events_by (makes e) = e ∷ []
events_by (says text) = []
events_by (chooses version) = []

-- the events of the lines
abbrev pub events_of : ℕ → List Rate → Progress → List Bool → List (List ℕ) → List Event
events_of life rates p lacks ls = flat_map events_by (made_of life rates p lacks ls)

-- the answers to the lines: the text of the next outcome for a line that made an event, otherwise the line's own text
abbrev pub texts_of : List Made → List Outcome → List ℕ
texts_of [] outcomes = []
texts_of (says text ∷ rs) outcomes = text ++ texts_of rs outcomes
texts_of (chooses version ∷ rs) outcomes = texts_of rs outcomes
texts_of (makes e ∷ rs) [] = []
texts_of (makes e ∷ rs) (o ∷ outcomes) = line_text o ++ texts_of rs outcomes
