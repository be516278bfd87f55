-- A script in progress, and what its lines are answered with.
use Rattle.std.specs.Prelude.{◌≡◌, ℕ, Bool, List, [], Option}
use Rattle.share_model.specs.io.Told.{Told}
use Rattle.share_model.specs.link.Live.{Live}
use Rattle.share_model.specs.link.View.{LinkView}
use Rattle.share_model.specs.text.Report.{report}
use Rattle.share_model.specs.text.Answering.{Holds}
use Rattle.share_model.specs.text.Talk.{Progress, is_first}
use Rattle.share_model.specs.text.Texts.{line_text}
use Rattle.share_script.specs.declared.answers.LineAnswer.{LineAnswer}
use Rattle.share_script.specs.declared.answers.LineAnswer.TheVariants.{Outcome, Report, Nothing}

-- the link, and whether none of the script's lines was answered yet
pub record SessionView (W : Type 0) : Type 0 where
  pub link : LinkView W
  pub first : Bool

-- the script came to what the link holds, at its first line or a later one
pub record HoldsScript {W : Type 0} (told : W → Option Told) (at : SessionView W) (p : Progress) : Type 0 where
  pub holds : Holds told at.link p
  pub place : is_first p ≡ at.first

-- the text of an answer of a link that holds this
abbrev pub answer_text : Live → LineAnswer → List ℕ
answer_text l (Outcome outcome) = line_text outcome
answer_text l Report = report l
answer_text l Nothing = []
