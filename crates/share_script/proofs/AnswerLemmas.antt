-- The answers to single lines.
use Rattle.std.proofs.Common.{◌≡◌, ◌≢◌, ◌≤◌, ◌+◌, ◌-◌, inl, inr, ℕ, Bool, true, false, List, ◌++◌, length, take}
use Rattle.std.proofs.Common.{Result, Ok, Err, arith, sym, ◌∙◌, ap, subst, IfOk, Option, IsTrue, ◌↔◌}
use Rattle.std.proofs.Common.{if◌then◌else◌, true≢false}
use Rattle.std.proofs.Math.Seq.{take-append-add}
use Rattle.share_base.specs.declared.refusal.Refusal.{Refusal}
use Rattle.share_base.specs.declared.refusal.Refusal.TheVariants.{NoMemory, Spent, Syntax}
use Rattle.share_base.specs.declared.command.Reply.TheVariants.{Refused}
use Rattle.share_base.specs.declared.command.Turn.{Turn}
use Rattle.share_base.specs.declared.command.Turn.TheVariants.{Torn}
use Rattle.share_base.specs.declared.command.Outcome.TheVariants.{Replied}
use Rattle.share_base.specs.declared.version.Version.{Version}
use Rattle.share_model.specs.declared.line.Line.{Line}
use Rattle.share_model.specs.declared.line.Line.TheVariants.{Change, Send, Turn as TurnLine, Torn as TornLine}
use Rattle.share_model.specs.declared.line.Line.TheVariants.{Report as ReportLine, Audit}
use Rattle.share_model.specs.link.Calls.{is_spent}
use Rattle.share_model.specs.link.View.{LinkView}
use Rattle.share_model.specs.io.Told.{Told}
use Rattle.share_model.specs.text.Lines.{is_send, reading, ReadsLine}
use Rattle.share_model.specs.text.Talk.{is_syntax}
use Rattle.share_model.specs.text.Texts.{line_text}
use Rattle.share_model.specs.text.Answering.{AnswersBytes, AnswersLine}
use Rattle.share_model.proofs.lemmas.text.TalkLemmas.{line-says, unread-says, no_memory-says}
use Rattle.share_script.specs.Script.{is_torn}
use Rattle.share_script.specs.Session.{answer_text}
use Rattle.share_script.specs.declared.answers.LineAnswer.{LineAnswer}

pub added : (bs piece : List ℕ) → length bs ≤ 20481 → bs ++ take (20481 - length bs) piece ≡ take 20481 (bs ++ piece)
added bs piece few =
    let n : length bs + (20481 - length bs) ≡ 20481 = omega arith in
    sym (take-append-add bs piece (20481 - length bs)) ∙ ap (λ m. take m (bs ++ piece)) n

pub never_torn : (turn : Turn) → is_torn turn ≡ false → (flow seq j : ℕ) → turn ≢ Torn flow seq j
never_torn turn h flow seq j e = let q : true ≡ false = sym (ap is_torn e) ∙ h in cc

-- a test that failed
pub untrue : {P : Type 0} (b : Bool) → b ≡ false → (IsTrue b ↔ P) → P → ⊥
untrue true e same p = cc
untrue false e same p = let q : false ≡ true = same.1 p in cc

pub read_ok : (version : Version) (bytes : List ℕ) (l : Line) → ReadsLine version bytes (Ok l)
    → reading version bytes ≡ Ok l
read_ok version bytes l (inl e) = sym e
read_ok version bytes l (inr none) = let q : Ok l ≡ Err NoMemory = none.0 in cc

module _ {W : Type 0} (told : W → Option Told) where
  pub answered : {F : Type 0} (old new : LinkView W) (first : Bool) (bytes : List ℕ) (l : Line)
      (r : Result LineAnswer F)
      → reading old.live.version bytes ≡ Ok l → IfOk r
      (λ line_answer. AnswersLine told old first l (answer_text new.live line_answer) new)
      → IfOk r (λ line_answer. AnswersBytes told old first bytes (answer_text new.live line_answer) new)
  answered old new first bytes l (Ok line_answer) is h = line-says told old new first bytes l
      (answer_text new.live line_answer) is h
  answered old new first bytes l (Err f) is h = tt

  no_memory_by : (old : LinkView W) (first : Bool) (bytes : List ℕ) (l : Line) (r : Refusal)
      → reading old.live.version bytes ≡ Ok l → is_send l ≡ true → r ≡ (if is_spent old then Spent else NoMemory)
      → AnswersBytes told old first bytes (line_text (Replied (Refused r))) old
  no_memory_by old first bytes (Change c) r is send given = absurd (true≢false (sym send))
  no_memory_by old first bytes (Send flow body) r is send given =
      no_memory-says told old first bytes flow body r is given
  no_memory_by old first bytes (TurnLine most) r is send given = absurd (true≢false (sym send))
  no_memory_by old first bytes TornLine r is send given = absurd (true≢false (sym send))
  no_memory_by old first bytes ReportLine r is send given = absurd (true≢false (sym send))
  no_memory_by old first bytes (Audit version) r is send given = absurd (true≢false (sym send))

  pub unread_said : (old : LinkView W) (first : Bool) (bytes : List ℕ) (e r : Refusal) (spent : Bool)
      → ReadsLine old.live.version bytes (Err e) → spent ≡ is_spent old
      → r ≡ (if is_syntax e then Syntax else if spent then Spent else e)
      → AnswersBytes told old first bytes (line_text (Replied (Refused r))) old
  unread_said old first bytes e r spent (inl is) over given =
      unread-says told old first bytes e r (sym is)
      (given ∙ ap (λ (t : Bool). if is_syntax e then Syntax else if t then Spent else e) over)
  unread_said old first bytes e r spent (inr none) over given =
      let q : e ≡ NoMemory = cc in
      let g : r ≡ (if spent then Spent else NoMemory) = given
      ∙ ap (λ (x : Refusal). if is_syntax x then Syntax else if spent then Spent else x) q in
      no_memory_by old first bytes none.1.0 r none.1.1 none.1.2
      (g ∙ ap (λ (t : Bool). if t then Spent else NoMemory) over)

  pub as_said : (old new : LinkView W) (first : Bool) (l m : Line) (text : List ℕ) → l ≡ m
      → AnswersLine told old first m text new → AnswersLine told old first l text new
  as_said old new first l m text e h =
      let P : Line → Type 0 = λ x. AnswersLine told old first x text new in subst P (sym e) h
