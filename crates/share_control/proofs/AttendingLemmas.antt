-- The outcome of the lines of a control connection, one after the other.
use Rattle.std.proofs.Common.{◌≡◌, ℕ, Option, None, Some, List, [], ◌∷◌, ◌++◌, refl, sym, ap, ◌∙◌, subst}
use Rattle.std.proofs.KnownBytes.{Appends-nil, Appends-trans}
use Rattle.std.specs.Io.KnownBytes.{Appends}
use Rattle.share_locked.specs.Views.{ClerkView}
use Rattle.share_model.specs.declared.writer.Answer.{Answer}
use Rattle.share_model.specs.io.Calls.{Offers, OfferRefused, no_offers}
use Rattle.share_model.specs.io.Printing.{bytes_told, AppendsPart}
use Rattle.share_model.specs.io.Told.{Told}
use Rattle.share_model.proofs.lemmas.io.CallLemmas.{offers_more}
use Rattle.share_control.specs.Attends.{request_at, TakesLine, AnswersLines, answers_none, answers_next, WritesAnswers}
use Rattle.share_control.specs.Attends.{LosesAnswer, AnswersAll, Attends, attends_lines, attends_read, AttendsTo}
use Rattle.share_control.specs.Attends.{AttendsSome}
use Rattle.share_model.specs.declared.reader.Got.{Got}
use Rattle.share_model.specs.io.Calls.{GoesOn}
use Rattle.share_script.specs.Lines.{Connection, Came}
use Rattle.share_control.specs.Requests.{AnswersRequest}
use Rattle.share_control.specs.declared.requests.Request.{Request}

module _ (W : Type 0) {O : Type 0} (told : O → Option Told) (answers : O → List ℕ → Answer → O → Type 0) where
  -- no line was answered
  pub writes_none : (ahead : List ℕ) (clerk : ClerkView) (output : O)
      → WritesAnswers W told answers ahead clerk output ahead clerk output
  writes_none ahead clerk output =
      record {
        asked = [];
        text = [];
        answered = answers_none;
        written = Appends-nil (bytes_told (told output));
        offers = no_offers;
      }

  module _ (ahead : List ℕ) (before : ClerkView) (old : O) (left : List ℕ) (clerk : ClerkView) (output : O)
      (all : WritesAnswers W told answers ahead before old left clerk output) (line : Option (List ℕ))
      (rest : List ℕ) (taken : TakesLine left line rest) (request : Request) (is : request ≡ request_at line)
      (answer : List ℕ) (after : ClerkView) (answered : AnswersRequest W clerk request answer after) (new : O) where
    asked_at : AnswersRequest W clerk (request_at line) answer after
    asked_at = subst (λ r. AnswersRequest W clerk r answer after) is answered

    -- one more line was answered, and its answer written
    pub writes_next : Appends (bytes_told (told output)) (bytes_told (told new)) answer → Offers answers output new
        → WritesAnswers W told answers ahead before old rest after new
    writes_next written offers =
        record {
          asked = all.asked ++ line ∷ [];
          text = all.text ++ answer;
          answered = answers_next all.asked all.text left clerk line answer rest after all.answered taken asked_at;
          written = Appends-trans _ _ _ all.text answer all.written written;
          offers = offers_more all.offers offers;
        }

    -- one more line was answered, and its answer was lost
    pub loses_next : AppendsPart (bytes_told (told output)) (bytes_told (told new)) answer
        → OfferRefused answers output new → LosesAnswer W told answers ahead before old rest after new
    loses_next part refused =
        record {
          left = left;
          clerk = clerk;
          output = output;
          all = all;
          line = line;
          answer = answer;
          taken = taken;
          answered = asked_at;
          part = part;
          refused = refused;
        }

-- From read to read

module _ {W O R : Type 0} {told : O → Option Told} {answers : O → List ℕ → Answer → O → Type 0}
    {left : R → Option (List ℕ)} {gives : R → List ℕ → Got → R → Type 0} {first c : Connection R}
    {before k : ClerkView} {old new : O} {after : ClerkView} (attends : Attends W left gives first before c k) where
  -- all lines that came whole were answered
  all_lines : {next : Connection R} → AnswersAll W told answers c k old next after new → next.reader ≡ c.reader
      → Attends W left gives first before next after
  all_lines {next = next} did same =
      attends_lines c k did.all.asked did.all.text did.rest after next attends did.all.answered did.unfinished same

  -- and one more read was made
  pub reads_on : {next last : Connection R} (got : Got) → AnswersAll W told answers c k old next after new
      → next.reader ≡ c.reader → Came left gives next got last → GoesOn got
      → Attends W left gives first before last after
  reads_on {next = next} {last = last} got did same came goes =
      attends_read next after got last (all_lines did same) came goes

  pub reads_last : {next last : Connection R} (got : Got) → AnswersAll W told answers c k old next after new
      → next.reader ≡ c.reader → Came left gives next got last → AttendsTo W left gives first before got after
  reads_last {next = next} {last = last} got did same came =
      record { connection = next; attends = all_lines did same; last = last; came = came }

  -- all of their answers were written, and did not go out
  pub all_lost : {next : Connection R} → AnswersAll W told answers c k old next after new
      → AttendsSome W left gives first before after
  all_lost did =
      record {
        connection = c;
        clerk = k;
        attends = attends;
        asked = did.all.asked;
        text = did.all.text;
        rest = did.rest;
        answered = did.all.answered;
      }

  -- one could not be written
  pub one_lost : {rest : List ℕ} → LosesAnswer W told answers c.ahead k old rest after new
      → AttendsSome W left gives first before after
  one_lost {rest = rest} did =
      record {
        connection = c;
        clerk = k;
        attends = attends;
        asked = did.all.asked ++ did.line ∷ [];
        text = did.all.text ++ did.answer;
        rest = rest;
        answered = answers_next did.all.asked did.all.text did.left did.clerk did.line did.answer rest after
            did.all.answered did.taken did.answered;
      }
