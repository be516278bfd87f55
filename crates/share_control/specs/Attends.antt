-- The service of a control connection: its lines are answered one after the other.
use Rattle.std.specs.Prelude.{◌≡◌, ℕ, Option, None, Some, List, [], ◌∷◌, ◌++◌}
use Rattle.std.specs.Io.KnownBytes.{Appends}
use Rattle.share_locked.specs.Views.{ClerkView}
use Rattle.share_model.specs.declared.reader.Got.{Got}
use Rattle.share_model.specs.declared.reader.Got.TheVariants.{End as EndOfInput, Failed as ReadFailed}
use Rattle.share_model.specs.declared.writer.Answer.{Answer}
use Rattle.share_model.specs.io.Calls.{GoesOn, Offers, OfferRefused}
use Rattle.share_model.specs.io.Printing.{bytes_told, AppendsPart}
use Rattle.share_model.specs.io.Told.{Told}
use Rattle.share_script.specs.Lines.{Connection, IsNextLine, Came, given_by}
use Rattle.share_script.specs.declared.lines.Incoming.{Incoming}
use Rattle.share_script.specs.declared.lines.Incoming.TheVariants.{Unfinished}
use Rattle.share_control.specs.Requests.{request_in, AnswersRequest}
use Rattle.share_control.specs.declared.attending.How.{How}
use Rattle.share_control.specs.declared.attending.How.TheVariants.{End, ReadFault, WriteFault, NoMemory}
use Rattle.share_control.specs.declared.requests.Request.{Request}
use Rattle.share_control.specs.declared.requests.Request.TheVariants.{NoRequest}

-- the request of a line; one that is too long is no request
abbrev pub request_at : Option (List ℕ) → Request
request_at (Some line) = request_in line
request_at None = NoRequest

-- the next line was taken, too long or not
pub record TakesLine (ahead : List ℕ) (asked : Option (List ℕ)) (rest : List ℕ) : Type 0 where
  pub found : Incoming
  pub line : List ℕ
  pub taken : IsNextLine ahead found line rest
  pub asked_is : given_by found line ≡ asked ∷ []

-- the next request is what the next line asks for; or no line came whole
abbrev pub IsNextRequest : List ℕ → Option Request → List ℕ → List ℕ → Type 0
IsNextRequest ahead None line rest = IsNextLine ahead Unfinished line rest
IsNextRequest ahead (Some request) line rest =
    (asked : Option (List ℕ)) × TakesLine ahead asked rest × (request ≡ request_at asked)

-- The lines were taken in their order, and the text answers each of them once. The clerk before and after them; what is
-- ahead before and after them.
pub data AnswersLines (W : Type 0) (ahead : List ℕ) (before : ClerkView)
    : List (Option (List ℕ)) → List ℕ → List ℕ → ClerkView → Type 0 where
  answers_none : AnswersLines W ahead before [] [] ahead before
  answers_next : (asked : List (Option (List ℕ))) (text rest : List ℕ) (between : ClerkView)
      (line : Option (List ℕ)) (answer later : List ℕ) (after : ClerkView)
      → AnswersLines W ahead before asked text rest between → TakesLine rest line later
      → AnswersRequest W between (request_at line) answer after
      → AnswersLines W ahead before (asked ++ line ∷ []) (text ++ answer) later after

-- lines were answered, and all of their answers were written
pub record WritesAnswers (W : Type 0) {O : Type 0} (told : O → Option Told) (answers : O → List ℕ → Answer → O → Type 0)
    (ahead : List ℕ) (before : ClerkView) (old : O) (rest : List ℕ) (after : ClerkView) (new : O) : Type 0 where
  pub asked : List (Option (List ℕ))
  pub text : List ℕ
  pub answered : AnswersLines W ahead before asked text rest after
  pub written : Appends (bytes_told (told old)) (bytes_told (told new)) text
  pub offers : Offers answers old new

-- after such lines one more was answered, and of its answer a beginning at most was written; no line was taken after it
pub record LosesAnswer (W : Type 0) {O : Type 0} (told : O → Option Told) (answers : O → List ℕ → Answer → O → Type 0)
    (ahead : List ℕ) (before : ClerkView) (old : O) (rest : List ℕ) (after : ClerkView) (new : O) : Type 0 where
  pub left : List ℕ
  pub clerk : ClerkView
  pub output : O
  pub all : WritesAnswers W told answers ahead before old left clerk output
  pub line : Option (List ℕ)
  pub answer : List ℕ
  pub taken : TakesLine left line rest
  pub answered : AnswersRequest W clerk (request_at line) answer after
  pub part : AppendsPart (bytes_told (told output)) (bytes_told (told new)) answer
  pub refused : OfferRefused answers output new

-- all lines that came whole were answered
pub record AnswersAll (W : Type 0) {O R : Type 0} (told : O → Option Told)
    (answers : O → List ℕ → Answer → O → Type 0) (before : Connection R) (clerk : ClerkView) (old : O)
    (after : Connection R) (left : ClerkView) (new : O) : Type 0 where
  pub rest : List ℕ
  pub all : WritesAnswers W told answers before.ahead clerk old rest left new
  pub unfinished : IsNextLine rest Unfinished after.line after.ahead

-- From a connection and a clerk to what they are after some reads: after each read all lines that came whole were
-- answered.
pub data Attends (W : Type 0) {R : Type 0} (left : R → Option (List ℕ)) (gives : R → List ℕ → Got → R → Type 0)
    (first : Connection R) (before : ClerkView) : Connection R → ClerkView → Type 0 where
  attends_none : Attends W left gives first before first before
  attends_lines : (c : Connection R) (k : ClerkView) (asked : List (Option (List ℕ))) (text rest : List ℕ)
      (after : ClerkView) (next : Connection R)
      → Attends W left gives first before c k → AnswersLines W c.ahead k asked text rest after
      → IsNextLine rest Unfinished next.line next.ahead → next.reader ≡ c.reader
      → Attends W left gives first before next after
  attends_read : (c : Connection R) (k : ClerkView) (got : Got) (next : Connection R)
      → Attends W left gives first before c k → Came left gives c got next → GoesOn got
      → Attends W left gives first before next k

-- after reads and their lines, one more read had this answer
pub record AttendsTo (W : Type 0) {R : Type 0} (left : R → Option (List ℕ)) (gives : R → List ℕ → Got → R → Type 0)
    (first : Connection R) (before : ClerkView) (got : Got) (after : ClerkView) : Type 0 where
  pub connection : Connection R
  pub attends : Attends W left gives first before connection after
  pub last : Connection R
  pub came : Came left gives connection got last

-- after reads and their lines, some lines more were answered
pub record AttendsSome (W : Type 0) {R : Type 0} (left : R → Option (List ℕ)) (gives : R → List ℕ → Got → R → Type 0)
    (first : Connection R) (before after : ClerkView) : Type 0 where
  pub connection : Connection R
  pub clerk : ClerkView
  pub attends : Attends W left gives first before connection clerk
  pub asked : List (Option (List ℕ))
  pub text : List ℕ
  pub rest : List ℕ
  pub answered : AnswersLines W connection.ahead clerk asked text rest after

-- The end of the connection. If its reader gave no more, or failed, all lines that came whole were answered before. It
-- also ends if an answer could not be written, or if nothing was read.
abbrev pub EndsAttending : (W : Type 0) → {R : Type 0} → (R → Option (List ℕ)) → (R → List ℕ → Got → R → Type 0)
    → Connection R → ClerkView → How → ClerkView → Type 0
EndsAttending W left gives first before End after = AttendsTo W left gives first before EndOfInput after
EndsAttending W left gives first before ReadFault after = AttendsTo W left gives first before ReadFailed after
EndsAttending W left gives first before WriteFault after = AttendsSome W left gives first before after
EndsAttending W left gives first before NoMemory after = after ≡ before
