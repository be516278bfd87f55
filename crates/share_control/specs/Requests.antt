-- The lines of a control connection, and their answers.
use Rattle.std.specs.Prelude.{◌≡◌, ◌⊎◌, ◌<◌, ℕ, List, Result, Ok, Err, length}
use Rattle.share_base.specs.declared.command.Command.{Command}
use Rattle.share_base.specs.declared.command.Outcome.TheVariants.{Replied}
use Rattle.share_base.specs.declared.command.Reply.{Reply}
use Rattle.share_base.specs.declared.command.Reply.TheVariants.{Refused}
use Rattle.share_base.specs.declared.refusal.Refusal.{Refusal}
use Rattle.share_base.specs.declared.refusal.Refusal.TheVariants.{NoMemory, Syntax}
use Rattle.share_model.specs.declared.line.Line.{Line}
use Rattle.share_base.specs.declared.version.Version.TheVariants.{Two}
use Rattle.share_model.specs.declared.line.Line.TheVariants.{Change, Send, Turn, Torn, Report, Audit}
use Rattle.share_model.specs.text.Lines.{reading}
use Rattle.share_model.specs.text.Report.{report}
use Rattle.share_model.specs.text.Texts.{line_text}
use Rattle.share_locked.specs.Calls.{CommandMade}
use Rattle.share_locked.specs.Views.{LockedView, ClerkView, with_room}
use Rattle.share_control.specs.declared.requests.Request.{Request}
use Rattle.share_control.specs.declared.requests.Request.TheVariants.{Change as AsksChange, Report as AsksReport}
use Rattle.share_control.specs.declared.requests.Request.TheVariants.{NoRequest}
use Rattle.share_control.specs.declared.requests.Said.{Said}
use Rattle.share_control.specs.declared.requests.Said.TheVariants.{Reply as SaysReply, Report as SaysReport}

-- the lines that are requests on a control connection: the changes and the report
abbrev pub request_by : Line → Request
request_by (Change c) = AsksChange c
request_by (Send flow payload) = NoRequest
request_by (Turn most) = NoRequest
request_by Torn = NoRequest
request_by Report = AsksReport
request_by (Audit version) = NoRequest

abbrev pub request_of : Result Line Refusal → Request
request_of (Ok l) = request_by l
request_of (Err refusal) = NoRequest

-- the request in the bytes of a line; bytes that spell no line, or one out of range, are no request either
abbrev pub request_in : List ℕ → Request
request_in bytes = request_of (reading Two bytes)

-- a request that is obeyed, and of a change the clerk has room for its receipt
abbrev pub IsReady : ClerkView → Request → Type 0
IsReady clerk (AsksChange c) = length clerk.receipts < clerk.room
IsReady clerk AsksReport = Unit {0}
IsReady clerk NoRequest = ⊥

abbrev pub control_reply_text : Reply → List ℕ
control_reply_text reply = line_text (Replied reply)

-- the text of what a link says
abbrev pub said_text : Said → List ℕ
said_text (SaysReply reply) = control_reply_text reply
said_text (SaysReport text) = text.items

-- The effect of a request on a link and its clerk, and the answer of the link. A change is a command of this clerk,
-- and what is said its reply. A report is that of this link as it is, or there was no memory for it; it changes
-- nothing.
abbrev pub Obeys : {W : Type 0} → LockedView W → ClerkView → Request → Said → LockedView W → ClerkView → Type 0
Obeys old before (AsksChange c) (SaysReply reply) new after =
    (number : ℕ) × CommandMade old before c number reply new after
Obeys old before (AsksChange c) (SaysReport text) new after = ⊥
Obeys old before AsksReport (SaysReply reply) new after = (reply ≡ Refused NoMemory) × (new ≡ old) × (after ≡ before)
Obeys old before AsksReport (SaysReport text) new after =
    (text.items ≡ report old.recorder.link.live) × (new ≡ old) × (after ≡ before)
Obeys old before NoRequest said new after = ⊥

-- the clerk may have got room for a receipt, and then the request was obeyed with the lock taken once
pub record ObeyedLocked (W : Type 0) (before : ClerkView) (request : Request) (said : Said) (after : ClerkView) : Type 0
  where
    pub room : ℕ
    pub locked : LockedView W
    pub left : LockedView W
    pub obeyed : Obeys locked (with_room before room) request said left after

-- The answer to a request. To a change: the reply to its command, or that there was no memory for a receipt, and no
-- command was made. To a report: the report. To all others: Syntax, without the lock.
abbrev pub IsSaidTo : (W : Type 0) → ClerkView → Request → Said → ClerkView → Type 0
IsSaidTo W before (AsksChange c) said after =
    ObeyedLocked W before (AsksChange c) said after ⊎ ((said ≡ SaysReply (Refused NoMemory)) × (after ≡ before))
IsSaidTo W before AsksReport said after = ObeyedLocked W before AsksReport said after
IsSaidTo W before NoRequest said after = (said ≡ SaysReply (Refused Syntax)) × (after ≡ before)

-- the text that answers a request, and the clerk after it
abbrev pub AnswersRequest : (W : Type 0) → ClerkView → Request → List ℕ → ClerkView → Type 0
AnswersRequest W before request text after =
    (said : Said) × IsSaidTo W before request said after × (text ≡ said_text said)
