-- Requests in the lines of a control connection, and their answers.
use Rattle.std.proofs.Common.{◌≡◌, ℕ, List, Result, Ok, Err, true, false, refl, sym, ap, subst, ◌∙◌, inl, inr}
use Rattle.std.proofs.Common.{true≢false}
use Rattle.std.specs.Prelude.{MatchResult}
use Rattle.std.specs.Result.{is_err}
use Rattle.share_base.specs.declared.command.Command.{Command}
use Rattle.share_base.specs.declared.command.Reply.{Reply}
use Rattle.share_base.specs.declared.command.Reply.TheVariants.{Refused}
use Rattle.share_base.specs.declared.refusal.Refusal.{Refusal}
use Rattle.share_base.specs.declared.refusal.Refusal.TheVariants.{Syntax}
use Rattle.share_model.specs.declared.line.Line.{Line}
use Rattle.share_base.specs.declared.version.Version.TheVariants.{Two}
use Rattle.share_model.specs.declared.line.Line.TheVariants.{Change, Send, Turn, Torn, Report, Audit}
use Rattle.share_model.specs.text.Lines.{ReadsLine, is_send}
use Rattle.share_locked.specs.Calls.{CommandMade}
use Rattle.share_locked.specs.Views.{LockedView, ClerkView, with_room}
use Rattle.share_control.specs.Requests.{request_by, request_of, request_in, ObeyedLocked}
use Rattle.share_control.specs.declared.requests.Request.{Request}
use Rattle.share_control.specs.declared.requests.Request.TheVariants.{Change as AsksChange, NoRequest}
use Rattle.share_control.specs.declared.requests.Said.{Said}

packet_is_no_request : (l : Line) → is_send l ≡ true → request_by l ≡ NoRequest
packet_is_no_request (Change c) is = absurd (true≢false (sym is))
packet_is_no_request (Send flow payload) is = refl
packet_is_no_request (Turn most) is = refl
packet_is_no_request Torn is = refl
packet_is_no_request Report is = absurd (true≢false (sym is))
packet_is_no_request (Audit version) is = refl

-- a packet is no request, so a lack of memory for its payload makes no difference
pub request_read : (bytes : List ℕ) (read : Result Line Refusal) → ReadsLine Two bytes read → request_of read
    ≡ request_in bytes
request_read bytes read (inl same) = ap request_of same
request_read bytes read (inr none) =
    ap request_of none.0 ∙ sym (ap request_of none.1.1 ∙ packet_is_no_request none.1.0 none.1.2)

-- the facts of an answer that is no error, and of one that is
pub at_ok : {A E X : Type 0} {P : A → Type 0} (Q : E → Type 0) (r : Result A E) → MatchResult r P Q → is_err r ≡ false
    → ((x : A) → P x → X) → X
at_ok Q (Ok x) known is then_ = then_ x known
at_ok Q (Err e) known is then_ = absurd (true≢false is)

pub at_err : {A E X : Type 0} (P : A → Type 0) {Q : E → Type 0} (r : Result A E) → MatchResult r P Q → is_err r ≡ true
    → ((e : E) → Q e → X) → X
at_err P (Ok x) known is then_ = absurd (true≢false (sym is))
at_err P (Err e) known is then_ = then_ e known

-- a clerk that has got room for a receipt is the clerk before with that room
pub ready_locked : {W : Type 0} (before between after : ClerkView) (request : Request) (said : Said)
    → between ≡ with_room before between.room → ObeyedLocked W between request said after
    → ObeyedLocked W before request said after
ready_locked {W = W} before between after request said same obeyed =
    let P : ClerkView → Type 0 = λ clerk. ObeyedLocked W clerk request said after in
    let did = subst P same obeyed in
    record { room = did.room; locked = did.locked; left = did.left; obeyed = did.obeyed }
