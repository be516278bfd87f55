-- The text of each answer.
use Rattle.std.specs.Prelude.{ℕ, true, false, List, [], ◌∷◌, ◌++◌, codes, decimal}
use Rattle.share_base.specs.Refusal.{refusal_number, refusal_name}
use Rattle.share_base.specs.declared.refusal.Refusal.{Refusal}
use Rattle.share_base.specs.declared.refusal.Refusal.TheVariants.{Spent as SpentRefusal, Broken as BrokenRefusal}
use Rattle.share_base.specs.declared.command.Reply.{Reply}
use Rattle.share_base.specs.declared.command.Reply.TheVariants.{Done, Ticket, Flow, Closed, Packet, Refused}
use Rattle.share_base.specs.declared.command.Turn.{Turn}
use Rattle.share_base.specs.declared.command.Turn.TheVariants.{Wrote, Torn, Idle, Again, Broken, Spent}
use Rattle.share_base.specs.declared.command.Outcome.{Outcome}
use Rattle.share_base.specs.declared.command.Outcome.TheVariants.{Replied, Turned}

abbrev pub refusal_text : Refusal → List ℕ
refusal_text e = codes "no " ++ decimal (refusal_number e) ++ codes " " ++ refusal_name e

abbrev pub reply_text : Reply → List ℕ
reply_text Done = codes "ok"
reply_text (Ticket ticket) = codes "ticket " ++ decimal ticket
reply_text (Flow flow) = codes "flow " ++ decimal flow
reply_text (Closed flow dropped account) =
    codes "closed " ++ decimal flow ++ codes " " ++ decimal dropped ++ codes " " ++ decimal account
reply_text (Packet flow seq) = codes "packet " ++ decimal flow ++ codes " " ++ decimal seq
reply_text (Refused e) = refusal_text e

abbrev pub turn_text : Turn → List ℕ
turn_text (Wrote flow seq k true) =
    codes "wrote " ++ decimal flow ++ codes " " ++ decimal seq ++ codes " " ++ decimal k ++ codes " whole"
turn_text (Wrote flow seq k false) =
    codes "wrote " ++ decimal flow ++ codes " " ++ decimal seq ++ codes " " ++ decimal k ++ codes " part"
turn_text (Torn flow seq j) = codes "torn " ++ decimal flow ++ codes " " ++ decimal seq ++ codes " " ++ decimal j
turn_text Idle = codes "idle"
turn_text Again = codes "again"
turn_text Broken = refusal_text BrokenRefusal
turn_text Spent = refusal_text SpentRefusal

abbrev pub outcome_text : Outcome → List ℕ
outcome_text (Replied reply) = reply_text reply
outcome_text (Turned turn) = turn_text turn

-- the text of an answer and its line feed
unfoldable pub line_text : Outcome → List ℕ
line_text o = outcome_text o ++ 10 ∷ []
