-- The effects of control lines: the hold of a tenant and the amount of a grant, in the link and in the plan.
use Rattle.std.specs.Prelude.{◌≡◌, ◌-◌, ℕ, Bool, true, false, MatchBool, MatchResult, if◌then◌else◌}
use Rattle.share_base.specs.declared.command.Command.{Command}
use Rattle.share_base.specs.declared.command.Command.TheVariants.{Amend}
use Rattle.share_base.specs.declared.command.Event.TheVariants.{Commanded}
use Rattle.share_base.specs.declared.command.Outcome.TheVariants.{Replied}
use Rattle.share_base.specs.declared.command.Reply.{Reply}
use Rattle.share_base.specs.declared.command.Reply.TheVariants.{Done, Refused}
use Rattle.share_base.specs.declared.refusal.Refusal.TheVariants.{Spent}
use Rattle.share_model.specs.funding.Graph.{NameBytes}
use Rattle.share_model.specs.link.Calls.{is_spent}
use Rattle.share_gateway.specs.GrantTickets.{grant_ticket}
use Rattle.share_gateway.specs.Plan.{PlanView}
use Rattle.share_gateway.specs.PlanChanges.{with_amount}
use Rattle.share_book.specs.Audited.{after_event, outcome_in}
use Rattle.share_book.specs.Book.{BookView}

abbrev pub is_done : Reply → Bool
is_done Done = true
is_done _ = false

-- the plan changes if the link did
abbrev pub plan_after : Reply → PlanView → PlanView → PlanView
plan_after reply old changed = if is_done reply then changed else old

-- the command is an event, with its line, even if it is refused, and what it does is done to the plan too
pub record IsChange (old : BookView) (c : Command) (changed : PlanView) (reply : Reply) (new : BookView) : Type 0 where
  pub answer : Replied reply ≡ outcome_in old.audited (Commanded c)
  pub audited : new.audited ≡ after_event old.audited (Commanded c)
  pub plan : new.plan ≡ plan_after reply old.plan changed

-- in a spent life a command is refused and is no event
abbrev pub Changes : BookView → Command → PlanView → Reply → BookView → Type 0
Changes old c changed reply new =
    MatchBool (is_spent old.audited.link) ((reply ≡ Refused Spent) × (new ≡ old)) (IsChange old c changed reply new)

-- grant j of a currency or a tenant is amended: its ticket is, and the grant in the plan. If there is no such grant,
-- the answer says why and there is no event, as in a spent life
abbrev pub Amends : BookView → NameBytes → ℕ → ℕ → Reply → BookView → Type 0
Amends old name j amount reply new =
    MatchBool (is_spent old.audited.link) ((reply ≡ Refused Spent) × (new ≡ old))
    (MatchResult (grant_ticket old.plan name j)
    (λ ticket. IsChange old (Amend ticket amount) (with_amount name (j - 1) amount old.plan) reply new)
    (λ why. (reply ≡ Refused why) × (new ≡ old)))
