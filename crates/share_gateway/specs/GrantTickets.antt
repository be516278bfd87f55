-- The ticket of a grant: grants are numbered from 1 for each currency and each tenant, and tickets from 1 over all.
use Rattle.std.specs.Prelude.{◌≡◌, ◌≤◌, ℕ, ◌+◌, ◌-◌, Bool, true, ◌&&◌, List, [], ◌∷◌, length, nat_le, slice_get}
use Rattle.std.specs.Prelude.{bytes_eq, Some}
use Rattle.std.specs.Prelude.{Result, Ok, Err, if◌then◌else◌}
use Rattle.share_base.specs.declared.refusal.Refusal.{Refusal}
use Rattle.share_base.specs.declared.refusal.Refusal.TheVariants.{NoCurrency, NoTicket}
use Rattle.share_model.specs.funding.Graph.{NameBytes}
use Rattle.share_gateway.specs.declared.plan.Grant.{Grant}
use Rattle.share_gateway.specs.Plan.{CurrencyView, TenantView, PlanView}
use Rattle.share_gateway.specs.Opening.{Grantee, ToCurrency, ToTenant, grantees, grants_to, grant_to, all_grants}
use Rattle.share_gateway.specs.Opening.{numbered}

abbrev pub grantee_name : Grantee → NameBytes
grantee_name (ToCurrency i c) = c.name
grantee_name (ToTenant i t) = t.name

abbrev pub is_named : NameBytes → Grantee → Bool
is_named name to = bytes_eq name (grantee_name to)

-- the ticket of grant j of this many, before which there are others
abbrev pub ticket_after : ℕ → ℕ → ℕ → Result ℕ Refusal
ticket_after before j count = if nat_le 1 j && nat_le j count then Ok (before + j) else Err NoTicket

-- the ticket of grant j of the first of these that has the name
abbrev pub ticket_among : ℕ → NameBytes → ℕ → List Grantee → Result ℕ Refusal
ticket_among before name j [] = Err NoCurrency
ticket_among before name j (to ∷ others) =
    if is_named name to
    then ticket_after before j (length (grants_to to))
    else ticket_among (before + length (grants_to to)) name j others

-- the ticket of grant j of a currency or a tenant, or why there is none
abbrev pub grant_ticket : PlanView → NameBytes → ℕ → Result ℕ Refusal
grant_ticket p name j = ticket_among 0 name j (grantees p)

-- the ticket has its number among all grants, and is that of grant j of what has the name
pub record IsTicketOf (p : PlanView) (name : NameBytes) (j ticket : ℕ) : Type 0 where
  pub grantee : Grantee
  pub grant : Grant
  pub named : is_named name grantee ≡ true
  pub counted : 1 ≤ j
  pub stands : slice_get (numbered (all_grants p)) (ticket - 1) ≡ Some (ticket, grant_to grantee (j, grant))
