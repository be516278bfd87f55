-- The contents of a link after the opening of a sound plan.
use Rattle.std.specs.Prelude.{◌≡◌, ℕ, false, map}
use Rattle.share_model.specs.declared.funding.Holder.{Holder}
use Rattle.share_model.specs.declared.funding.Holder.TheVariants.{Currency, Flow}
use Rattle.share_model.specs.declared.funding.OpenFlow.{OpenFlow}
use Rattle.share_model.specs.declared.funding.Ticket.{Ticket}
use Rattle.share_model.specs.declared.link.Book.{Book}
use Rattle.share_model.specs.funding.Graph.{NameBytes}
use Rattle.share_model.specs.link.Buffers.{Buffer, new_buffer}
use Rattle.share_model.specs.link.Live.{Live}
use Rattle.share_gateway.specs.Plan.{CurrencyView, TenantView, PlanView}
use Rattle.share_gateway.specs.Opening.{Grantee, ToCurrency, ToTenant, GrantTo, all_grants, numbered}

-- the holder that a grant's ticket funds
abbrev pub holder_of : Grantee → Holder
holder_of (ToCurrency i c) = Currency c.name
holder_of (ToTenant i t) = Flow t.flow

-- the ticket of a grant
abbrev pub planned_ticket : ℕ × GrantTo → Ticket
planned_ticket g = record {
  number = g.0;
  amount = g.1.grant.amount;
  denomination = g.1.grant.denomination;
  holder = holder_of g.1.grantee;
}

-- the flow of a tenant, its buffer and its book
abbrev pub planned_flow : TenantView → NameBytes × OpenFlow
planned_flow t = (t.name, record { number = t.flow; active = false })

abbrev pub planned_buffer : TenantView → Buffer
planned_buffer t = new_buffer t.flow t.limit

abbrev pub planned_book : TenantView → Book
planned_book t = record { flow = t.flow; tariff = t.tariff; account = 0; held = t.held }

abbrev pub name_of_currency : CurrencyView → NameBytes
name_of_currency c = c.name

-- the link has the plan's currencies. For each tenant it has a flow with its number, an empty buffer with its limit,
-- and a book with its tariff. The book is held if the tenant is. For each grant it has a ticket with its amount and
-- denomination, which funds what the grant is to. They are all of them, no others, and in the plan's order
pub record HoldsPlan (p : PlanView) (l : Live) : Type 0 where
  pub currencies : l.graph.currencies ≡ map name_of_currency p.currencies
  pub flows : l.graph.flows ≡ map planned_flow p.tenants
  pub buffers : l.buffers ≡ map planned_buffer p.tenants
  pub books : l.books ≡ map planned_book p.tenants
  pub tickets : l.graph.tickets ≡ map planned_ticket (numbered (all_grants p))
