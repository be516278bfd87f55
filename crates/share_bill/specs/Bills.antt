-- The result of a book's lines: the events of its run, and what each tenant sent in it.
use Rattle.std.specs.Prelude.{◌≡◌, ℕ, List, [], ◌∷◌, ◌++◌, codes, length, map, sum_by, Ok}
use Rattle.std.specs.Prelude.{if◌then◌else◌}
use Rattle.std.specs.Str.{bytes_eq}
use Rattle.share_base.specs.declared.command.Command.{Command}
use Rattle.share_base.specs.declared.command.Command.TheVariants.{MakeCurrency, RemoveCurrency, MakeTicket}
use Rattle.share_base.specs.declared.command.Command.TheVariants.{RemoveTicket, FundCurrency, FundFlow, Unfund}
use Rattle.share_base.specs.declared.command.Command.TheVariants.{OpenFlow, CloseFlow, Hold, Resume, Amend}
use Rattle.share_base.specs.declared.command.Event.{Event}
use Rattle.share_base.specs.declared.command.Event.TheVariants.{Commanded, Arrived, Written, Faulted}
use Rattle.share_base.specs.declared.command.Outcome.{Outcome}
use Rattle.share_base.specs.declared.command.Outcome.TheVariants.{Replied, Turned}
use Rattle.share_base.specs.declared.command.Reply.{Reply}
use Rattle.share_base.specs.declared.command.Reply.TheVariants.{Done, Ticket, Flow, Closed, Packet, Refused}
use Rattle.share_base.specs.declared.version.Version.TheVariants.{Two}
use Rattle.share_model.specs.declared.rates.Rate.{Rate}
use Rattle.share_model.specs.link.Tariff.{rate_of, units_of}
use Rattle.share_model.specs.run.Fold.{State, Sent, empty_state, step, outcome, run, sent_frame}
use Rattle.share_model.specs.run.History.{sent_by, bill}
use Rattle.share_bill.specs.declared.bill.kind.Kind.{Kind}
use Rattle.share_bill.specs.declared.bill.running.TenantBill.{TenantBill}
use Rattle.share_bill.specs.declared.bill.running.TenantFlow.{TenantFlow}
use Rattle.share_bill.specs.declared.bill.sums.Sums.{Sums}
use Rattle.share_bill.specs.BookLines.{next_event}

-- The events of lines

-- each line is the next event of a book
unfoldable pub AreEvents : Kind → List Rate → State → List (List ℕ) → List Event → Type 0
AreEvents kind rates s [] [] = Unit {0}
AreEvents kind rates s [] (e ∷ es) = ⊥
AreEvents kind rates s (line ∷ lines) [] = ⊥
AreEvents kind rates s (line ∷ lines) (e ∷ es) =
    (next_event kind s.live line ≡ Ok e) × AreEvents kind rates (step rates s e) lines es

-- The traffic of each tenant

-- a flow that is opened is a tenant's, unless it fills a gap of the flow numbers
abbrev pub tenant_flow : List ℕ → ℕ → List TenantFlow
tenant_flow name flow = if bytes_eq name (codes "gap") then [] else record { name = name; flow = flow } ∷ []

abbrev pub opened_as : ℕ → Command → List TenantFlow
opened_as flow (OpenFlow name limit tariff) = tenant_flow name flow
opened_as flow (MakeCurrency name) = []
opened_as flow (RemoveCurrency name) = []
opened_as flow (MakeTicket amount currency) = []
opened_as flow (RemoveTicket ticket) = []
opened_as flow (FundCurrency ticket currency) = []
opened_as flow (FundFlow ticket funded) = []
opened_as flow (Unfund ticket) = []
opened_as flow (CloseFlow name) = []
opened_as flow (Hold name) = []
opened_as flow (Resume name) = []
opened_as flow (Amend ticket amount) = []

abbrev pub opened_for : Command → Reply → List TenantFlow
opened_for c (Flow flow) = opened_as flow c
opened_for c Done = []
opened_for c (Ticket number) = []
opened_for c (Closed flow dropped account) = []
opened_for c (Packet flow seq) = []
opened_for c (Refused why) = []

abbrev pub opened_with : Command → Outcome → List TenantFlow
opened_with c (Replied reply) = opened_for c reply
opened_with c (Turned turn) = []

-- the flow that an event opened for a tenant
abbrev pub opened_by : Event → Outcome → List TenantFlow
opened_by (Commanded c) o = opened_with c o
opened_by (Arrived flow body) o = []
opened_by (Written k) o = []
opened_by Faulted o = []

-- the flows that were opened for tenants, in order
unfoldable pub tenants_in : List Rate → State → List Event → List TenantFlow
tenants_in rates s [] = []
tenants_in rates s (e ∷ es) = opened_by e (outcome rates s e) ++ tenants_in rates (step rates s e) es

abbrev pub frame_bytes : State → Sent → ℕ
frame_bytes s d = length (sent_frame s.live.version d)

abbrev pub frame_units : List Rate → State → Sent → ℕ
frame_units rates s d = units_of (rate_of rates d.tariff) (frame_bytes s d)

-- the sums of a flow: the frames that it sent, their bytes, their units, and the cost of these
abbrev pub sums_of : List Rate → State → ℕ → Sums
sums_of rates s flow = record {
  packets = length (sent_by flow s.done);
  bytes = sum_by (frame_bytes s) (sent_by flow s.done);
  units = sum_by (frame_units rates s) (sent_by flow s.done);
  amount = bill rates s flow;
}

abbrev pub row_with : TenantFlow → Sums → TenantBill
row_with tenant sums = record {
  name = tenant.name;
  packets = sums.packets;
  bytes = sums.bytes;
  units = sums.units;
  amount = sums.amount;
}

abbrev pub row_of : List Rate → State → TenantFlow → TenantBill
row_of rates s tenant = row_with tenant (sums_of rates s tenant.flow)

-- a row for each flow that was opened for a tenant
abbrev pub rows_of : List Rate → List Event → List TenantBill
rows_of rates events = map (row_of rates (run Two rates events)) (tenants_in rates (empty_state Two) events)
