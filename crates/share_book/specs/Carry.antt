-- The packets that are carried over from a book that was closed to a new one.
use Rattle.std.specs.Prelude.{◌≡◌, ◌-◌, ℕ, zero, suc, Bool, false, List, [], ◌∷◌, length, map, take, drop}
use Rattle.std.specs.Prelude.{nat_lt, sum_by, Option, None, Some, option_map, if◌then◌else◌}
use Rattle.std.specs.List.{fold}
use Rattle.share_base.specs.Body.{unstamped}
use Rattle.share_base.specs.declared.command.Event.{Event}
use Rattle.share_base.specs.declared.command.Event.TheVariants.{Arrived}
use Rattle.share_model.specs.declared.funding.OpenFlow.{OpenFlow as FlowEntry}
use Rattle.share_model.specs.funding.Changes.{flow_named}
use Rattle.share_model.specs.funding.Graph.{NameBytes}
use Rattle.share_model.specs.link.Buffers.{Buffer, buffer_of, pop_in, count_in}
use Rattle.share_model.specs.link.Calls.{is_spent}
use Rattle.share_model.specs.link.Live.{Live}
use Rattle.share_book.specs.Audited.{Audited, after_event}
use Rattle.share_gateway.specs.Plan.{TenantView}
use Rattle.share_gateway.specs.PlanChanges.{tenant_flow}
use Rattle.share_book.specs.Closed.{ClosedView}
use Rattle.share_book.specs.Texts.{line_in, longest_line, text_room}
use Rattle.share_book.specs.declared.book_text.TextKind.{TextKind}
use Rattle.share_book.specs.declared.book.carrying.Carried.{Carried}
use Rattle.share_book.specs.declared.book.carrying.Carried.TheVariants.{More, Spent, Done}

-- ---- A closed book

abbrev pub packets_by : Option Buffer → List (List ℕ)
packets_by None = []
packets_by (Some b) = b.packets

-- the packets of a tenant that wait in a closed book
abbrev pub left_for : ClosedView → NameBytes → List (List ℕ)
left_for c name = packets_by (buffer_of c.buffers (tenant_flow c.plan name))

-- the number of packets of all tenants that wait in it
abbrev pub left_in : ClosedView → ℕ
left_in c = sum_by (λ (t : TenantView). count_in c.buffers t.flow) c.plan.tenants

-- ---- One tenant

abbrev pub places_by : Option Buffer → ℕ
places_by None = 0
places_by (Some b) = b.limit - length b.packets

-- the number of the open flow of a name
abbrev pub number_in : Option FlowEntry → Option ℕ
number_in o = option_map (λ (e : FlowEntry). e.number) o

abbrev pub buffer_by : List Buffer → Option ℕ → Option Buffer
buffer_by bs None = None
buffer_by bs (Some f) = buffer_of bs f

-- the number of packets that have room in the buffer of the flow of a name: none if there is no such flow
abbrev pub places_for : Live → NameBytes → ℕ
places_for l name = places_by (buffer_by l.buffers (number_in (flow_named l.graph name)))

abbrev pub packet_event : NameBytes → List ℕ → Event
packet_event name payload = Arrived name (unstamped payload)

-- the packets of a tenant that are to be carried: the first ones, as many as have room
abbrev pub due_for : Audited → ClosedView → NameBytes → List Event
due_for a c name = map (packet_event name) (take (places_for a.link.live name) (left_for c name))

-- the first of these events, as far as the text has room for the longest line before each
abbrev pub fitting : TextKind → ℕ → List Event → List Event
fitting kind room [] = []
fitting kind room (e ∷ es) =
    if nat_lt room (longest_line kind) then [] else e ∷ fitting kind (room - length (line_in kind e)) es

-- and as far as events of the life are left
abbrev pub carried_for : Audited → ClosedView → NameBytes → List Event
carried_for a c name =
    fitting a.kind (text_room a.text)
    (take (a.link.life - a.link.live.counts.events) (due_for a c name))

-- that many packets of a flow were taken out, from the head on
abbrev pub without_first : ℕ → ℕ → List Buffer → List Buffer
without_first flow zero bs = bs
without_first flow (suc n) bs = without_first flow n (pop_in bs flow)

-- the first packet of a tenant is an event of the book, and is taken out of the closed one
pub record IsCarried (old : Audited) (before : ClosedView) (name : NameBytes) (new : Audited)
    (after : ClosedView) : Type 0
  where
    pub payload : List ℕ
    pub head : left_for before name ≡ payload ∷ drop 1 (left_for before name)
    pub book : new ≡ after_event old (packet_event name payload)
    pub closed : after ≡ record before { buffers = pop_in before.buffers (tenant_flow before.plan name) }

-- ---- All tenants

-- the book and the closed one while packets are carried, and whether that stopped before all were
pub record Carrying : Type 0 where
  pub book : Audited
  pub closed : ClosedView
  pub stopped : Bool

-- after the packets of a tenant
abbrev pub carry_tenant : Audited → ClosedView → NameBytes → Carrying
carry_tenant a c name =
    let events = carried_for a c name in
    record {
      book = fold after_event a events;
      closed = record c { buffers = without_first (tenant_flow c.plan name) (length events) c.buffers };
      stopped = nat_lt (length events) (length (due_for a c name));
    }

abbrev pub carry_next : Carrying → TenantView → Carrying
carry_next x t = if x.stopped then x else carry_tenant x.book x.closed t.name

-- after the packets of these tenants, in order, up to the first that stops
abbrev pub carry_all : Audited → ClosedView → List TenantView → Carrying
carry_all a c tenants = fold carry_next (record { book = a; closed = c; stopped = false }) tenants

-- all that had room is carried, and what is left is dropped; or no event is left, or the text has no room
abbrev pub carry_answer : Carrying → Carried
carry_answer x =
    if x.stopped then (if is_spent x.book.link then Spent else More) else Done (left_in x.closed)

pub record Carries (old : Audited) (tenants : List TenantView) (before : ClosedView) (answer : Carried)
    (new : Audited) (after : ClosedView) : Type 0 where
  pub answer_is : answer ≡ carry_answer (carry_all old before tenants)
  pub book : new ≡ (carry_all old before tenants).book
  pub closed : after ≡ (carry_all old before tenants).closed
