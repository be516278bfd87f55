-- The invariant of every link that events have made, layer by layer. It has the bounds that keep each number in its
-- type, and the ties between the funding, the queue, the buffers and the books. Callers learn it from each call; the
-- laws say that each event keeps it.
use Rattle.std.specs.Prelude.{◌≡◌, ◌⊎◌, ◌<◌, ◌≤◌, ◌+◌, ◌-◌, ◌*◌, ◌^◌, ℕ, Bool, true, false, not, List, map, length}
use Rattle.std.specs.Prelude.{sum_by}
use Rattle.std.specs.Prelude.{◌&&◌, Option, None, Some, IsTrue, is_some}
use Rattle.std.specs.FinMap as finmap
use Rattle.std.specs.FinMap.{get}
use Rattle.share_model.specs.lists.Each.{Each}
use Rattle.share_model.specs.lists.Rises.{has_number}
use Rattle.share_base.specs.declared.version.Version.{Version}
use Rattle.share_model.specs.declared.link.Book.{Book}
use Rattle.share_model.specs.declared.link.Counts.{Counts}
use Rattle.share_model.specs.declared.link.Part.{Part}
use Rattle.share_model.specs.declared.rates.Rate.{Rate}
use Rattle.share_model.specs.declared.funding.OpenFlow.{OpenFlow}
use Rattle.share_model.specs.link.Fields.{IsBody}
use Rattle.share_model.specs.link.Tariff.{rate_at}
use Rattle.share_model.specs.link.Frame.{Packet, frame_length}
use Rattle.share_model.specs.link.Books.{is_held}
use Rattle.share_model.specs.link.Buffers.{Buffer, buffer_of, head_of, is_some_packet}
use Rattle.share_model.specs.link.Totals.{packets_in}
use Rattle.share_model.specs.funding.Graph.{NameBytes, Graph, flow_numbers}
use Rattle.share_model.specs.funding.WellFormed.{IsWellFormed}
use Rattle.share_model.specs.link.Live.{Live, empty_link, tickets_of_all}
use Rattle.share_model.specs.run.Fold.{TornFrame, State, out}
use Rattle.share_model.specs.stride.Moves.{Stride}
use Rattle.share_model.specs.stride.Level.{IsLevel}
use Rattle.share_model.specs.stride.Bound.{IsSound as IsSoundQueue}

-- ---- Counts

-- 1 if the torn packet's flow was closed, so that the packet is in no buffer
abbrev pub torn_gone : Bool → Option ℕ → ℕ
torn_gone true None = 1
torn_gone true (Some f) = 0
torn_gone false torn = 0

-- an accepted packet was written whole or dropped, or is in a buffer, or was torn before its flow was closed
pub record CountsAreSound (life : ℕ) (c : Counts) (held gone : ℕ) : Type 0 where
  pub events : c.events ≤ life
  pub accepted : c.accepted ≤ c.events
  pub sent : c.sent ≤ c.events * 9017
  pub balance : c.accepted ≡ c.written + c.dropped + held + gone

-- ---- Funding and flows

-- each event gave at most one number to a ticket, and one to a flow
pub record FundingIsSound (events : ℕ) (g : Graph) : Type 0 where
  pub kept : IsWellFormed g
  pub next_ticket : g.next_ticket ≤ events + 1
  pub next_flow : g.next_flow ≤ events + 1

-- a flow is active while its buffer holds a packet and it is not held
abbrev pub is_awake : List Book → Buffer → Bool
is_awake books b = is_some_packet b.packets && not (is_held books b.flow)

-- each open flow has a buffer and a book, in order of opening, and is active accordingly
pub record FlowsAreTied (es : List (NameBytes × OpenFlow)) (buffers : List Buffer) (books : List Book) : Type 0 where
  pub buffered : map (λ (b : Buffer). b.flow) buffers ≡ flow_numbers es
  pub booked : map (λ (b : Book). b.flow) books ≡ flow_numbers es
  pub active : map (λ (e : NameBytes × OpenFlow). e.1.active) es
      ≡ map (is_awake books) buffers

-- ---- The queue

-- the longest life, in events
abbrev pub max_life : ℕ
max_life = 2 ^ 24

-- the clients are the open flows, and an event charges at most 11842 units. The queue is sound if the life is at most
-- the longest one
pub record QueueIsSound (life events : ℕ) (flows : List ℕ) (q : Stride) : Type 0 where
  pub clients : (f : ℕ) → is_some (get q.clients f) ≡ has_number f flows
  pub count : finmap.len q.clients ≡ length flows
  pub clock : q.clock ≤ events * 11842
  pub sound : life ≤ max_life → IsSoundQueue q

-- ---- Buffers and books

-- flows and packets are numbered from 1, each accepted packet was an event, and frames of the version carry each
-- payload
pub record IsSoundBuffer (version : Version) (events : ℕ) (b : Buffer) : Type 0 where
  pub flow : 1 ≤ b.flow
  pub given : length b.packets < b.next
  pub numbers : b.next ≤ events + 1
  pub payloads : Each (IsBody version) b.packets

abbrev pub IsOnShelf : List Rate → Book → Type 0
IsOnShelf rates b = IsTrue (is_some (rate_at rates b.tariff))

abbrev pub accounts_in : List Book → ℕ
accounts_in books = sum_by (λ (b : Book). b.account) books

-- each tariff is on the shelf, and an event posts less than 2^30
pub record BooksAreSound (rates : List Rate) (c : Counts) (books : List Book) : Type 0 where
  pub known : Each (IsOnShelf rates) books
  pub accounts : c.past + accounts_in books ≤ c.events * (2 ^ 30 - 1)

-- ---- The frame in part, and the torn packet

-- the flow of the frame in part has a packet, and some of its frame's bytes are out, but not all
pub record IsSoundPart (version : Version) (buffers : List Buffer) (p : Part) : Type 0 where
  pub head : Packet
  pub found : head_of buffers p.flow ≡ Some head
  pub some : 0 < p.out
  pub few : p.out < frame_length version head

abbrev pub PartIsSound : Version → List Buffer → Option Part → Type 0
PartIsSound version buffers None = Unit {0}
PartIsSound version buffers (Some p) = IsSoundPart version buffers p

pub record NamesTorn (buffers : List Buffer) (broken : Bool) (f : ℕ) : Type 0 where
  pub broken_is : broken ≡ true
  pub head : Packet
  pub found : head_of buffers f ≡ Some head

abbrev pub TornIsNamed : List Buffer → Bool → Option ℕ → Type 0
TornIsNamed buffers broken None = Unit {0}
TornIsNamed buffers broken (Some f) = NamesTorn buffers broken f

-- a link names the flow of a torn packet only if it is broken and that flow has a packet. A broken link has no frame in
-- part
pub record TornIsSound (buffers : List Buffer) (broken : Bool) (torn : Option ℕ) (part : Option Part) : Type 0 where
  pub named : TornIsNamed buffers broken torn
  pub unparted : broken ≡ true → part ≡ None

-- ---- The link

pub record Sound (life : ℕ) (rates : List Rate) (l : Live) : Type 0 where
  -- a link that made no event holds nothing
  pub fresh : l.counts.events ≡ 0 → l ≡ empty_link l.version
  pub counts : CountsAreSound life l.counts (packets_in l.buffers) (torn_gone l.broken l.torn)
  pub funding : FundingIsSound l.counts.events l.graph
  pub flows : FlowsAreTied l.graph.flows l.buffers l.books
  pub queue : QueueIsSound life l.counts.events (flow_numbers l.graph.flows) l.queue
  -- each open flow competes with exactly its tickets
  pub level : IsLevel l.queue (tickets_of_all l.graph)
  pub buffers : Each (IsSoundBuffer l.version l.counts.events) l.buffers
  pub books : BooksAreSound rates l.counts l.books
  pub part : PartIsSound l.version l.buffers l.part
  pub torn : TornIsSound l.buffers l.broken l.torn l.part

-- ---- The whole state

-- the flow of the torn packet is open and named, and the packet is its head
pub record IsTornHead (buffers : List Buffer) (torn : Option ℕ) (t : TornFrame) : Type 0 where
  pub named : torn ≡ Some t.head.flow
  pub head : head_of buffers t.head.flow ≡ Some t.head

-- the flow of the torn packet was closed
pub record IsTornGone (buffers : List Buffer) (torn : Option ℕ) (t : TornFrame) : Type 0 where
  pub unnamed : torn ≡ None
  pub closed : buffer_of buffers t.head.flow ≡ None

pub record IsTornFrame (l : Live) (t : TornFrame) : Type 0 where
  pub broken : l.broken ≡ true
  pub given : t.head.flow < l.graph.next_flow
  pub place : IsTornHead l.buffers l.torn t ⊎ IsTornGone l.buffers l.torn t

-- a frame is torn if and only if the link is broken
abbrev pub TornIsTold : Live → Option TornFrame → Type 0
TornIsTold l None = (l.broken ≡ false) × (l.torn ≡ None)
TornIsTold l (Some t) = IsTornFrame l t

-- the same of the state of a run: the counts are those of its history
pub record SoundState (life : ℕ) (rates : List Rate) (s : State) : Type 0 where
  pub live : Sound life rates s.live
  pub done : length s.done ≡ s.live.counts.written
  pub sent : length (out s) ≡ s.live.counts.sent
  pub torn : TornIsTold s.live s.torn
