-- The effect of a line on the link of a bill.
use Rattle.std.specs.Prelude.{◌≡◌, ◌<◌, ◌≤◌, ◌+◌, ◌^◌, ℕ, Bool, true, false, List, [], ◌++◌, length, nat_eq, Option}
use Rattle.std.specs.Prelude.{None, Some}
use Rattle.std.specs.Prelude.{if◌then◌else◌}
use Rattle.std.specs.Prelude.{Result, Ok, Err, MatchResult, ⊤}
use Rattle.share_base.specs.declared.refusal.Refusal.{Refusal}
use Rattle.share_base.specs.declared.command.Command.{Command}
use Rattle.share_base.specs.declared.command.Command.TheVariants.{MakeCurrency, RemoveCurrency, MakeTicket}
use Rattle.share_base.specs.declared.command.Command.TheVariants.{RemoveTicket, FundCurrency, FundFlow, Unfund}
use Rattle.share_base.specs.declared.command.Command.TheVariants.{OpenFlow, CloseFlow, Hold, Resume, Amend}
use Rattle.share_base.specs.declared.command.Event.{Event}
use Rattle.share_base.specs.declared.command.Event.TheVariants.{Commanded, Written}
use Rattle.share_base.specs.declared.command.Outcome.{Outcome}
use Rattle.share_base.specs.declared.command.Outcome.TheVariants.{Replied}
use Rattle.share_base.specs.declared.command.Reply.{Reply}
use Rattle.share_base.specs.declared.command.Reply.TheVariants.{Done, Ticket, Flow, Closed, Packet, Refused}
use Rattle.share_base.specs.declared.refusal.Refusal.TheVariants.{NoMemory as NoMemoryRefusal}
use Rattle.share_base.specs.declared.command.Turn.{Turn}
use Rattle.share_base.specs.declared.command.Turn.TheVariants.{Wrote, Torn, Idle, Again, Broken, Spent}
use Rattle.share_base.specs.declared.version.Version.TheVariants.{Two}
use Rattle.share_model.specs.declared.line.Line.{Line}
use Rattle.share_model.specs.link.Books.{account_of}
use Rattle.share_model.specs.link.Live.{Live}
use Rattle.share_model.specs.link.Step.{live_step}
use Rattle.share_model.specs.link.Turns.{Sending, sending, rest_of, whole}
use Rattle.share_model.specs.link.View.{LinkView}
use Rattle.share_model.specs.run.Events.{MayCome}
use Rattle.share_model.specs.run.Fold.{TornFrame, sent_by_event, torn_after}
use Rattle.share_model.specs.run.Sound.{max_life}
use Rattle.share_bill.specs.declared.bill.line.LineFault.{LineFault}
use Rattle.share_bill.specs.declared.bill.line.LineFault.TheVariants.{NoMemory, Wrong as WrongLine}
use Rattle.share_bill.specs.declared.bill.line.Wrong.{Wrong}
use Rattle.share_bill.specs.declared.bill.line.Wrong.TheVariants.{Unread, Untaken, Foreign}
use Rattle.share_bill.specs.declared.bill.making.Frame.{Frame}
use Rattle.share_bill.specs.declared.bill.making.Made.{Made}
use Rattle.share_bill.specs.declared.bill.making.Made.TheVariants.{Opened, Sent, Other}
use Rattle.share_bill.specs.declared.bill.kind.Kind.{Kind}
use Rattle.share_bill.specs.declared.bill.running.TenantFlow.{TenantFlow}
use Rattle.share_bill.specs.declared.bill.sums.Sums.{Sums}
use Rattle.share_bill.specs.Bills.{opened_by, tenant_flow}
use Rattle.share_bill.specs.BookLines.{event_of, book_reading}
use Rattle.share_bill.specs.Sums.{sums_at, one_more}

-- a link of version 2 with the longest life, which no fault broke
pub record IsBookLink {W : Type 0} (link : LinkView W) : Type 0 where
  pub life : link.life ≡ max_life
  pub version : link.live.version ≡ Two
  pub unbroken : link.live.broken ≡ false

-- the link made this event, with this outcome
pub record Makes {W : Type 0} (old : LinkView W) (e : Event) (o : Outcome) (new : LinkView W) : Type 0 where
  pub below : old.live.counts.events < old.life
  pub may : MayCome old.live e
  pub live : new.live ≡ (live_step old.rates old.live e).0
  pub outcome_is : o ≡ (live_step old.rates old.live e).1
  pub life : new.life ≡ old.life
  pub rates : new.rates ≡ old.rates

-- The part of an event that a bill keeps

-- a whole frame of a flow was sent: what it was charged, and what all that the flow sent costs
pub record IsSentFrame (old : Live) (flow bytes units amount : ℕ) (e : Event) (new : Live) : Type 0 where
  pub is : e ≡ Written bytes
  pub frame : Sending
  pub sends : sending old ≡ Some frame
  pub flow_is : frame.head.flow ≡ flow
  pub whole : length (rest_of frame) ≡ bytes
  pub charged : new.queue.clock ≡ old.queue.clock + units
  pub few : units ≤ 2 ^ 38
  pub costs : account_of new.books flow ≡ amount

abbrev pub IsKept : Made → Live → Event → Outcome → Live → Type 0
IsKept (Opened name flow) old e o new =
    (limit tariff : ℕ) × (e ≡ Commanded (OpenFlow name limit tariff)) × (o ≡ Replied (Flow flow))
IsKept (Sent flow bytes units amount) old e o new = IsSentFrame old flow bytes units amount e new
IsKept Other old e o new =
    (opened_by e o ≡ []) × (sent_by_event old e ≡ []) × ((t : Option TornFrame) → torn_after old e t ≡ t)

pub record MakesLine {W : Type 0} (old : LinkView W) (line : Line) (made : Made) (new : LinkView W) : Type 0 where
  pub event : Event
  pub outcome : Outcome
  pub is : event_of old.live line ≡ Ok event
  pub makes : Makes old event outcome new
  pub kept : IsKept made old.live event outcome new.live

-- memory was refused, or this is wrong with the line
abbrev pub IsFault : Result Event Wrong → LineFault → Type 0
IsFault found NoMemory = ⊤
IsFault found (WrongLine why) = found ≡ Err why

abbrev pub MakesOrNot : {W : Type 0} → LinkView W → Line → Result Made LineFault → LinkView W → Type 0
MakesOrNot old line result new =
    MatchResult result (λ made. MakesLine old line made new) (λ fault. IsFault (event_of old.live line) fault)

-- The parts of a bill: the flows of tenants, and what each flow sent

abbrev pub KeepsMade : Made → List TenantFlow → List Sums → List TenantFlow → List Sums → Type 0
KeepsMade (Opened name flow) tenants sent now_tenants now_sent =
    (now_tenants ≡ tenants ++ tenant_flow name flow) × (now_sent ≡ sent)
KeepsMade (Sent flow bytes units amount) tenants sent now_tenants now_sent =
    (now_tenants ≡ tenants)
    × ((other : ℕ) → sums_at now_sent other
    ≡ (if nat_eq other flow then one_more (sums_at sent flow) bytes units amount else sums_at sent other))
KeepsMade Other tenants sent now_tenants now_sent = (now_tenants ≡ tenants) × (now_sent ≡ sent)

-- units that a link can charge
abbrev pub HasFewUnits : Made → Type 0
HasFewUnits (Opened name flow) = ⊤
HasFewUnits (Sent flow bytes units amount) = units ≤ 2 ^ 38
HasFewUnits Other = ⊤

-- the kind of the book, the link of its run, the flows of tenants, and what each flow sent
pub record BillView (W : Type 0) : Type 0 where
  pub kind : Kind
  pub link : LinkView W
  pub tenants : List TenantFlow
  pub sent : List Sums

-- the event of a line was made, and what a bill keeps of it was kept
pub record ObeysLine {W : Type 0} (old : LinkView W) (tenants : List TenantFlow) (sent : List Sums) (line : Line)
    (new : LinkView W) (now_tenants : List TenantFlow) (now_sent : List Sums) : Type 0 where
  pub made : Made
  pub makes : MakesLine old line made new
  pub keeps : KeepsMade made tenants sent now_tenants now_sent

-- the bytes are read as a line, its event was made, and what a bill keeps of it was kept
pub record TakesLine {W : Type 0} (old : BillView W) (bytes : List ℕ) (new : BillView W) : Type 0 where
  pub line : Line
  pub reads : book_reading old.kind bytes ≡ Ok line
  pub obeys : ObeysLine old.link old.tenants old.sent line new.link new.tenants new.sent
  pub kind : new.kind ≡ old.kind

-- Bytes that are no line

abbrev pub is_memory : Refusal → Bool
is_memory NoMemoryRefusal = true
is_memory _ = false

abbrev pub unread : Refusal → LineFault
unread why = if is_memory why then NoMemory else WrongLine (Unread why)

-- Commands

abbrev pub is_lack : Reply → Bool
is_lack (Refused NoMemoryRefusal) = true
is_lack (Refused _) = false
is_lack Done = false
is_lack (Ticket number) = false
is_lack (Flow number) = false
is_lack (Closed flow dropped account) = false
is_lack (Packet flow seq) = false

abbrev pub made_as : ℕ → Command → Made
made_as flow (MakeCurrency name) = Other
made_as flow (RemoveCurrency name) = Other
made_as flow (MakeTicket amount currency) = Other
made_as flow (RemoveTicket ticket) = Other
made_as flow (FundCurrency ticket currency) = Other
made_as flow (FundFlow ticket funded) = Other
made_as flow (Unfund ticket) = Other
made_as flow (OpenFlow name limit tariff) = Opened name flow
made_as flow (CloseFlow name) = Other
made_as flow (Hold name) = Other
made_as flow (Resume name) = Other
made_as flow (Amend ticket amount) = Other

abbrev pub made_by : Command → Reply → Made
made_by c (Flow flow) = made_as flow c
made_by c Done = Other
made_by c (Ticket number) = Other
made_by c (Closed flow dropped account) = Other
made_by c (Packet flow seq) = Other
made_by c (Refused why) = Other

-- Packets

abbrev pub taken_as : Reply → Result Made LineFault
taken_as (Packet flow seq) = Ok Other
taken_as (Refused why) = Err (WrongLine (Untaken why))
taken_as Done = Err (WrongLine Foreign)
taken_as (Ticket number) = Err (WrongLine Foreign)
taken_as (Flow flow) = Err (WrongLine Foreign)
taken_as (Closed flow dropped account) = Err (WrongLine Foreign)

-- Turns

abbrev pub frame_in : Turn → Option Frame
frame_in (Wrote flow seq k whole) = Some record { flow = flow; bytes = k }
frame_in (Torn flow seq j) = None
frame_in Idle = None
frame_in Again = None
frame_in Broken = None
frame_in Spent = None

-- the rest of the frame that is sent was written, and with it the whole
pub record WritesFrame {W : Type 0} (old : LinkView W) (written : Frame) (new : LinkView W) : Type 0 where
  pub frame : Sending
  pub sends : sending old.live ≡ Some frame
  pub flow : written.flow ≡ frame.head.flow
  pub bytes : written.bytes ≡ length (rest_of frame)
  pub live : new.live ≡ whole old.rates old.live frame (length (rest_of frame))
  pub life : new.life ≡ old.life
  pub rates : new.rates ≡ old.rates
