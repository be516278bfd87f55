-- The readings of a link: its totals, and each of its open flows.
use Rattle.std.specs.Prelude.{ℕ, ◌-◌, Bool, true, false, List, length, sum_by, slice_get, Option, None, Some}
use Rattle.std.specs.Prelude.{option_map}
use Rattle.std.specs.Prelude.{if◌then◌else◌}
use Rattle.share_model.specs.declared.link.LinkState.{LinkState}
use Rattle.share_model.specs.declared.link.LinkState.TheVariants.{Free, InPart, Torn}
use Rattle.share_model.specs.declared.link.Part.{Part}
use Rattle.share_model.specs.declared.link.Row.{Row}
use Rattle.share_model.specs.declared.link.Totals.{Totals}
use Rattle.share_model.specs.declared.funding.OpenFlow.{OpenFlow}
use Rattle.share_model.specs.funding.Graph.{NameBytes}
use Rattle.share_model.specs.link.Buffers.{Buffer}
use Rattle.share_model.specs.link.Live.{Live}
use Rattle.share_model.specs.link.Commands.{waiting_of}
use Rattle.share_model.specs.stride.Moves.{total}

-- the packets in the buffers, a torn one among them
abbrev pub packets_in : List Buffer → ℕ
packets_in bs = sum_by (λ (b : Buffer). length b.packets) bs

-- the number of torn packets of open flows
abbrev pub torn_packets : Option ℕ → ℕ
torn_packets None = 0
torn_packets (Some f) = 1

-- the packets in the buffers, a torn one not counted
abbrev pub waiting : Live → ℕ
waiting l = packets_in l.buffers - torn_packets l.torn

abbrev pub state_by : Bool → Option Part → LinkState
state_by true part = Torn
state_by false None = Free
state_by false (Some p) = InPart

-- the number of torn packets, even if the flow was closed since
abbrev pub torn_count : Bool → ℕ
torn_count broken = if broken then 1 else 0

abbrev pub totals : Live → Totals
totals l = record {
  clock = l.queue.clock;
  accepted = l.counts.accepted;
  written = l.counts.written;
  torn = torn_count l.broken;
  waiting = waiting l;
  dropped = l.counts.dropped;
  bytes = l.counts.sent;
  past = l.counts.past;
  tickets = total l.queue.clients;
  pass = l.queue.pass;
  link = state_by l.broken l.part;
}

abbrev pub row_of : Live → NameBytes × OpenFlow → Row
row_of l e = record { flow = e.1.number; name = e.0; waiting = waiting_of l e.1.number }

-- the n-th open flow, from 0, in order of opening
abbrev pub row : Live → ℕ → Option Row
row l n = option_map (row_of l) (slice_get l.graph.flows n)
