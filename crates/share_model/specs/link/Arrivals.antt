-- The effect of an arrival on a link: the packet goes into the buffer of its flow.
use Rattle.std.specs.Prelude.{ℕ, ◌+◌, not, List, Option, None, Some, if◌then◌else◌}
use Rattle.share_base.specs.declared.refusal.Refusal.TheVariants.{NoFlow, BufferFull}
use Rattle.share_base.specs.declared.command.Reply.{Reply}
use Rattle.share_base.specs.declared.command.Reply.TheVariants.{Packet as PacketReply, Refused}
use Rattle.share_model.specs.declared.funding.OpenFlow.{OpenFlow as FlowEntry}
use Rattle.share_model.specs.link.Books.{is_held}
use Rattle.share_model.specs.link.Buffers.{Buffer, buffer_of, push_in, is_full}
use Rattle.share_model.specs.funding.Graph.{NameBytes}
use Rattle.share_model.specs.funding.Changes.{flow_named, set_active}
use Rattle.share_model.specs.link.Live.{Live, with_level_queue, with_one_event}

-- Arrivals

abbrev pub accept : Live → ℕ → List ℕ → Live
accept l f body = with_level_queue (record l {
  graph = set_active l.graph f (not (is_held l.books f));
  buffers = push_in l.buffers f body;
  counts = record l.counts { events = l.counts.events + 1; accepted = l.counts.accepted + 1 };
})

abbrev pub arrive_in : Live → ℕ → List ℕ → Option Buffer → Live × Reply
arrive_in l f body None = (with_one_event l, Refused NoFlow)
arrive_in l f body (Some b) =
    if is_full b then (with_one_event l, Refused BufferFull) else (accept l f body, PacketReply f b.next)

abbrev pub arrive_by : Live → List ℕ → Option FlowEntry → Live × Reply
arrive_by l body None = (with_one_event l, Refused NoFlow)
arrive_by l body (Some e) = arrive_in l e.number body (buffer_of l.buffers e.number)

-- the packet goes to the back of the buffer of the flow of this name, which is active from then on unless it is held
abbrev pub arrive_step : Live → NameBytes → List ℕ → Live × Reply
arrive_step l name body = arrive_by l body (flow_named l.graph name)
