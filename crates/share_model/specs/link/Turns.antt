-- The frame that is sent, and the effect of the writer's answers on it.
use Rattle.std.specs.Prelude.{ℕ, ◌+◌, Bool, true, false, not, ◌&&◌, List, length, drop, nat_eq, Option, None, Some}
use Rattle.std.specs.Prelude.{option_map, option_and_then, if◌then◌else◌}
use Rattle.share_base.specs.declared.command.Turn.{Turn}
use Rattle.share_base.specs.declared.command.Turn.TheVariants.{Wrote, Torn}
use Rattle.share_base.specs.declared.version.Version.{Version}
use Rattle.share_model.specs.declared.link.Part.{Part}
use Rattle.share_model.specs.declared.rates.Rate.{Rate}
use Rattle.share_model.specs.link.Frame.{Packet, frame}
use Rattle.share_model.specs.link.Buffers.{pop_in, head_of, is_busy}
use Rattle.share_model.specs.stride.Moves.{next, charge}
use Rattle.share_model.specs.funding.Changes.{set_active}
use Rattle.share_model.specs.link.Live.{Live, with_level_queue, with_one_event}
use Rattle.share_model.specs.link.Books.{books_with_units, units_due, is_held, tariff_of}

-- The packet that is sent

-- a frame that a write goes on with: its version, the number of its flow's tariff, its packet, and its bytes that are
-- out
pub record Sending : Type 0 where
  pub version : Version
  pub tariff : ℕ
  pub head : Packet
  pub out : ℕ

abbrev pub frame_of : Sending → List ℕ
frame_of s = frame s.version s.tariff s.head

-- the frame of a packet in a buffer, of which this many bytes are out
abbrev pub sending_at : Live → ℕ → Packet → Sending
sending_at l out h = record { version = l.version; tariff = tariff_of l.books h.flow; head = h; out = out }

-- the rest of the frame in part, whose packet is the head packet of its flow
abbrev pub frame_in_part : Live → Option Part → Option Sending
frame_in_part l None = None
frame_in_part l (Some p) = option_map (sending_at l p.out) (head_of l.buffers p.flow)

-- the frame in part if there is one, otherwise a new frame of the next flow
abbrev pub sending_by : Live → Option Part → Option Sending
sending_by l (Some p) = frame_in_part l (Some p)
sending_by l None = option_map (sending_at l 0) (option_and_then (head_of l.buffers) (next l.queue.clients))

unfoldable pub sending : Live → Option Sending
sending l = sending_by l l.part

-- the bytes of the frame that are not out yet
abbrev pub rest_of : Sending → List ℕ
rest_of s = drop s.out (frame_of s)

abbrev pub is_whole : Sending → ℕ → Bool
is_whole s k = nat_eq (s.out + k) (length (frame_of s))

-- k more bytes are out, and the frame is in part
abbrev pub in_part : Live → Sending → ℕ → Live
in_part l s k = record l {
  part = Some record { flow = s.head.flow; out = s.out + k };
  counts = record l.counts { events = l.counts.events + 1; sent = l.counts.sent + k };
}

-- the last k bytes are out: the flow is charged and posted for the whole frame, and the packet is taken out
abbrev pub whole : List Rate → Live → Sending → ℕ → Live
whole rates l s k =
    let units = units_due rates l.books s.head.flow (length (frame_of s)) in
    let left = pop_in l.buffers s.head.flow in
    with_level_queue (record l {
      graph = set_active l.graph s.head.flow (is_busy left s.head.flow && not (is_held l.books s.head.flow));
      queue = charge l.queue s.head.flow units;
      buffers = left;
      books = books_with_units rates l.books s.head.flow units;
      part = None;
      counts = record l.counts {
        events = l.counts.events + 1;
        written = l.counts.written + 1;
        sent = l.counts.sent + k;
      };
    })

abbrev pub wrote_turn : Sending → ℕ → Bool → Turn
wrote_turn s k is_last = Wrote s.head.flow s.head.seq k is_last

-- the writer accepted k bytes
abbrev pub write_step : List Rate → Live → Sending → ℕ → Live × Turn
write_step rates l s k =
    if is_whole s k then (whole rates l s k, wrote_turn s k true) else (in_part l s k, wrote_turn s k false)

-- the writer failed. The flow is charged and posted for the bytes that are out. The torn packet stays at the head of
-- its buffer, and the link is broken for good
abbrev pub torn_link : List Rate → Live → Sending → Live
torn_link rates l s =
    let units = units_due rates l.books s.head.flow s.out in
    record (with_one_event l) {
      queue = charge l.queue s.head.flow units;
      books = books_with_units rates l.books s.head.flow units;
      part = None;
      torn = Some s.head.flow;
      broken = true;
    }

abbrev pub fault_step : List Rate → Live → Sending → Live × Turn
fault_step rates l s = (torn_link rates l s, Torn s.head.flow s.head.seq s.out)
