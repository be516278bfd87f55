-- The bytes that the wire takes of the frames on their way to it.
use Rattle.std.specs.Prelude.{◌≡◌, ◌≤◌, ℕ, length}
use Rattle.share_gateway.specs.Outbox.{begun_again, ready_frame, ready_of, send_more}
use Rattle.share_sockets.specs.declared.progress.Progress.{Progress}
use Rattle.share_sockets.specs.declared.progress.Progress.TheVariants.{Moved, Again, Waits, Over}
use Rattle.share_transit.specs.Transit.{TransitView}
use Rattle.share_uplink.specs.declared.state.Work.{Work}
use Rattle.share_uplink.specs.declared.state.Work.TheVariants.{Idle, Busy, Connected, Lost, Unreachable}

-- the wire took bytes, piece by piece, each time of those that were ready, and nothing else changed
pub data WireTakes : TransitView → TransitView → Type 0 where
  nothing : (t : TransitView) → WireTakes t t
  piece : (s t : TransitView) → WireTakes s t → (n : ℕ) → n ≤ length (ready_of t.outbox)
      → WireTakes s (record t { outbox = send_more n t.outbox })

-- the frame that may go next is out
abbrev pub frame_out : TransitView → TransitView
frame_out t = record t { outbox = send_more (length (ready_frame t.outbox)) t.outbox }

-- the outcome of a datagram: if it was sent, its frame is out, and otherwise nothing changed
abbrev pub SendsOne : TransitView → Progress → TransitView → Type 0
SendsOne before (Moved n) after = after ≡ frame_out before
SendsOne before Again after = after ≡ before
SendsOne before Waits after = after ≡ before
SendsOne before Over after = after ≡ before

-- the wire took whole frames, one after the other, each as the frame that may go next
pub data SendsFrames : TransitView → TransitView → Type 0 where
  no_frame : (t : TransitView) → SendsFrames t t
  frame : (s t : TransitView) → SendsFrames s t → SendsFrames s (frame_out t)

-- on a new connection the outbox begins again, and a dial that failed changes nothing; otherwise the wire took bytes
abbrev pub UplinkWorks : TransitView → Work → TransitView → Type 0
UplinkWorks before Idle after = WireTakes before after
UplinkWorks before Busy after = WireTakes before after
UplinkWorks before Connected after = after ≡ record before { outbox = begun_again before.outbox }
UplinkWorks before Lost after = WireTakes before after
UplinkWorks before Unreachable after = after ≡ before
