-- The write that is due.
use Rattle.std.proofs.Common.{◌≡◌, ℕ, ◌+◌, List, length, Option, None, Some, option_map, MatchOption, refl, sym, ◌∙◌}
use Rattle.std.proofs.Common.{ap, subst}
use Rattle.share_model.specs.declared.link.Part.{Part}
use Rattle.share_model.specs.link.Frame.{Packet}
use Rattle.share_model.proofs.lemmas.link.FrameLemmas.{length-frame}
use Rattle.share_base.specs.Version.{header_length}
use Rattle.share_model.specs.link.Books.{tariff_of}
use Rattle.share_model.specs.link.Buffers.{head_of}
use Rattle.share_model.specs.link.Live.{Live}
use Rattle.share_model.specs.link.Turns.{Sending, sending_at, sending}
use Rattle.share_model.specs.stride.Moves.{next}
use Rattle.share_flows.specs.BufferHandles.{Stands}
use Rattle.share_core.specs.declared.next_write.NextWrite.{NextWrite}
use Rattle.share_core.specs.NextWrite.{IsNextWriteOf}

pub sending-part : (l : Live) (p : Part) → l.part ≡ Some p
    → sending l ≡ option_map (sending_at l p.out) (head_of l.buffers p.flow)
unfolding sending
sending-part l p is = rw is refl

pub sending-next : (l : Live) (f : ℕ) → l.part ≡ None → next l.queue.clients ≡ Some f
    → sending l ≡ option_map (sending_at l 0) (head_of l.buffers f)
unfolding sending
sending-next l f none is = rw (none, is) refl

pub sending-none : (l : Live) → l.part ≡ None → next l.queue.clients ≡ None → sending l ≡ None
unfolding sending
sending-none l none is = rw (none, is) refl

-- the write that goes on with the head packet of a flow is that of the frame that is sent, or there is neither
pub sending_placed : (l : Live) (out : ℕ) (o : Option Packet) (r : Option NextWrite)
    → sending l ≡ option_map (sending_at l out) o
    → MatchOption r (o ≡ None) (λ p. IsNextWriteOf (option_map (sending_at l out) o) p × Stands l.buffers p.buffer)
    → MatchOption r (sending l ≡ None) (λ p. IsNextWriteOf (sending l) p × Stands l.buffers p.buffer)
sending_placed l out o None is none = is ∙ ap (option_map (sending_at l out)) none
sending_placed l out o (Some p) is placed =
    (subst (λ (s : Option Sending). IsNextWriteOf s p) (sym is) placed.0, placed.1)

same_due : (due : NextWrite) (tariff len : ℕ) → due.tariff ≡ tariff → due.length ≡ len
    → due ≡ record due { tariff = tariff; length = len }
same_due due tariff len is long = rw (sym is, sym long) refl

-- a head packet, with the tariff of its flow and the length of its frame, is what its write goes on with
pub head_placed : (l : Live) (due : NextWrite) (payload : List ℕ)
    → head_of l.buffers due.buffer.flow
    ≡ Some record { flow = due.buffer.flow; seq = due.seq; payload = payload }
    → due.tariff ≡ tariff_of l.books due.buffer.flow → due.length ≡ header_length l.version + length payload
    → IsNextWriteOf (option_map (sending_at l due.out) (head_of l.buffers due.buffer.flow)) due
head_placed l due payload head tariff long =
    let h : Packet = record { flow = due.buffer.flow; seq = due.seq; payload = payload } in
    subst (λ (o : Option Packet). IsNextWriteOf (option_map (sending_at l due.out) o) due) (sym head)
    (same_due due _ _ tariff (long ∙ sym (length-frame l.version (tariff_of l.books due.buffer.flow) h)))
