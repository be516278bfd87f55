-- A packet for which there is room is accepted.
use Rattle.std.specs.Prelude.{◌≡◌, ℕ, Bool, true, false, not, List, Option, None, Some, if◌then◌else◌}
use Rattle.std.specs.Prelude.{is_some}
use Rattle.std.proofs.Common.{refl, ap, sym, ◌∙◌, subst}
use Rattle.share_base.specs.declared.command.Reply.{Reply}
use Rattle.share_base.specs.declared.command.Reply.TheVariants.{Packet}
use Rattle.share_core.specs.Room.{has_place, has_room_by, has_room, free_by, free_flow}
use Rattle.share_model.specs.declared.funding.OpenFlow.{OpenFlow}
use Rattle.share_model.specs.funding.Changes.{flow_named, flow_number}
use Rattle.share_model.specs.funding.Graph.{NameBytes}
use Rattle.share_model.specs.link.Arrivals.{accept, arrive_in, arrive_by, arrive_step}
use Rattle.share_model.specs.link.Buffers.{Buffer, buffer_of, is_full}
use Rattle.share_model.specs.link.Live.{Live}
use Rattle.share_book.specs.Book.{next_in, next_number}
use Rattle.share_book.specs.BookEvents.{IsTaken}

accept_free : (b : Bool) (refused done : Live × Reply) → not b ≡ true → (if b then refused else done) ≡ done
accept_free true refused done free = cc
accept_free false refused done free = refl

accept_in : (l : Live) (f : ℕ) (p : List ℕ) (o : Option Buffer) → has_place o ≡ true
    → arrive_in l f p o ≡ (accept l f p, Packet f (next_in o))
accept_in l f p None free = cc
accept_in l f p (Some b) free = accept_free (is_full b) _ _ free

accept_by : (l : Live) (p : List ℕ) (o : Option OpenFlow) → has_room_by l.buffers o ≡ true
    → arrive_by l p o ≡ (
      accept l (flow_number o) p,
      Packet (flow_number o)
          (next_in (buffer_of l.buffers (flow_number o))),
    )
accept_by l p None free = cc
accept_by l p (Some e) free = accept_in l e.number p (buffer_of l.buffers e.number) free

-- the flow of the name
abbrev pub named_number : Live → NameBytes → ℕ
named_number l name = flow_number (flow_named l.graph name)

pub accept-is : (l : Live) (name : NameBytes) (p : List ℕ) → has_room l name ≡ true
    → arrive_step l name p ≡ (accept l (named_number l name) p, Packet (named_number l name) (next_number l name))
accept-is l name p free = accept_by l p (flow_named l.graph name) free

-- the answer is that of a packet that was taken
pub taken-room : (l : Live) (name : NameBytes) (p : List ℕ) → has_room l name ≡ true
    → IsTaken (arrive_step l name p).1
taken-room l name p free =
    subst IsTaken (sym (ap (λ (d : Live × Reply). d.1) (accept-is l name p free))) tt

-- A name for which a flow is free

free_has : (b : Bool) (n : ℕ) (o : Option ℕ) → (if b then Some n else None) ≡ o → b ≡ is_some o
free_has true n o is = ap is_some is
free_has false n o is = ap is_some is

free_room_by : (l : Live) (e : Option OpenFlow) → has_room_by l.buffers e ≡ is_some (free_by l.buffers e)
free_room_by l None = refl
free_room_by l (Some e) =
    free_has (has_place (buffer_of l.buffers e.number)) e.number (free_by l.buffers (Some e)) refl

-- has room
pub free-room : (l : Live) (name : NameBytes) → has_room l name ≡ is_some (free_flow l name)
free-room l name = free_room_by l (flow_named l.graph name)

-- and a free flow is room
pub room-free : (l : Live) (name : NameBytes) (number : ℕ) → free_flow l name ≡ Some number → has_room l name ≡ true
room-free l name number free = free-room l name ∙ ap is_some free
