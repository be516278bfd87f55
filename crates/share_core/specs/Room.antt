-- Whether a packet finds room.
use Rattle.std.specs.Prelude.{ℕ, Bool, false, not, List, Option, None, Some, if◌then◌else◌}
use Rattle.share_model.specs.declared.funding.OpenFlow.{OpenFlow as FlowEntry}
use Rattle.share_model.specs.funding.Changes.{flow_named}
use Rattle.share_model.specs.funding.Graph.{NameBytes}
use Rattle.share_model.specs.link.Buffers.{Buffer, buffer_of, is_full}
use Rattle.share_model.specs.link.Live.{Live}

-- there is a buffer, and it is not full
abbrev pub has_place : Option Buffer → Bool
has_place None = false
has_place (Some b) = not (is_full b)

abbrev pub has_room_by : List Buffer → Option FlowEntry → Bool
has_room_by bs None = false
has_room_by bs (Some e) = has_place (buffer_of bs e.number)

abbrev pub free_by : List Buffer → Option FlowEntry → Option ℕ
free_by bs None = None
free_by bs (Some e) = if has_place (buffer_of bs e.number) then Some e.number else None

-- the number of the flow of this name, if one is open and its buffer is not full
abbrev pub free_flow : Live → NameBytes → Option ℕ
free_flow l name = free_by l.buffers (flow_named l.graph name)

-- a flow of this name is open, and its buffer is not full
abbrev pub has_room : Live → NameBytes → Bool
has_room l name = has_room_by l.buffers (flow_named l.graph name)
