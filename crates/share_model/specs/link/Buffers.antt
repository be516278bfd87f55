-- The buffers of the open flows, in order of opening: each a list of payloads, a limit, and the next sequence number. A
-- packet's number is the next number less the number of packets from it to the back. All but the names of these types
-- holds whatever a packet is seen as. It is seen as its payload, or its payload with the bytes that are stamped before
-- it.
use Rattle.std.specs.Prelude.{ℕ, ◌+◌, ◌-◌, Bool, true, false, List, [], ◌∷◌, ◌++◌, length, drop, find, map, nat_eq}
use Rattle.std.specs.Prelude.{nat_le}
use Rattle.std.specs.Set.{remove_key}
use Rattle.std.specs.Prelude.{Option, None, Some, option_and_then, option_map}
use Rattle.share_base.specs.Body.{BodyView}
use Rattle.share_model.specs.declared.link.Backlog.{Backlog}
use Rattle.share_model.specs.link.Frame.{PacketOf}
use Rattle.share_model.specs.lists.Change.{change_first}

pub record BufferOf (A : Type 0) : Type 0 where
  pub flow : ℕ
  pub limit : ℕ
  pub next : ℕ
  pub packets : List A

abbrev pub Buffer : Type 0
Buffer = BufferOf (List ℕ)

abbrev pub is_buffer_of : {A : Type 0} → ℕ → BufferOf A → Bool
is_buffer_of f b = nat_eq f b.flow

abbrev pub buffer_of : {A : Type 0} → List (BufferOf A) → ℕ → Option (BufferOf A)
buffer_of bs f = find (is_buffer_of f) bs

abbrev pub new_buffer : {A : Type 0} → ℕ → ℕ → BufferOf A
new_buffer f limit = record { flow = f; limit = limit; next = 1; packets = [] }

abbrev pub open_in : {A : Type 0} → List (BufferOf A) → ℕ → ℕ → List (BufferOf A)
open_in bs f limit = bs ++ new_buffer f limit ∷ []

abbrev pub close_in : {A : Type 0} → List (BufferOf A) → ℕ → List (BufferOf A)
close_in bs f = remove_key (is_buffer_of f) bs

-- the number of packets in the buffer of a flow: 0 if it is not open
abbrev pub count_by : {A : Type 0} → Option (BufferOf A) → ℕ
count_by None = 0
count_by (Some b) = length b.packets

abbrev pub count_in : {A : Type 0} → List (BufferOf A) → ℕ → ℕ
count_in bs f = count_by (buffer_of bs f)

-- the backlog of a buffer
abbrev pub backlog_in : {A : Type 0} → BufferOf A → Backlog
backlog_in b = record { packets = length b.packets; limit = b.limit }

-- the backlog of an open flow
abbrev pub backlog_of : {A : Type 0} → List (BufferOf A) → ℕ → Option Backlog
backlog_of bs f = option_map backlog_in (buffer_of bs f)

-- a packet goes to the back, and takes the next number
abbrev pub with_packet : {A : Type 0} → A → BufferOf A → BufferOf A
with_packet body b = record b { next = b.next + 1; packets = b.packets ++ body ∷ [] }

abbrev pub push_in : {A : Type 0} → List (BufferOf A) → ℕ → A → List (BufferOf A)
push_in bs f body = change_first (is_buffer_of f) (with_packet body) bs

abbrev pub is_full : {A : Type 0} → BufferOf A → Bool
is_full b = nat_le b.limit (length b.packets)

-- the head packet is taken out
abbrev pub without_head : {A : Type 0} → BufferOf A → BufferOf A
without_head b = record b { packets = drop 1 b.packets }

abbrev pub pop_in : {A : Type 0} → List (BufferOf A) → ℕ → List (BufferOf A)
pop_in bs f = change_first (is_buffer_of f) without_head bs

abbrev pub head_in : {A : Type 0} → BufferOf A → List A → Option (PacketOf A)
head_in b [] = None
head_in b (p ∷ ps) = Some record { flow = b.flow; seq = b.next - length (p ∷ ps); payload = p }

abbrev pub head_of_buffer : {A : Type 0} → BufferOf A → Option (PacketOf A)
head_of_buffer b = head_in b b.packets

-- the head packet of a flow
abbrev pub head_of : {A : Type 0} → List (BufferOf A) → ℕ → Option (PacketOf A)
head_of bs f = option_and_then head_of_buffer (buffer_of bs f)

abbrev pub is_some_packet : {A : Type 0} → List A → Bool
is_some_packet [] = false
is_some_packet (p ∷ ps) = true

abbrev pub has_packet : {A : Type 0} → Option (BufferOf A) → Bool
has_packet None = false
has_packet (Some b) = is_some_packet b.packets

-- whether the buffer of a flow holds a packet
abbrev pub is_busy : {A : Type 0} → List (BufferOf A) → ℕ → Bool
is_busy bs f = has_packet (buffer_of bs f)

-- the same buffer, each packet seen as its image
abbrev pub map_buffer : {A B : Type 0} → (A → B) → BufferOf A → BufferOf B
map_buffer f b = record { flow = b.flow; limit = b.limit; next = b.next; packets = map f b.packets }

-- the payloads alone
abbrev pub payload_of : BodyView → List ℕ
payload_of body = body.payload

abbrev pub payloads_in : List (BufferOf BodyView) → List Buffer
payloads_in bs = map (map_buffer payload_of) bs
