-- The headers that are stamped before payloads in a buffer.
use Rattle.std.specs.Prelude.{ℕ, List, [], ◌∷◌}
use Rattle.share_base.specs.Body.{BodyView}
use Rattle.share_model.specs.link.Buffers.{BufferOf, is_buffer_of}
use Rattle.share_model.specs.lists.Change.{change_first}

-- the view of a buffer in contracts: of each packet the payload, and the bytes stamped before it
abbrev pub BufferView : Type 0
BufferView = BufferOf BodyView

-- a header is stamped before the first of these packets
abbrev pub first_stamped : List ℕ → List BodyView → List BodyView
first_stamped header [] = []
first_stamped header (p ∷ ps) = record { stamped = header; payload = p.payload } ∷ ps

-- before the head packet of a buffer
abbrev pub with_stamp : List ℕ → BufferView → BufferView
with_stamp header b = record b { packets = first_stamped header b.packets }

-- before the head packet of the buffer of a flow
abbrev pub stamp_in : List BufferView → ℕ → List ℕ → List BufferView
stamp_in bs f header = change_first (is_buffer_of f) (with_stamp header) bs
