-- The handle of a flow's buffer.
use Rattle.std.specs.Prelude.{◌≡◌, List, map, position, nat_eq, Some}
use Rattle.std.specs.List.{IsDistinct}
use Rattle.share_model.specs.link.Buffers.{BufferOf, is_buffer_of}
use Rattle.share_flows.specs.declared.buffers.BufferHandle.{BufferHandle}

-- the first buffer of the flow is at this handle
abbrev pub Stands : {A : Type 0} → List (BufferOf A) → BufferHandle → Type 0
Stands bs handle = position (is_buffer_of handle.flow) bs ≡ Some handle.at

-- no two buffers are of the same flow
abbrev pub AreApart : {A : Type 0} → List (BufferOf A) → Type 0
AreApart {A} bs = IsDistinct nat_eq (map (λ (b : BufferOf A). b.flow) bs)
