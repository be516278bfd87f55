-- Packets of tenants that no frame carries.
use Rattle.std.specs.Prelude.{◌≡◌, ◌<◌, ◌≤◌, ℕ, ◌+◌, List, [], ◌∷◌, ◌++◌, length, take, flat_map, nat_lt}
use Rattle.std.specs.Prelude.{if◌then◌else◌}
use Rattle.share_model.specs.funding.Graph.{NameBytes}
use Rattle.share_model.specs.link.Buffers.{Buffer, count_in}
use Rattle.share_gateway.specs.Plan.{TenantView}
use Rattle.share_book.specs.Closed.{ClosedView}
use Rattle.share_lives.specs.declared.remainder.Remainder.{Remainder}

-- that many packets of a tenant, if there are any
abbrev pub remainder_of : NameBytes → ℕ → List Remainder
remainder_of tenant packets = if nat_lt 0 packets then record { tenant = tenant; packets = packets } ∷ [] else []

abbrev pub tenant_remainder : List Buffer → TenantView → List Remainder
tenant_remainder buffers t = remainder_of t.name (count_in buffers t.flow)

-- the packets that wait in a closed book, by tenant, in the order of its plan
abbrev pub remainders_of : ClosedView → List Remainder
remainders_of c = flat_map (tenant_remainder c.buffers) c.plan.tenants

-- these come after those that are there. Memory is made for 64: only beyond these one may be left out, if memory is
-- refused for it
pub record Gains (old more new : List Remainder) : Type 0 where
  pub all : length old + length more ≤ 64 → new ≡ old ++ more
  pub stay : take (length old) new ≡ old
  pub most : 64 < length old + length more → 64 ≤ length new
