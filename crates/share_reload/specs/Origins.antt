-- The place of a port among the ports of all tenants.
use Rattle.std.specs.Prelude.{◌≡◌, ◌<◌, ℕ, List, Option, None, Some, slice_get, option_and_then}
use Rattle.share_settings.specs.Ports.{PortsView}
use Rattle.share_settings.specs.declared.port.Port.{Port}
use Rattle.share_reload.specs.declared.origin.PortOrigin.{PortOrigin}

-- the port of an index of the tenant of an index
abbrev pub port_at : List PortsView → ℕ → ℕ → Option Port
port_at tenants i j = option_and_then (λ (t : PortsView). slice_get t.ports j) (slice_get tenants i)

-- the port stands here; it stands at no tenant before, and not before among the tenant's ports
pub record IsFirstPlace (tenants : List PortsView) (port : Port) (o : PortOrigin) : Type 0 where
  pub here : port_at tenants o.tenant o.port ≡ Some port
  pub tenants_before : (i j : ℕ) → i < o.tenant → ¬ (port_at tenants i j ≡ Some port)
  pub ports_before : (j : ℕ) → j < o.port → ¬ (port_at tenants o.tenant j ≡ Some port)

-- the first place of the port, or it stands nowhere
abbrev pub IsOrigin : List PortsView → Port → Option PortOrigin → Type 0
IsOrigin tenants port None = (i j : ℕ) → ¬ (port_at tenants i j ≡ Some port)
IsOrigin tenants port (Some o) = IsFirstPlace tenants port o
