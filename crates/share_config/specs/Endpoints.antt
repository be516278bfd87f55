-- The addresses that a file gives, and the first that it gives twice.
use Rattle.std.specs.Prelude.{ℕ, ◌+◌, Bool, List, [], ◌∷◌, ◌++◌, Option, None, Some, Ok, if◌then◌else◌}
use Rattle.std.specs.List.{list_any}
use Rattle.share_settings.specs.Ports.{PortsView}
use Rattle.share_settings.specs.Same.{same_port, peer_port, listener_port}
use Rattle.share_settings.specs.declared.port.Port.{Port}
use Rattle.share_settings.specs.declared.port.Port.TheVariants.{Tcp}
use Rattle.share_settings.specs.declared.section.Uplink.{Uplink}
use Rattle.share_settings.specs.declared.section.Control.{Control}
use Rattle.share_settings.specs.declared.section.Downlink.{Downlink}
use Rattle.share_settings.specs.declared.section.Web.{Web}
use Rattle.share_config.specs.declared.endpoint.Endpoint.{Endpoint}
use Rattle.share_config.specs.declared.key.Key.{Key}
use Rattle.share_config.specs.declared.key.Key.TheVariants as key
use Rattle.share_config.specs.declared.key.Location.{Location}
use Rattle.share_config.specs.declared.key.Location.TheVariants as location
use Rattle.share_config.specs.declared.fault.Reason.TheVariants as reason
use Rattle.share_config.specs.Reading.{Said, wrong}

abbrev pub endpoint : Location → Key → ℕ → Port → Endpoint
endpoint p k n port = record { location = p; key = k; number = n; port = port }

abbrev pub uplink_endpoints : Option Uplink → List Endpoint
uplink_endpoints None = []
uplink_endpoints (Some u) = endpoint location.Uplink key.Connect 1 (peer_port u.to) ∷ []

abbrev pub control_endpoint : Control → Endpoint
control_endpoint c = endpoint location.Control key.Listen 1 (listener_port c.listen)

abbrev pub downlink_endpoints : Option Downlink → List Endpoint
downlink_endpoints None = []
downlink_endpoints (Some d) = endpoint location.Downlink key.Listen 1 (peer_port d.listen) ∷ []

abbrev pub web_endpoints : Option Web → List Endpoint
web_endpoints None = []
web_endpoints (Some w) = endpoint location.Web key.Listen 1 (Tcp w.listen) ∷ []

-- the ports of a table, numbered from n
abbrev pub ports_from : Location → ℕ → List Port → List Endpoint
ports_from p n [] = []
ports_from p n (port ∷ ports) = endpoint p key.Port n port ∷ ports_from p (n + 1) ports

-- the ports of the tenants, numbered from n
abbrev pub tenants_from : ℕ → List PortsView → List Endpoint
tenants_from n [] = []
tenants_from n (t ∷ ts) = ports_from (location.Tenant n) 1 t.ports ++ tenants_from (n + 1) ts

-- all addresses, in the order in which they are compared
abbrev pub endpoints_of : Option Uplink → Control → Option Downlink → Option Web → List PortsView → List Endpoint
endpoints_of uplink control downlink web tenants =
    uplink_endpoints uplink ++ (control_endpoint control ∷ []) ++ downlink_endpoints downlink ++ web_endpoints web
    ++ tenants_from 1 tenants

abbrev pub is_same_endpoint : Endpoint → Endpoint → Bool
is_same_endpoint a b = same_port a.port b.port

-- the fault of the first that is the same as one before it; those that are seen stand before all
abbrev pub once_after : List Endpoint → List Endpoint → Said (List Endpoint)
once_after seen [] = Ok seen
once_after seen (e ∷ es) =
    if list_any (is_same_endpoint e) seen
    then wrong e.location e.key (reason.Twice e.number)
    else once_after (seen ++ e ∷ []) es

-- the addresses, each of which is given once
abbrev pub once : List Endpoint → Said (List Endpoint)
once es = once_after [] es
