-- Addresses are gathered port by port and compared one by one.
use Rattle.std.proofs.Common.{◌≡◌, ℕ, ◌+◌, ◌<◌, ◌≤◌, List, [], ◌∷◌, ◌++◌, length, take, drop, get_or, Ok, ap, ◌∙◌}
use Rattle.std.proofs.Common.{sym}
use Rattle.std.proofs.Common.{append_assoc, append-nil, true, false}
use Rattle.std.proofs.lemmas.List.{drop_more, drop_all, take_all, take_more}
use Rattle.std.specs.List.{list_any}
use Rattle.share_settings.specs.Ports.{PortsView}
use Rattle.share_settings.specs.declared.port.Port.{Port}
use Rattle.share_config.specs.declared.endpoint.Endpoint.{Endpoint}
use Rattle.share_config.specs.declared.key.Key.TheVariants as key
use Rattle.share_config.specs.declared.key.Location.{Location}
use Rattle.share_config.specs.declared.key.Location.TheVariants as location
use Rattle.share_config.specs.declared.fault.Reason.TheVariants as reason
use Rattle.share_config.specs.Endpoints.{endpoint, ports_from, tenants_from, is_same_endpoint, once_after, once}
use Rattle.share_config.specs.Reading.{wrong}

-- ---- Ports

abbrev pub HasPorts : List Endpoint → List Endpoint → Location → List Port → ℕ → Type 0
HasPorts before list p ports i = list ++ ports_from p (i + 1) (drop i ports) ≡ before ++ ports_from p 1 ports

pub one_more_port : (before list : List Endpoint) (p : Location) (ports : List Port) (i : ℕ) (port : Port)
    → HasPorts before list p ports i → i < length ports
    → HasPorts before (list ++ endpoint p key.Port (i + 1) (get_or ports i port) ∷ []) p ports (i + 1)
one_more_port before list p ports i port h inside =
    let here : ports_from p (i + 1) (drop i ports)
    ≡ endpoint p key.Port (i + 1) (get_or ports i port) ∷ ports_from p (i + 1 + 1) (drop (i + 1) ports) =
    ap (ports_from p (i + 1)) (drop_more ports i port inside) in
    append_assoc list (endpoint p key.Port (i + 1) (get_or ports i port) ∷ [])
    (ports_from p (i + 1 + 1) (drop (i + 1) ports))
    ∙ ap (λ es. list ++ es) (sym here) ∙ h

pub all_ports : (before list : List Endpoint) (p : Location) (ports : List Port) (i : ℕ)
    → HasPorts before list p ports i → length ports ≤ i → list ≡ before ++ ports_from p 1 ports
all_ports before list p ports i h whole = rw (drop_all i ports whole, append-nil) at h

-- ---- Tenants

abbrev pub HasTenants : List Endpoint → List Endpoint → List PortsView → ℕ → Type 0
HasTenants before list ts i = list ++ tenants_from (i + 1) (drop i ts) ≡ before ++ tenants_from 1 ts

pub one_more_tenant : (before list : List Endpoint) (ts : List PortsView) (i : ℕ) (t : PortsView)
    → HasTenants before list ts i → i < length ts
    → HasTenants before (list ++ ports_from (location.Tenant (i + 1)) 1 (get_or ts i t).ports) ts (i + 1)
one_more_tenant before list ts i t h inside =
    let here : tenants_from (i + 1) (drop i ts)
    ≡ ports_from (location.Tenant (i + 1)) 1 (get_or ts i t).ports ++ tenants_from (i + 1 + 1) (drop (i + 1) ts) =
    ap (tenants_from (i + 1)) (drop_more ts i t inside) in
    append_assoc list (ports_from (location.Tenant (i + 1)) 1 (get_or ts i t).ports)
    (tenants_from (i + 1 + 1) (drop (i + 1) ts))
    ∙ ap (λ es. list ++ es) (sym here) ∙ h

pub all_tenants : (before list : List Endpoint) (ts : List PortsView) (i : ℕ)
    → HasTenants before list ts i → length ts ≤ i → list ≡ before ++ tenants_from 1 ts
all_tenants before list ts i h whole = rw (drop_all i ts whole, append-nil) at h

-- ---- Each once

abbrev pub IsOnceTo : List Endpoint → ℕ → Type 0
IsOnceTo es i = once es ≡ once_after (take i es) (drop i es)

pub another_once : (es : List Endpoint) (i : ℕ) (e : Endpoint) → IsOnceTo es i → i < length es
    → list_any (is_same_endpoint (get_or es i e)) (take i es) ≡ false → IsOnceTo es (i + 1)
another_once es i e h inside new = h ∙ rw (drop_more es i e inside, new, take_more es i e inside)

pub found_twice : (es : List Endpoint) (i : ℕ) (e : Endpoint) → IsOnceTo es i → i < length es
    → list_any (is_same_endpoint (get_or es i e)) (take i es) ≡ true
    → once es ≡ wrong (get_or es i e).location (get_or es i e).key (reason.Twice (get_or es i e).number)
found_twice es i e h inside old = h ∙ rw (drop_more es i e inside, old)

pub all_once : (es : List Endpoint) (i : ℕ) → IsOnceTo es i → length es ≤ i → once es ≡ Ok es
all_once es i h whole = h ∙ rw (drop_all i es whole, take_all i es whole)
