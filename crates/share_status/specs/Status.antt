-- The status of a gateway as a value of JSON.
use Rattle.std.specs.Prelude.{ℕ, List, [], ◌∷◌, ◌++◌, codes, decimal, map, Option, None, Some}
use Rattle.std.specs.Borrow.{Bor}
use Rattle.std.specs.Net.Text.{socket_text}
use Rattle.std.specs.declared.net.SocketAddr.{SocketAddr}
use Rattle.json.specs.Json.{Json, null, boolean, number, string}
use Rattle.json.specs.Print.{print}
use Rattle.json.specs.Tree.{json_tokens}
use Rattle.share_catalog.specs.Times.{time_text}
use Rattle.share_gateway.specs.declared.plan.Grant.{Grant}
use Rattle.share_status.specs.Members.{array_of, object_of}
use Rattle.share_status.specs.declared.status.DiskStatus.{DiskStatus}
use Rattle.share_status.specs.declared.status.DownlinkState.{DownlinkState}
use Rattle.share_status.specs.declared.status.DownlinkState.TheVariants as down
use Rattle.share_status.specs.declared.status.DownlinkStatus.{DownlinkStatus}
use Rattle.share_status.specs.declared.status.Status.{Status}
use Rattle.share_status.specs.declared.status.TenantStatus.{TenantStatus}
use Rattle.share_status.specs.declared.status.UplinkState.{UplinkState}
use Rattle.share_status.specs.declared.status.UplinkState.TheVariants as up
use Rattle.share_status.specs.declared.status.UplinkStatus.{UplinkStatus}

abbrev pub whole : ℕ → Json
whole n = number (decimal n)

-- null stands for what is not there
abbrev pub or_null : {A : Type 0} → (A → Json) → Option A → Json
or_null value None = null
or_null value (Some x) = value x

abbrev pub address_of : SocketAddr → Json
address_of address = string (socket_text address)

abbrev pub uplink_state_of : UplinkState → List ℕ
uplink_state_of up.Up = codes "up"
uplink_state_of up.Dialling = codes "dialling"

unfoldable pub uplink_members : UplinkStatus → List (List ℕ × Json)
uplink_members u =
    (codes "state", string (uplink_state_of u.state))
    ∷ (codes "address", address_of u.address)
    ∷ (codes "sent", whole u.sent)
    ∷ (codes "outbox", whole u.outbox)
    ∷ (codes "lost", whole u.lost)
    ∷ []

abbrev pub uplink_of : UplinkStatus → Json
uplink_of u = object_of (uplink_members u)

abbrev pub fault_of : Bor (List ℕ) → Json
fault_of fault = string fault.now

unfoldable pub disk_members : DiskStatus → List (List ℕ × Json)
disk_members d =
    (codes "waiting", whole d.waiting)
    ∷ (codes "fault", or_null fault_of d.fault)
    ∷ []

abbrev pub disk_of : DiskStatus → Json
disk_of d = object_of (disk_members d)

abbrev pub downlink_state_of : DownlinkState → List ℕ
downlink_state_of down.Up = codes "up"
downlink_state_of down.Listening = codes "listening"

unfoldable pub downlink_members : DownlinkStatus → List (List ℕ × Json)
downlink_members d =
    (codes "state", string (downlink_state_of d.state))
    ∷ (codes "address", address_of d.address)
    ∷ (codes "frames", whole d.frames)
    ∷ (codes "bytes", whole d.bytes)
    ∷ (codes "strangers", whole d.strangers)
    ∷ []

abbrev pub downlink_of : DownlinkStatus → Json
downlink_of d = object_of (downlink_members d)

unfoldable pub grant_members : Grant → List (List ℕ × Json)
grant_members g =
    (codes "amount", whole g.amount)
    ∷ (codes "of", string g.denomination)
    ∷ []

abbrev pub grant_of : Grant → Json
grant_of g = object_of (grant_members g)

abbrev pub grants_of : List Grant → Json
grants_of grants = array_of (map grant_of grants)

-- the plan's entry of a tenant, and the worth of its grants
unfoldable pub tenant_plan : TenantStatus → List (List ℕ × Json)
tenant_plan t =
    (codes "name", string t.name)
    ∷ (codes "flow", whole t.flow)
    ∷ (codes "held", boolean t.held)
    ∷ (codes "tickets", whole t.tickets)
    ∷ (codes "grants", grants_of t.grants.now)
    ∷ []

-- and what is counted of it
unfoldable pub tenant_counts : TenantStatus → List (List ℕ × Json)
tenant_counts t =
    (codes "waiting", whole t.waiting)
    ∷ (codes "limit", whole t.limit)
    ∷ (codes "taken_packets", whole t.taken_packets)
    ∷ (codes "taken_bytes", whole t.taken_bytes)
    ∷ (codes "sent_packets", whole t.sent_packets)
    ∷ (codes "sent_bytes", whole t.sent_bytes)
    ∷ (codes "amount", whole t.amount)
    ∷ (codes "connections", whole t.connections)
    ∷ (codes "dropped", whole t.dropped)
    ∷ (codes "lost", whole t.lost)
    ∷ []

abbrev pub tenant_of : TenantStatus → Json
tenant_of t = object_of (tenant_plan t ++ tenant_counts t)

abbrev pub tenants_of : List TenantStatus → Json
tenants_of tenants = array_of (map tenant_of tenants)

-- the book
unfoldable pub book_members : Status → List (List ℕ × Json)
book_members s =
    (codes "version", string s.version.now)
    ∷ (codes "proved", string s.proved.now)
    ∷ (codes "book", whole s.book)
    ∷ (codes "events", whole s.events)
    ∷ (codes "left", whole s.left)
    ∷ (codes "opened", string (time_text s.opened))
    ∷ []

-- the parts of the gateway
unfoldable pub part_members : Status → List (List ℕ × Json)
part_members s =
    (codes "uplink", or_null uplink_of s.uplink)
    ∷ (codes "rate", or_null whole s.rate)
    ∷ (codes "disk", disk_of s.disk)
    ∷ (codes "tenants", tenants_of s.tenants.now)
    ∷ (codes "downlink", or_null downlink_of s.downlink)
    ∷ []

abbrev pub status_of : Status → Json
status_of s = object_of (book_members s ++ part_members s)

-- its text, without a space between two parts
abbrev pub status_line : Status → List ℕ
status_line s = print (json_tokens (status_of s))
