-- The families of metrics: their names, what they say, and their values.
use Rattle.std.specs.Prelude.{ℕ, List, [], ◌∷◌, Bool, true, false, Option, None, Some, codes, is_some, if◌then◌else◌}
use Rattle.share_status.specs.declared.status.DownlinkState.{DownlinkState}
use Rattle.share_status.specs.declared.status.DownlinkState.TheVariants as down
use Rattle.share_status.specs.declared.status.DownlinkStatus.{DownlinkStatus}
use Rattle.share_status.specs.declared.status.Status.{Status}
use Rattle.share_status.specs.declared.status.TenantStatus.{TenantStatus}
use Rattle.share_status.specs.declared.status.UplinkState.{UplinkState}
use Rattle.share_status.specs.declared.status.UplinkState.TheVariants as up
use Rattle.share_status.specs.declared.status.UplinkStatus.{UplinkStatus}
use Rattle.share_metrics.specs.declared.family.GatewayFamily.{GatewayFamily}
use Rattle.share_metrics.specs.declared.family.GatewayFamily.TheVariants as gateway
use Rattle.share_metrics.specs.declared.family.TenantFamily.{TenantFamily}
use Rattle.share_metrics.specs.declared.family.TenantFamily.TheVariants as tenant

-- 1 stands for true, and 0 for false
abbrev pub if_true : Bool → ℕ
if_true is = if is then 1 else 0

-- ---- Families that have at most one value

abbrev pub gateway_families : List GatewayFamily
gateway_families =
    gateway.Book
    ∷ gateway.BookEvents
    ∷ gateway.EventsLeft
    ∷ gateway.UplinkUp
    ∷ gateway.UplinkSentBytes
    ∷ gateway.UplinkWaitingBytes
    ∷ gateway.UplinkLostBytes
    ∷ gateway.UplinkRate
    ∷ gateway.DiskWaitingBytes
    ∷ gateway.DiskFails
    ∷ gateway.DownlinkUp
    ∷ gateway.DownlinkFrames
    ∷ gateway.DownlinkBytes
    ∷ gateway.DownlinkStrangers
    ∷ []

-- the name
abbrev pub gateway_name : GatewayFamily → List ℕ
gateway_name gateway.Book = codes "stridelink_book"
gateway_name gateway.BookEvents = codes "stridelink_book_events"
gateway_name gateway.EventsLeft = codes "stridelink_events_left"
gateway_name gateway.UplinkUp = codes "stridelink_uplink_up"
gateway_name gateway.UplinkSentBytes = codes "stridelink_uplink_sent_bytes"
gateway_name gateway.UplinkWaitingBytes = codes "stridelink_uplink_waiting_bytes"
gateway_name gateway.UplinkLostBytes = codes "stridelink_uplink_lost_bytes"
gateway_name gateway.UplinkRate = codes "stridelink_uplink_limit_bytes"
gateway_name gateway.DiskWaitingBytes = codes "stridelink_disk_waiting_bytes"
gateway_name gateway.DiskFails = codes "stridelink_disk_fails"
gateway_name gateway.DownlinkUp = codes "stridelink_downlink_up"
gateway_name gateway.DownlinkFrames = codes "stridelink_downlink_frames"
gateway_name gateway.DownlinkBytes = codes "stridelink_downlink_bytes"
gateway_name gateway.DownlinkStrangers = codes "stridelink_downlink_strangers"

-- the lines of the family
abbrev pub gateway_help : GatewayFamily → List ℕ
gateway_help gateway.Book = codes "The number of the open book"
gateway_help gateway.BookEvents = codes "Events of the open book"
gateway_help gateway.EventsLeft = codes "Events that the open book has room for"
gateway_help gateway.UplinkUp = codes "1 if the uplink is connected, and 0 if it is dialled"
gateway_help gateway.UplinkSentBytes = codes "Bytes of frames that the uplink took"
gateway_help gateway.UplinkWaitingBytes = codes "Bytes of frames that wait for the uplink"
gateway_help gateway.UplinkLostBytes = codes "Bytes of frames that may be lost with connections"
gateway_help gateway.UplinkRate = codes "Bytes of frames a second at most"
gateway_help gateway.DiskWaitingBytes = codes "Bytes of books that wait for the disk"
gateway_help gateway.DiskFails = codes "1 if the disk fails, and 0 if it writes"
gateway_help gateway.DownlinkUp = codes "1 if a gateway is connected to the downlink, and 0 if none is"
gateway_help gateway.DownlinkFrames = codes "Frames that came by the downlink"
gateway_help gateway.DownlinkBytes = codes "Bytes of frames that came by the downlink"
gateway_help gateway.DownlinkStrangers = codes "Frames that had the number of no tenant"

-- the family counts up
abbrev pub is_gateway_counter : GatewayFamily → Bool
is_gateway_counter gateway.Book = false
is_gateway_counter gateway.BookEvents = false
is_gateway_counter gateway.EventsLeft = false
is_gateway_counter gateway.UplinkUp = false
is_gateway_counter gateway.UplinkSentBytes = true
is_gateway_counter gateway.UplinkWaitingBytes = false
is_gateway_counter gateway.UplinkLostBytes = true
is_gateway_counter gateway.UplinkRate = false
is_gateway_counter gateway.DiskWaitingBytes = false
is_gateway_counter gateway.DiskFails = false
is_gateway_counter gateway.DownlinkUp = false
is_gateway_counter gateway.DownlinkFrames = true
is_gateway_counter gateway.DownlinkBytes = true
is_gateway_counter gateway.DownlinkStrangers = true

abbrev pub is_up : UplinkState → Bool
is_up up.Up = true
is_up up.Dialling = false

-- a gateway is connected to the downlink
abbrev pub is_taken : DownlinkState → Bool
is_taken down.Up = true
is_taken down.Listening = false

abbrev pub uplink_value : GatewayFamily → Option UplinkStatus → Option ℕ
uplink_value f None = None
uplink_value gateway.UplinkUp (Some u) = Some (if_true (is_up u.state))
uplink_value gateway.UplinkSentBytes (Some u) = Some u.sent
uplink_value gateway.UplinkWaitingBytes (Some u) = Some u.outbox
uplink_value gateway.UplinkLostBytes (Some u) = Some u.lost
uplink_value f (Some u) = None

abbrev pub downlink_value : GatewayFamily → Option DownlinkStatus → Option ℕ
downlink_value f None = None
downlink_value gateway.DownlinkUp (Some d) = Some (if_true (is_taken d.state))
downlink_value gateway.DownlinkFrames (Some d) = Some d.frames
downlink_value gateway.DownlinkBytes (Some d) = Some d.bytes
downlink_value gateway.DownlinkStrangers (Some d) = Some d.strangers
downlink_value f (Some d) = None

-- the value, if there is one
abbrev pub gateway_value : GatewayFamily → Status → Option ℕ
gateway_value gateway.Book s = Some s.book
gateway_value gateway.BookEvents s = Some s.events
gateway_value gateway.EventsLeft s = Some s.left
gateway_value gateway.UplinkUp s = uplink_value gateway.UplinkUp s.uplink
gateway_value gateway.UplinkSentBytes s = uplink_value gateway.UplinkSentBytes s.uplink
gateway_value gateway.UplinkWaitingBytes s = uplink_value gateway.UplinkWaitingBytes s.uplink
gateway_value gateway.UplinkLostBytes s = uplink_value gateway.UplinkLostBytes s.uplink
gateway_value gateway.UplinkRate s = s.rate
gateway_value gateway.DiskWaitingBytes s = Some s.disk.waiting
gateway_value gateway.DiskFails s = Some (if_true (is_some s.disk.fault))
gateway_value gateway.DownlinkUp s = downlink_value gateway.DownlinkUp s.downlink
gateway_value gateway.DownlinkFrames s = downlink_value gateway.DownlinkFrames s.downlink
gateway_value gateway.DownlinkBytes s = downlink_value gateway.DownlinkBytes s.downlink
gateway_value gateway.DownlinkStrangers s = downlink_value gateway.DownlinkStrangers s.downlink

-- ---- Families that have a value for each tenant

abbrev pub tenant_families : List TenantFamily
tenant_families =
    tenant.Tickets
    ∷ tenant.Held
    ∷ tenant.WaitingPackets
    ∷ tenant.BufferPackets
    ∷ tenant.TakenPackets
    ∷ tenant.TakenBytes
    ∷ tenant.SentPackets
    ∷ tenant.SentBytes
    ∷ tenant.BookAmount
    ∷ tenant.Connections
    ∷ tenant.DroppedPackets
    ∷ tenant.LostPackets
    ∷ []

-- the name
abbrev pub tenant_name : TenantFamily → List ℕ
tenant_name tenant.Tickets = codes "stridelink_tenant_tickets"
tenant_name tenant.Held = codes "stridelink_tenant_held"
tenant_name tenant.WaitingPackets = codes "stridelink_tenant_waiting_packets"
tenant_name tenant.BufferPackets = codes "stridelink_tenant_buffer_packets"
tenant_name tenant.TakenPackets = codes "stridelink_tenant_taken_packets"
tenant_name tenant.TakenBytes = codes "stridelink_tenant_taken_bytes"
tenant_name tenant.SentPackets = codes "stridelink_tenant_sent_packets"
tenant_name tenant.SentBytes = codes "stridelink_tenant_sent_bytes"
tenant_name tenant.BookAmount = codes "stridelink_tenant_book_amount"
tenant_name tenant.Connections = codes "stridelink_tenant_connections"
tenant_name tenant.DroppedPackets = codes "stridelink_tenant_dropped_packets"
tenant_name tenant.LostPackets = codes "stridelink_tenant_lost_packets"

-- the lines of the family
abbrev pub tenant_help : TenantFamily → List ℕ
tenant_help tenant.Tickets = codes "Tickets of the tenant"
tenant_help tenant.Held = codes "1 if the tenant is held, and 0 if not"
tenant_help tenant.WaitingPackets = codes "Packets in the buffer of the tenant"
tenant_help tenant.BufferPackets = codes "Packets that the buffer of the tenant holds"
tenant_help tenant.TakenPackets = codes "Packets that the ports of the tenant took"
tenant_help tenant.TakenBytes = codes "Bytes of these packets"
tenant_help tenant.SentPackets = codes "Packets of the tenant that were scheduled"
tenant_help tenant.SentBytes = codes "Bytes of the frames of these packets"
tenant_help tenant.BookAmount = codes "The account of the tenant in the open book"
tenant_help tenant.Connections = codes "Connections of the tenant"
tenant_help tenant.DroppedPackets = codes "Packets that the ports of the tenant dropped"
tenant_help tenant.LostPackets = codes "Packets from the downlink that the ports of the tenant lost"

-- the family counts up
abbrev pub is_tenant_counter : TenantFamily → Bool
is_tenant_counter tenant.Tickets = false
is_tenant_counter tenant.Held = false
is_tenant_counter tenant.WaitingPackets = false
is_tenant_counter tenant.BufferPackets = false
is_tenant_counter tenant.TakenPackets = true
is_tenant_counter tenant.TakenBytes = true
is_tenant_counter tenant.SentPackets = true
is_tenant_counter tenant.SentBytes = true
is_tenant_counter tenant.BookAmount = false
is_tenant_counter tenant.Connections = false
is_tenant_counter tenant.DroppedPackets = true
is_tenant_counter tenant.LostPackets = true

-- the value of a tenant
abbrev pub tenant_value : TenantFamily → TenantStatus → ℕ
tenant_value tenant.Tickets t = t.tickets
tenant_value tenant.Held t = if_true t.held
tenant_value tenant.WaitingPackets t = t.waiting
tenant_value tenant.BufferPackets t = t.limit
tenant_value tenant.TakenPackets t = t.taken_packets
tenant_value tenant.TakenBytes t = t.taken_bytes
tenant_value tenant.SentPackets t = t.sent_packets
tenant_value tenant.SentBytes t = t.sent_bytes
tenant_value tenant.BookAmount t = t.amount
tenant_value tenant.Connections t = t.connections
tenant_value tenant.DroppedPackets t = t.dropped
tenant_value tenant.LostPackets t = t.lost
