-- Addresses, as a file spells them.
use Rattle.std.specs.Prelude.{ℕ, ◌==◌, ◌&&◌, ◌||◌, Bool, not, List, [], ◌∷◌, length, take, drop, codes, nat_le}
use Rattle.std.specs.Prelude.{nat_lt}
use Rattle.std.specs.Prelude.{Option, None, Some, if◌then◌else◌}
use Rattle.std.specs.List.{list_all}
use Rattle.std.specs.Str.{bytes_eq}
use Rattle.std.specs.declared.net.ip_addr.IpAddr.{IpAddr}
use Rattle.std.specs.declared.net.ip_addr.IpAddr.TheVariants as host
use Rattle.std.specs.declared.net.socket_addr.SocketAddr.{SocketAddr}
use Rattle.std.specs.declared.net.socket_addr.SocketAddr.TheVariants as socket
use Rattle.std.specs.declared.net.ipv4_addr.Ipv4Addr.{Ipv4Addr}
use Rattle.std.specs.declared.net.ipv6_addr.Ipv6Addr.{Ipv6Addr}
use Rattle.std.specs.Net.Reader.{read_socket_v4, read_socket_v6, read_ipv4, read_ipv6}
use Rattle.std.specs.Net.Socket.{socket_port}
use Rattle.share_settings.specs.declared.port.Peer.{Peer}
use Rattle.share_settings.specs.declared.port.Peer.TheVariants as peer
use Rattle.share_settings.specs.declared.port.Listener.{Listener}
use Rattle.share_settings.specs.declared.port.Listener.TheVariants as listener
use Rattle.share_settings.specs.declared.port.Port.{Port}
use Rattle.share_settings.specs.declared.port.Port.TheVariants as port
use Rattle.share_spellings.specs.Amounts.{number_of}

-- the reading, if it is the whole text
abbrev pub whole : {A : Type 0} → Option (A × List ℕ) → Option A
whole None = None
whole (Some (a, [])) = Some a
whole (Some (a, b ∷ rest)) = None

abbrev pub or_else : {A : Type 0} → Option A → Option A → Option A
or_else (Some a) other = Some a
or_else None other = other

abbrev pub mapped : {A B : Type 0} → (A → B) → Option A → Option B
mapped f None = None
mapped f (Some a) = Some (f a)

abbrev pub ipv4 : List ℕ → Ipv4Addr
ipv4 octets = record { octets = octets }

abbrev pub ipv6 : List ℕ → Ipv6Addr
ipv6 segments = record { segments = segments }

abbrev pub socket_v4 : List ℕ × ℕ → SocketAddr
socket_v4 parts = socket.V4 (record { ip = ipv4 parts.0; port = parts.1 })

abbrev pub socket_v6 : List ℕ × ℕ × ℕ × ℕ → SocketAddr
socket_v6 parts =
    socket.V6 (record { ip = ipv6 parts.0; port = parts.1; flowinfo = parts.2; scope_id = parts.3 })

-- the socket address that a text spells
abbrev pub socket_of : List ℕ → Option SocketAddr
socket_of text =
    or_else (mapped socket_v4 (whole (read_socket_v4 text))) (mapped socket_v6 (whole (read_socket_v6 text)))

abbrev pub host_v4 : List ℕ → IpAddr
host_v4 octets = host.V4 (ipv4 octets)

abbrev pub host_v6 : List ℕ → IpAddr
host_v6 segments = host.V6 (ipv6 segments)

-- the IP address that a text spells
abbrev pub host_of : List ℕ → Option IpAddr
host_of text = or_else (mapped host_v4 (whole (read_ipv4 text))) (mapped host_v6 (whole (read_ipv6 text)))

abbrev pub with_port : Option SocketAddr → Option SocketAddr
with_port None = None
with_port (Some a) = if socket_port a == 0 then None else Some a

-- the socket address that a text spells, with a port from 1 on
abbrev pub address_of : List ℕ → Option SocketAddr
address_of text = with_port (socket_of text)

-- the text after a prefix
abbrev pub after : List ℕ → List ℕ → Option (List ℕ)
after prefix text = if bytes_eq (take (length prefix) text) prefix then Some (drop (length prefix) text) else None

-- `udp:ADDRESS`, or `ADDRESS`
abbrev pub peer_by : List ℕ → Option (List ℕ) → Option Peer
peer_by text (Some rest) = mapped peer.Udp (address_of rest)
peer_by text None = mapped peer.Tcp (address_of text)

abbrev pub peer_of : List ℕ → Option Peer
peer_of text = peer_by text (after (codes "udp:") text)

abbrev pub is_no_zero : ℕ → Bool
is_no_zero b = not (b == 0)

-- at least one byte and at most that many, none of which is zero
abbrev pub is_path : ℕ → List ℕ → Bool
is_path most text = not (length text == 0) && nat_le (length text) most && list_all is_no_zero text

abbrev pub path_of : ℕ → List ℕ → Option (List ℕ)
path_of most text = if is_path most text then Some text else None

-- `unix:PATH`, or `ADDRESS`
abbrev pub listener_by : List ℕ → Option (List ℕ) → Option Listener
listener_by text (Some path) = mapped listener.Unix (path_of 107 path)
listener_by text None = mapped listener.Tcp (address_of text)

abbrev pub listener_of : List ℕ → Option Listener
listener_of text = listener_by text (after (codes "unix:") text)

abbrev pub in_descriptors : Option ℕ → Option ℕ
in_descriptors None = None
in_descriptors (Some n) = if nat_lt n 3 || nat_lt 0x7fff_ffff n then None else Some n

-- a descriptor that is not a standard stream, and below 2^31
abbrev pub descriptor_of : List ℕ → Option ℕ
descriptor_of text = in_descriptors (number_of text)

-- the kind of port that a prefix names, or the next kind
abbrev pub kind_or : {A : Type 0} → (List ℕ → Option A) → Option (List ℕ) → Option A → Option A
kind_or read (Some rest) next = read rest
kind_or read None next = next

abbrev pub plain_port_of : List ℕ → Option Port
plain_port_of text =
    kind_or (λ rest. mapped port.Udp (address_of rest)) (after (codes "udp:") text)
    (kind_or (λ rest. mapped port.UdpTo (address_of rest)) (after (codes "udp-to:") text)
    (kind_or (λ rest. mapped port.Descriptor (descriptor_of rest)) (after (codes "fd:") text)
    (mapped port.Tcp (address_of text))))

-- `unix:PATH`, `udp:ADDRESS`, `udp-to:ADDRESS`, `fd:NUMBER`, or `ADDRESS`
abbrev pub port_of : List ℕ → Option Port
port_of text =
    kind_or (λ path. mapped port.Unix (path_of 107 path)) (after (codes "unix:") text) (plain_port_of text)
