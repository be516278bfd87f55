-- The sameness of two ports.
use Rattle.std.specs.Prelude.{ℕ, ◌==◌, ◌&&◌, Bool, false, List}
use Rattle.std.specs.Str.{bytes_eq}
use Rattle.std.specs.Net.Addr.{ipv4_octets, ipv6_segments}
use Rattle.std.specs.Net.Socket.{v4_ip, v4_port, v6_ip, v6_port, v6_flowinfo, v6_scope_id}
use Rattle.std.specs.declared.net.socket_addr.SocketAddr.{SocketAddr}
use Rattle.std.specs.declared.net.socket_addr.SocketAddr.TheVariants.{V4, V6}
use Rattle.std.specs.declared.net.socket_addr.SocketAddrV4.{SocketAddrV4}
use Rattle.std.specs.declared.net.socket_addr.SocketAddrV6.{SocketAddrV6}
use Rattle.share_settings.specs.declared.port.Peer.{Peer}
use Rattle.share_settings.specs.declared.port.Peer.TheVariants as peer
use Rattle.share_settings.specs.declared.port.Listener.{Listener}
use Rattle.share_settings.specs.declared.port.Listener.TheVariants as listener
use Rattle.share_settings.specs.declared.port.Port.{Port}
use Rattle.share_settings.specs.declared.port.Port.TheVariants.{Tcp, Unix, Udp, UdpTo, Descriptor}

abbrev pub same_text : List ℕ → List ℕ → Bool
same_text a b = bytes_eq a b

abbrev pub same_v4 : SocketAddrV4 → SocketAddrV4 → Bool
same_v4 a b = bytes_eq (ipv4_octets (v4_ip a)) (ipv4_octets (v4_ip b)) && (v4_port a == v4_port b)

abbrev pub same_v6 : SocketAddrV6 → SocketAddrV6 → Bool
same_v6 a b =
    bytes_eq (ipv6_segments (v6_ip a)) (ipv6_segments (v6_ip b))
    && (v6_port a == v6_port b)
    && (v6_flowinfo a == v6_flowinfo b)
    && (v6_scope_id a == v6_scope_id b)

abbrev pub same_address : SocketAddr → SocketAddr → Bool
same_address (V4 a) (V4 b) = same_v4 a b
same_address (V6 a) (V6 b) = same_v6 a b
same_address (V4 a) (V6 b) = false
same_address (V6 a) (V4 b) = false

-- of the same kind, and with the same address, path or number
abbrev pub same_port : Port → Port → Bool
same_port (Tcp a) (Tcp b) = same_address a b
same_port (Unix a) (Unix b) = same_text a b
same_port (Udp a) (Udp b) = same_address a b
same_port (UdpTo a) (UdpTo b) = same_address a b
same_port (Descriptor a) (Descriptor b) = a == b
same_port a b = false

-- the port at a peer's address, and the port that a listener is
abbrev pub peer_port : Peer → Port
peer_port (peer.Tcp a) = Tcp a
peer_port (peer.Udp a) = Udp a

abbrev pub listener_port : Listener → Port
listener_port (listener.Tcp a) = Tcp a
listener_port (listener.Unix path) = Unix path
