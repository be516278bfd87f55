-- The outcome of a call that moves one packet.
use Rattle.std.specs.Prelude.{ℕ, Bool, false, ◌||◌, ◌==◌, ℤ, pos, negsuc, Option, None, Some}
use Rattle.share_sockets.specs.declared.received.Received.{Received}
use Rattle.share_sockets.specs.declared.received.Received.TheVariants.{Packet, Again, Waits, Over}

-- the number of bytes of the buffer that the packet fills
abbrev pub packet_length : Received → ℕ
packet_length (Packet n sender) = n
packet_length Again = 0
packet_length Waits = 0
packet_length Over = 0

-- EINTR, EIO, EAGAIN, ENOMEM, EINVAL, EMSGSIZE, ENOBUFS
abbrev pub is_of_one_packet : ℤ → Bool
is_of_one_packet (pos n) =
    n == 4 || (n == 5 || (n == 11 || (n == 12 || (n == 22 || (n == 90 || n == 105)))))
is_of_one_packet (negsuc n) = false

-- an error of a write that loses its packet alone
abbrev pub loses_one_packet : Option ℤ → Bool
loses_one_packet None = false
loses_one_packet (Some n) = is_of_one_packet n
