-- Frames. First come two bytes that name the format and its version, and in version 2 the number of the flow's tariff.
-- Then come the flow number, the sequence number and the length of the payload, each big-endian, and the payload.
use Rattle.std.specs.Prelude.{◌<◌, ◌≤◌, ◌^◌, ◌+◌, ℕ, List, [], ◌∷◌, ◌++◌, length, ⊤}
use Rattle.std.specs.Int.{to_be_bytes, w16, w32, w64}
use Rattle.share_base.specs.Version.{header_length}
use Rattle.share_base.specs.declared.version.Version.{Version}
use Rattle.share_base.specs.declared.version.Version.TheVariants.{One, Two}
use Rattle.share_model.specs.link.Fields.{IsBody}

pub record PacketOf (A : Type 0) : Type 0 where
  pub flow : ℕ
  pub seq : ℕ
  pub payload : A

abbrev pub Packet : Type 0
Packet = PacketOf (List ℕ)

-- the same packet, seen as its image
abbrev pub map_packet : {A B : Type 0} → (A → B) → PacketOf A → PacketOf B
map_packet f h = record { flow = h.flow; seq = h.seq; payload = f h.payload }

-- The fields whose bytes differ

abbrev pub version_byte : Version → ℕ
version_byte One = 1
version_byte Two = 2

-- version 1 has no tariff number
abbrev pub tariff_bytes : Version → ℕ → List ℕ
tariff_bytes One tariff = []
tariff_bytes Two tariff = tariff ∷ []

abbrev pub seq_bytes : Version → ℕ → List ℕ
seq_bytes One seq = to_be_bytes w32 seq
seq_bytes Two seq = to_be_bytes w64 seq

-- Frames

unfoldable pub header : Version → ℕ → ℕ → ℕ → ℕ → List ℕ
header version tariff flow seq len =
    76 ∷ version_byte version ∷ [] ++ tariff_bytes version tariff ++ to_be_bytes w32 flow ++ seq_bytes version seq
    ++ to_be_bytes w16 len

-- the frame of a packet whose flow has this tariff
unfoldable pub frame : Version → ℕ → Packet → List ℕ
frame version tariff h = header version tariff h.flow h.seq (length h.payload) ++ h.payload

-- its length in bytes
abbrev pub frame_length : Version → Packet → ℕ
frame_length version h = header_length version + length h.payload

-- The fields of a frame

-- a tariff number is 1 to 8; version 1 has none, so there it may be any
abbrev pub FitsTariff : Version → ℕ → Type 0
FitsTariff One tariff = ⊤
FitsTariff Two tariff = (1 ≤ tariff) × (tariff ≤ 8)

-- a sequence number has four bytes, or eight
abbrev pub FitsSeq : Version → ℕ → Type 0
FitsSeq One seq = seq < 2 ^ 32
FitsSeq Two seq = seq < 2 ^ 64

-- a packet that a frame carries, under this tariff. Its flow is 1 to 2^32 - 1, its sequence number at least 1, and its
-- payload 1 to 1490 bytes, or 9000
pub record FitsFrame (version : Version) (number : ℕ) (h : Packet) : Type 0 where
  pub tariff : FitsTariff version number
  pub some_flow : 1 ≤ h.flow
  pub flow : h.flow < 2 ^ 32
  pub some_seq : 1 ≤ h.seq
  pub seq : FitsSeq version h.seq
  pub payload : IsBody version h.payload
