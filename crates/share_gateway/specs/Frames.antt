-- The view of frames of version 2 in contracts, cut out of a stream that comes in pieces.
use Rattle.std.specs.Prelude.{◌≡◌, ⊤, ℕ, List, [], ◌∷◌, ◌++◌}
use Rattle.share_base.specs.declared.version.Version.TheVariants.{Two}
use Rattle.share_frame.specs.Reading.{BeginsWithFrame, IsFirstBad}
use Rattle.share_model.specs.lists.Each.{Each}
use Rattle.share_model.specs.link.Frame.{Packet, FitsFrame, frame}
use Rattle.share_model.specs.run.History.{IsBeginning}
use Rattle.share_gateway.specs.declared.frames.FrameCut.{FrameCut}
use Rattle.share_gateway.specs.declared.frames.FrameCut.TheVariants.{Frame, More, Bad}

-- the bytes of the stream that were not given yet; and the payload that was given last, until more of the stream comes
pub record FramesView : Type 0 where
  pub bytes : List ℕ
  pub payload : List ℕ

-- the frame of a packet is in front
pub record GivesFrame (old : List ℕ) (tariff : ℕ) (packet : Packet) (new : List ℕ) : Type 0 where
  pub fits : FitsFrame Two tariff packet
  pub bytes : old ≡ frame Two tariff packet ++ new

-- the answer that is right, and what it leaves. The packet of the frame in front is given. Or the bytes are the
-- beginning of one, and not the whole; or this is the first field that no frame has
abbrev pub CutsFrame : FramesView → FrameCut → FramesView → Type 0
CutsFrame old (Frame flow seq tariff) new =
    GivesFrame old.bytes tariff (record { flow = flow; seq = seq; payload = new.payload }) new.bytes
CutsFrame old More new = IsBeginning Two old.bytes × (new ≡ old)
CutsFrame old (Bad place) new = IsFirstBad Two place old.bytes × (new ≡ old)

-- no frame is in front of the bytes
abbrev pub NoFrame : List ℕ → Type 0
NoFrame bytes = (flow seq tariff len : ℕ) → BeginsWithFrame Two flow seq tariff len bytes → ⊥

-- if the answer is no frame, none is in front
abbrev pub IsNoFrame : FrameCut → List ℕ → Type 0
IsNoFrame (Frame flow seq tariff) bytes = ⊤
IsNoFrame More bytes = NoFrame bytes
IsNoFrame (Bad place) bytes = NoFrame bytes

-- a packet, and the tariff in its frame
pub record Framed : Type 0 where
  pub tariff : ℕ
  pub packet : Packet

abbrev pub framed_bytes : List Framed → List ℕ
framed_bytes [] = []
framed_bytes (f ∷ fs) = frame Two f.tariff f.packet ++ framed_bytes fs

-- a stream is the frames of these packets, and then these bytes
pub record AreFrames (stream : List ℕ) (packets : List Framed) (rest : List ℕ) : Type 0 where
  pub good : Each (λ (f : Framed). FitsFrame Two f.tariff f.packet) packets
  pub bytes : stream ≡ framed_bytes packets ++ rest

-- The calls from the beginning on. They have the bytes that were fed, one piece after the other, the packets that were
-- given, and the bytes that were not given yet.
pub data Reads : List ℕ → List Framed → List ℕ → Type 0 where
  began : Reads [] [] []
  fed : (stream : List ℕ) (packets : List Framed) (bytes : List ℕ) → Reads stream packets bytes
      → (piece : List ℕ) → Reads (stream ++ piece) packets (bytes ++ piece)
  given : (stream : List ℕ) (packets : List Framed) (bytes : List ℕ) → Reads stream packets bytes
      → (tariff : ℕ) (packet : Packet) (rest : List ℕ) → GivesFrame bytes tariff packet rest
      → Reads stream (packets ++ record { tariff = tariff; packet = packet } ∷ []) rest
