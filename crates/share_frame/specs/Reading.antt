-- The reading of bytes by the grammar of frames of a version. They begin with a frame, they are the beginning of one,
-- or they have a field that no frame has. A beginning of a frame is never the whole.
use Rattle.std.specs.Prelude.{◌≡◌, ◌⊎◌, ℕ, List, ◌++◌, length, take}
use Rattle.share_base.specs.Version.{header_length}
use Rattle.share_base.specs.declared.version.Version.{Version}
use Rattle.share_base.specs.declared.version.Version.TheVariants.{One, Two}
use Rattle.share_model.specs.link.Frame.{Packet, FitsFrame, frame}
use Rattle.share_model.specs.run.History.{IsBeginning}
use Rattle.share_frame.specs.declared.reading.Field.{Field}
use Rattle.share_frame.specs.declared.reading.Field.TheVariants.{Magic, Version as VersionByte, Tariff, Flow, Seq, Len}
use Rattle.share_frame.specs.declared.reading.FrameRead2.{FrameRead2}
use Rattle.share_frame.specs.declared.reading.FrameRead2.TheVariants.{Frame, More, Bad}

-- bytes that begin with the frame of a packet with these numbers and a payload of this length, under this tariff
pub record BeginsWithFrame (version : Version) (flow seq tariff len : ℕ) (bytes : List ℕ) : Type 0 where
  pub head : Packet
  pub fits : FitsFrame version tariff head
  pub flow_is : head.flow ≡ flow
  pub seq_is : head.seq ≡ seq
  pub len_is : length head.payload ≡ len
  pub rest : List ℕ
  pub is : bytes ≡ frame version tariff head ++ rest

-- bytes that begin with a frame of the version, or are the beginning of one
abbrev pub IsOfVersion : Version → List ℕ → Type 0
IsOfVersion version bytes =
    ((flow seq tariff len : ℕ) × BeginsWithFrame version flow seq tariff len bytes) ⊎ IsBeginning version bytes

-- the number of bytes of a frame before a field
abbrev pub start_of : Version → Field → ℕ
start_of version Magic = 0
start_of version VersionByte = 1
start_of version Tariff = 2
start_of One Flow = 2
start_of Two Flow = 3
start_of One Seq = 6
start_of Two Seq = 7
start_of One Len = 10
start_of Two Len = 15

-- and how many there are to its end, where the next begins: in version 1 a tariff has no bytes
abbrev pub end_of : Version → Field → ℕ
end_of version Magic = start_of version VersionByte
end_of version VersionByte = start_of version Tariff
end_of version Tariff = start_of version Flow
end_of version Flow = start_of version Seq
end_of version Seq = start_of version Len
end_of version Len = header_length version

-- the first field that no frame has. The bytes before it are the beginning of a frame. With it, or with the part of it
-- that is there, they are not
pub record IsFirstBad (version : Version) (place : Field) (bytes : List ℕ) : Type 0 where
  pub before : IsBeginning version (take (start_of version place) bytes)
  pub within : ¬ IsBeginning version (take (end_of version place) bytes)

-- the answer that is right
abbrev pub IsReadAs : Version → List ℕ → FrameRead2 → Type 0
IsReadAs version bytes (Frame flow seq tariff len) = BeginsWithFrame version flow seq tariff len bytes
IsReadAs version bytes More = IsBeginning version bytes
IsReadAs version bytes (Bad place) = IsFirstBad version place bytes
