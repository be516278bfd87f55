-- The packets that are given of the frames that come, and the counts of them.
use Rattle.std.specs.Prelude.{◌≡◌, ℕ, ◌+◌, ◌-◌, ◌^◌, min, Bool, true, false, List, [], ◌∷◌, ◌++◌, length}
use Rattle.share_base.specs.declared.version.Version.TheVariants.{Two}
use Rattle.share_gateway.specs.Frames.{Framed, framed_bytes}
use Rattle.share_model.specs.lists.Each.{Each}
use Rattle.share_model.specs.link.Frame.{FitsFrame}
use Rattle.share_downlink.specs.declared.counts.Counts.{Counts}

-- counts stay at the greatest one
abbrev pub capped : ℕ → ℕ
capped n = min n (2 ^ 64 - 1)

abbrev pub no_counts : Counts
no_counts = record { frames = 0; bytes = 0; strangers = 0 }

-- a frame of n bytes came, whose number a tenant has or not
abbrev pub counted : Bool → ℕ → Counts → Counts
counted true n c = record c { frames = capped (c.frames + 1); bytes = capped (c.bytes + n) }
counted false n c = record c {
  frames = capped (c.frames + 1);
  bytes = capped (c.bytes + n);
  strangers = capped (c.strangers + 1);
}

-- the length of the frame of a payload in bytes
abbrev pub frame_size : List ℕ → ℕ
frame_size payload = 17 + length payload

-- The packets were given one after the other, each once, and each was counted by its answer. The relation `delivers`
-- says what a call does to what takes them.
pub data Gives {T : Type 0} (delivers : T → ℕ → List ℕ → Bool → T → Type 0) (first : T) (counts : Counts)
    : List Framed → T → Counts → Type 0 where
  no_packet : Gives delivers first counts [] first counts
  packet : (packets : List Framed) (before : T) (c : Counts) → Gives delivers first counts packets before c
      → (f : Framed) (is_known : Bool) (after : T)
      → delivers before f.packet.flow f.packet.payload is_known after
      → Gives delivers first counts (packets ++ f ∷ []) after (counted is_known (frame_size f.packet.payload) c)

-- packets were given, each that of a frame
pub record GivesFrames {T : Type 0} (delivers : T → ℕ → List ℕ → Bool → T → Type 0) (before : T) (c : Counts)
    (after : T) (d : Counts) : Type 0 where
  pub packets : List Framed
  pub good : Each (λ (f : Framed). FitsFrame Two f.tariff f.packet) packets
  pub given : Gives delivers before c packets after d

-- the offset in a stream at which the bytes after these frames begin, if the first of them begins there
abbrev pub offset_after : ℕ → List Framed → ℕ
offset_after offset [] = offset
offset_after offset (f ∷ fs) = offset_after (capped (offset + frame_size f.packet.payload)) fs

-- the view of the frames of a connection in contracts. It has the bytes of its stream that were not given, their offset
-- in the stream, and the payload that was cut last
pub record IncomingView : Type 0 where
  pub bytes : List ℕ
  pub payload : List ℕ
  pub offset : ℕ

-- the frames of these packets were in front of the bytes of a stream, and were given
pub record CutsOff {T : Type 0} (delivers : T → ℕ → List ℕ → Bool → T → Type 0) (before : T) (c : Counts)
    (old : IncomingView) (after : T) (d : Counts) (new : IncomingView) : Type 0 where
  pub packets : List Framed
  pub good : Each (λ (f : Framed). FitsFrame Two f.tariff f.packet) packets
  pub given : Gives delivers before c packets after d
  pub bytes : old.bytes ≡ framed_bytes packets ++ new.bytes
  pub offset : new.offset ≡ offset_after old.offset packets

-- this piece of the stream came after the bytes that were there
abbrev pub fed : List ℕ → IncomingView → IncomingView
fed piece i = record i { bytes = i.bytes ++ piece; payload = [] }

-- bytes of the stream came, and the frames of packets that were in front then were given
pub record Passes {T : Type 0} (delivers : T → ℕ → List ℕ → Bool → T → Type 0) (before : T) (c : Counts)
    (old : IncomingView) (after : T) (d : Counts) (new : IncomingView) : Type 0 where
  pub came : List ℕ
  pub packets : List Framed
  pub good : Each (λ (f : Framed). FitsFrame Two f.tariff f.packet) packets
  pub given : Gives delivers before c packets after d
  pub bytes : old.bytes ++ came ≡ framed_bytes packets ++ new.bytes
  pub offset : new.offset ≡ offset_after old.offset packets
