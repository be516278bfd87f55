-- The fields of a header, read in any bytes, each big-endian.
use Rattle.std.specs.Prelude.{◌≡◌, ◌<◌, ◌≤◌, ◌+◌, ◌/◌, ℕ, List, [], ◌∷◌, length, slice_index}
use Rattle.std.specs.Int.{from_be_bytes, w16, w32, w64}
use Rattle.share_base.specs.Version.{header_length, max_payload}
use Rattle.share_base.specs.declared.version.Version.{Version}
use Rattle.share_base.specs.declared.version.Version.TheVariants.{One, Two}
use Rattle.share_model.specs.link.Frame.{version_byte, FitsTariff}
use Rattle.share_frame.specs.declared.reading.Field.{Field}
use Rattle.share_frame.specs.declared.reading.Field.TheVariants.{Magic, Version as VersionByte, Tariff, Flow, Seq, Len}
use Rattle.share_frame.specs.Reading.{start_of, end_of}

-- the number in the four bytes at a place
abbrev pub number_in : List ℕ → ℕ → ℕ
number_in bytes at =
    from_be_bytes w32
    (slice_index bytes at ∷ slice_index bytes (at + 1) ∷ slice_index bytes (at + 2) ∷ slice_index bytes (at + 3) ∷ [])

-- the number of the tariff: 0 in version 1, which has none
abbrev pub tariff_in : Version → List ℕ → ℕ
tariff_in One bytes = 0
tariff_in Two bytes = slice_index bytes 2

-- the sequence number
abbrev pub seq_in : Version → List ℕ → ℕ
seq_in One bytes = number_in bytes 6
seq_in Two bytes =
    from_be_bytes w64
    (slice_index bytes 7 ∷ slice_index bytes 8 ∷ slice_index bytes 9 ∷ slice_index bytes 10 ∷ slice_index bytes 11
    ∷ slice_index bytes 12 ∷ slice_index bytes 13 ∷ slice_index bytes 14 ∷ [])

-- the length of the payload
abbrev pub length_in : Version → List ℕ → ℕ
length_in version bytes =
    from_be_bytes w16
    (slice_index bytes (start_of version Len) ∷ slice_index bytes (start_of version Len + 1) ∷ [])

-- the length, as far as its bytes are there, can be that of a frame
pub record IsGoodLength (version : Version) (bytes : List ℕ) : Type 0 where
  pub high : start_of version Len < length bytes
      → slice_index bytes (start_of version Len) ≤ max_payload version / 256
  pub some : header_length version ≤ length bytes → 1 ≤ length_in version bytes
  pub few : header_length version ≤ length bytes → length_in version bytes ≤ max_payload version

-- a field, as far as its bytes are there, can be that of a frame
abbrev pub IsGood : Version → Field → List ℕ → Type 0
IsGood version Magic bytes = 0 < length bytes → slice_index bytes 0 ≡ 76
IsGood version VersionByte bytes = 1 < length bytes → slice_index bytes 1 ≡ version_byte version
IsGood version Tariff bytes = 2 < length bytes → FitsTariff version (tariff_in version bytes)
IsGood version Flow bytes = end_of version Flow ≤ length bytes → 1 ≤ number_in bytes (start_of version Flow)
IsGood version Seq bytes = end_of version Seq ≤ length bytes → 1 ≤ seq_in version bytes
IsGood version Len bytes = IsGoodLength version bytes
