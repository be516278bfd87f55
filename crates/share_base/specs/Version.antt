-- The versions of frames and of audits.
use Rattle.std.specs.Prelude.{ℕ}
use Rattle.share_base.specs.declared.version.Version.{Version}
use Rattle.share_base.specs.declared.version.Version.TheVariants.{One, Two}

-- the longest payload that a frame carries, in bytes
abbrev pub max_payload : Version → ℕ
max_payload One = 1490
max_payload Two = 9000

-- the length of a frame before its payload, in bytes
abbrev pub header_length : Version → ℕ
header_length One = 12
header_length Two = 17
