-- The payloads of packets, and what is stamped before them.
use Rattle.std.specs.Prelude.{◌≡◌, ◌⊎◌, ℕ, Bool, not, ◌&&◌, List, [], ◌∷◌, ◌++◌, length, nat_le, Option}
use Rattle.share_base.specs.declared.refusal.Refusal.{Refusal}
use Rattle.share_base.specs.declared.refusal.Refusal.TheVariants.{Range}
use Rattle.share_base.specs.Refusal.{first_refusal}

-- 1 to 9000 bytes
abbrev pub is_payload_length : ℕ → Bool
is_payload_length n = nat_le 1 n && nat_le n 9000

-- why these bytes are no payload, memory aside
abbrev pub payload_refusal : List ℕ → Option Refusal
payload_refusal bytes = first_refusal ((not (is_payload_length (length bytes)), Range) ∷ [])

-- the view of a body in contracts: the bytes last stamped before its payload, none before a stamp, and the payload
pub record BodyView : Type 0 where
  pub stamped : List ℕ
  pub payload : List ℕ

-- a body before a stamp
abbrev pub unstamped : List ℕ → BodyView
unstamped payload = record { stamped = []; payload = payload }

-- nothing is stamped
abbrev pub IsUnstamped : BodyView → Type 0
IsUnstamped body = body.stamped ≡ []

-- as long as the header of a frame
abbrev pub IsHeaderLength : ℕ → Type 0
IsHeaderLength n = (n ≡ 12) ⊎ (n ≡ 17)

-- the stamped bytes, and the payload after them
abbrev pub framed_bytes : BodyView → List ℕ
framed_bytes body = body.stamped ++ body.payload
