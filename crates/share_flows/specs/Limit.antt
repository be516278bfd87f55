-- The limit of a buffer.
use Rattle.std.specs.Prelude.{ℕ, not, ◌&&◌, [], ◌∷◌, nat_le, Option}
use Rattle.share_base.specs.Refusal.{first_refusal}
use Rattle.share_base.specs.declared.refusal.Refusal.{Refusal}
use Rattle.share_base.specs.declared.refusal.Refusal.TheVariants.{Range}

-- a limit is 1 to 1024 packets
abbrev pub limit_refusal : ℕ → Option Refusal
limit_refusal limit = first_refusal ((not (nat_le 1 limit && nat_le limit 1024), Range) ∷ [])
