-- The life of a link.
use Rattle.std.specs.Prelude.{ℕ, ◌^◌, not, ◌&&◌, [], ◌∷◌, nat_le, Option}
use Rattle.share_base.specs.Refusal.{first_refusal}
use Rattle.share_base.specs.declared.refusal.Refusal.{Refusal}
use Rattle.share_base.specs.declared.refusal.Refusal.TheVariants.{Range}

-- a life is 1 to 2^24 events
abbrev pub life_refusal : ℕ → Option Refusal
life_refusal life = first_refusal ((not (nat_le 1 life && nat_le life (2 ^ 24)), Range) ∷ [])
