-- The values that stay valid if a few weights, the funding tickets of one holder or the activity of one flow have
-- changed.
use Rattle.std.specs.Prelude.{◌≡◌, ◌<◌, ◌≤◌, ◌^◌, ◌%◌, ℕ, Bool, true, false, not, ◌&&◌, ◌||◌, List, min, nat_eq, nat_lt}
use Rattle.std.specs.Int.{bit_at}
use Rattle.std.specs.List.{list_any}
use Rattle.share_ledger.specs.declared.valuation.Valuation.{Valuation}
use Rattle.share_ledger.specs.declared.funding_tickets.FundingTicket.{FundingTicket}
use Rattle.share_ledger.specs.declared.stale.Moved.{Moved}
use Rattle.share_ledger.specs.Arrays.{flags_of, numbers_of}
use Rattle.share_ledger.specs.FundingTickets.{funding_tickets_at, worth_at}

-- whether the value of a currency may have changed. It may if its funding tickets or its weight did, or a place that a
-- funding ticket comes from moved
abbrev pub is_stale : List (List FundingTicket) → (ℕ → Bool) → (ℕ → ℕ) → (ℕ → ℕ) → ℕ → ℕ → Bool
is_stale ss moved whole seen changed p =
    nat_eq changed p || not (nat_eq (whole p) (seen p))
    || list_any (λ (s : FundingTicket). moved s.from) (funding_tickets_at ss p)

-- whether the tickets of a flow may have changed. They may if it is the flow that changed, or it is active and a place
-- that a funding ticket comes from moved
abbrev pub is_touched : List (List FundingTicket) → (ℕ → Bool) → (ℕ → Bool) → ℕ → ℕ → Bool
is_touched ss active moved changed p =
    nat_eq changed p || (active p && list_any (λ (s : FundingTicket). moved s.from) (funding_tickets_at ss p))

-- the tickets of no flow of a stretch of places may have changed
abbrev pub AreUntouched : List (List FundingTicket) → (ℕ → Bool) → (ℕ → Bool) → ℕ → ℕ → ℕ → Type 0
AreUntouched ss active moved changed from to =
    (p : ℕ) → from ≤ p → p < to → is_touched ss active moved changed p ≡ false

-- the values are those of the weights seen last, but for the currency whose funding tickets changed
abbrev pub WereValued : List (List FundingTicket) → (ℕ → ℕ) → (ℕ → ℕ) → ℕ → Type 0
WereValued ss value seen changed = (p : ℕ) → 0 < p → p < 65 → nat_eq changed p ≡ false
    → value p ≡ worth_at ss (λ k. nat_lt 0 (seen k)) value seen p

-- the bits of all flagged places are set
abbrev pub HaveBits : Moved → Type 0
HaveBits m = (p : ℕ) → p < 65 → flags_of m.flags p ≡ true → bit_at m.bits (p % 64) ≡ 1

-- the value and the weight of a place that is not flagged are as they were
abbrev pub AreMoved : (ℕ → Bool) → (ℕ → ℕ) → (ℕ → ℕ) → (ℕ → ℕ) → (ℕ → ℕ) → Type 0
AreMoved moved old new seen whole = (p : ℕ) → 0 < p → p < 65 → moved p ≡ false → (new p ≡ old p) × (whole p ≡ seen p)

-- All is as it follows from the weights seen last, but for one currency and one flow. If that currency is not awake, it
-- has no value.
pub record WasCurrent (n : Valuation) (tickets_of_all : List ℕ) (currency flow : ℕ) : Type 0 where
  pub awake_was : (p : ℕ) → 0 < p → p < 65 → flags_of n.awake.value p ≡ nat_lt 0 (numbers_of n.seen.value p)
  pub valued : WereValued n.backing.items (numbers_of n.values.value) (numbers_of n.seen.value) currency
  pub asleep : 0 < currency → currency < 65 → flags_of n.awake.value currency ≡ false
      → numbers_of n.values.value currency ≡ 0
  pub shared : (p : ℕ) → p < 64 → nat_eq flow p ≡ false
      → numbers_of tickets_of_all p
      ≡ min (worth_at n.funding.items (flags_of n.active.value) (numbers_of n.values.value) (numbers_of n.seen.value) p)
      (2 ^ 20)

-- The nets are the same but for the weights, and for the funding tickets of one currency and of one flow.
pub record IsLeft (old new : Valuation) (currency flow : ℕ) : Type 0 where
  pub backing : (k : ℕ) → nat_eq currency k ≡ false → funding_tickets_at new.backing.items k
      ≡ funding_tickets_at old.backing.items k
  pub funding : (k : ℕ) → nat_eq flow k ≡ false → funding_tickets_at new.funding.items k
      ≡ funding_tickets_at old.funding.items k
  pub active : new.active ≡ old.active
  pub awake : new.awake ≡ old.awake
  pub values : new.values ≡ old.values
  pub seen : new.seen ≡ old.seen
