-- The bits of the places that funding tickets come from.
use Rattle.std.proofs.Common.{◌≡◌, ◌<◌, ◌^◌, ◌%◌, ◌∙◌, ◌||◌, ℕ, Bool, true, false, List, [], ◌∷◌, ◌++◌, bit_and, bit_or}
use Rattle.std.proofs.Common.{refl, ap, set, replicate, arith}
use Rattle.std.specs.Int.{bit_at}
use Rattle.std.specs.List.{list_any}
use Rattle.std.proofs.lemmas.Bool.Decides.{eqb_tells}
use Rattle.std.proofs.lemmas.List.{get_or-replicate, get_or-set_other}
use Rattle.std.proofs.lemmas.Nat.Bits.{bit_at_and, bit_at_or, bit_at-lt, bit_at-zero, bit_at-pow_same}
use Rattle.share_model.specs.lists.Each.{Each}
use Rattle.share_ledger.specs.declared.funding_tickets.FundingTicket.{FundingTicket}
use Rattle.share_ledger.specs.Arrays.{flags_of}
use Rattle.share_ledger.specs.FundingTickets.{ComesFrom, IsFundingTicketWithin}
use Rattle.std.proofs.lemmas.Bool.Decides.{nat_tests}

left_bit : (a b i : ℕ) → bit_at a i ≡ 1 → bit_at (bit_or a b) i ≡ 1
left_bit a b i is = omega (arith, bit_at_or a b i, bit_at-lt b i, is)

right_bit : (a b i : ℕ) → bit_at b i ≡ 1 → bit_at (bit_or a b) i ≡ 1
right_bit a b i is = omega (arith, bit_at_or a b i, bit_at-lt a i, is)

-- the bits of the funding tickets of one holder and of another
pub bits-left : (a b : ℕ) (ss : List FundingTicket) → Each (ComesFrom a) ss → Each (ComesFrom (bit_or a b)) ss
bits-left a b [] all = tt
bits-left a b (s ∷ ss) all = (left_bit a b (s.from % 64) all.0, bits-left a b ss all.1)

pub bits-right : (a b : ℕ) (ss : List FundingTicket) → Each (ComesFrom b) ss → Each (ComesFrom (bit_or a b)) ss
bits-right a b [] all = tt
bits-right a b (s ∷ ss) all = (right_bit a b (s.from % 64) all.0, bits-right a b ss all.1)

one_more : (a : ℕ) (ss : List FundingTicket) (s : FundingTicket) → Each (ComesFrom a) ss → ComesFrom a s
    → Each (ComesFrom a) (ss ++ s ∷ [])
one_more a [] s all one = (one, tt)
one_more a (t ∷ ts) s all one = (all.0, one_more a ts s all.1 one)

-- one funding ticket more, and its bit
pub bits-more : (a b : ℕ) (ss : List FundingTicket) (s : FundingTicket) → b ≡ 2 ^ (s.from % 64) → Each (ComesFrom a) ss
    → Each (ComesFrom (bit_or a b)) (ss ++ s ∷ [])
bits-more a b ss s is all = grind (arith, nat_tests, bit_at-pow_same, one_more, bits-left, right_bit)

false_unless : (b : Bool) → (b ≡ true → b ≡ false) → b ≡ false
false_unless true not = not refl
false_unless false not = refl

-- if no bit is the same, no funding ticket comes from a flagged place
pub none-touched : (bits moved : ℕ) (flag : ℕ → Bool) (ss : List FundingTicket) → bit_and bits moved ≡ 0
    → ((p : ℕ) → p < 65 → flag p ≡ true → bit_at moved (p % 64) ≡ 1)
    → Each IsFundingTicketWithin ss → Each (ComesFrom bits) ss → list_any (λ (s : FundingTicket). flag s.from) ss
    ≡ false
none-touched bits moved flag [] apart is within all = refl
none-touched bits moved flag (s ∷ ss) apart is within all =
    let i = s.from % 64 in
    let other = false_unless (flag s.from) (λ on. absurd (omega (
      arith,
      bit_at_and bits moved i,
      bit_at-zero i,
      ap (λ n. bit_at n i) apart,
      all.0,
      is s.from within.0.from_place on,
    ))) in
    ap (λ b. b || list_any (λ (s : FundingTicket). flag s.from) ss) other
    ∙ none-touched bits moved flag ss apart is within.1 all.1

-- a place is flagged, and so its bit is there
pub bits-flagged : (flags : List Bool) (place bits b : ℕ) → b ≡ 2 ^ (place % 64)
    → ((p : ℕ) → p < 65 → flags_of flags p ≡ true → bit_at bits (p % 64) ≡ 1)
    → (p : ℕ) → p < 65 → flags_of (set flags place true) p ≡ true → bit_at (bit_or bits b) (p % 64) ≡ 1
bits-flagged flags place bits b is were p few on =
    grind (arith, nat_tests, eqb_tells, right_bit, bit_at-pow_same, left_bit, get_or-set_other)

-- if no place is flagged, no bit has to be there
pub none-flagged : (p : ℕ) → p < 65 → flags_of (replicate 65 false) p ≡ true → bit_at 0 (p % 64) ≡ 1
none-flagged p few on = grind (arith, nat_tests, get_or-replicate 65 p false false few)
