-- The places of currencies, and the tickets whose denominations and holders have places.
use Rattle.std.proofs.Common.{◌≡◌, ◌≤◌, ◌<◌, ◌+◌, ◌^◌, ℕ, zero, suc, Bool, true, false, cond, List, [], ◌∷◌}
use Rattle.std.proofs.Common.{map, sum_by, length, bytes_eq, nat_eq, refl, sym, ap, ◌∙◌, arith}
use Rattle.std.proofs.lemmas.List.Sums.{sum_by-cons}
use Rattle.std.proofs.lemmas.Bool.Decides.{nat_tests}
use Rattle.share_model.specs.declared.funding.Ticket.{Ticket}
use Rattle.share_model.specs.funding.Graph.{NameBytes, base, Graph, holder_is_currency}
use Rattle.share_model.specs.lists.Each.{Each}
use Rattle.share_model.specs.funding.WellFormed.{names_of, times, IsHolderKnown, IsWellFormed}
use Rattle.share_model.proofs.lemmas.lists.SumLemmas.{same_name, name_same, name_sym}
use Rattle.share_model.proofs.lemmas.funding.SettledGraphLemmas.{none_any}
use Rattle.share_model.proofs.lemmas.funding.RefusalLemmas.{absent}
use Rattle.share_ledger.specs.Places.{place}
use Rattle.share_ledger.proofs.FirstItemLemmas.{IsFirstAt}

-- Places of names
times-other : (c x : NameBytes) (cs : List NameBytes) → bytes_eq c x ≡ false → times c (x ∷ cs) ≡ times c cs
times-other c x cs e = grind (arith, nat_tests, name_sym, sum_by-cons)

pub place-below : (c : NameBytes) (cs : List NameBytes) → 1 ≤ times c cs → place cs c < length cs
unfolding place
place-below c [] known = absurd (omega arith)
place-below c (x ∷ cs) known = by (bytes_eq c x) refl (place-below c cs)
  where
    by : (b : Bool) → bytes_eq c x ≡ b → (1 ≤ times c cs → place cs c < length cs)
        → cond b 0 (suc (place cs c)) < length (x ∷ cs)
    by true e rest = omega arith
    by false e rest = let more = times-other c x cs e in let inside = rest (omega arith) in omega arith

pub place-first : (c : NameBytes) (cs : List NameBytes) (i : ℕ) → IsFirstAt (bytes_eq c) cs i → place cs c ≡ i
unfolding place
place-first c [] i first = absurd first
place-first c (x ∷ cs) zero first = ap (λ b. cond b 0 (suc (place cs c))) first
place-first c (x ∷ cs) (suc i) first =
    ap (λ b. cond b 0 (suc (place cs c))) first.0 ∙ ap suc (place-first c cs i first.1)

pub place-same : (c d : NameBytes) (cs : List NameBytes) → 1 ≤ times c cs
    → nat_eq (place cs c) (place cs d) ≡ bytes_eq c d
unfolding place
place-same c d [] known = absurd (omega arith)
place-same c d (x ∷ cs) known =
    grind (arith, nat_tests, name_same, same_name, name_sym, times-other, place-same c d cs)

pub place-base : (g : Graph) (c : NameBytes) → nat_eq (place (names_of g) c) 0 ≡ bytes_eq c base
unfolding place
place-base g c = grind (arith, nat_tests)

-- the index of a name that is not `base`
pub past-base : (g : Graph) (c : NameBytes) → bytes_eq c base ≡ false → 0 < place (names_of g) c
past-base g c apart = grind (arith, nat_tests, place-base g c)

pub sum_by-map : {X Y : Type 0} (f : Y → ℕ) (h : X → Y) (xs : List X) → sum_by f (map h xs) ≡ sum_by (λ x. f (h x)) xs
sum_by-map f h [] = refl
sum_by-map f h (x ∷ xs) =
    sum_by-cons f (h x) (map h xs) ∙ ap (λ n. f (h x) + n) (sum_by-map f h xs) ∙ sym (sum_by-cons (λ x. f (h x)) x xs)

-- a ticket whose denomination and holder have places, which does not back `base`, with a small amount
pub record IsPlaced (g : Graph) (t : Ticket) : Type 0 where
  pub denomination_known : 1 ≤ times t.denomination (names_of g)
  pub holder_known : IsHolderKnown g t.holder
  pub unbacked : holder_is_currency base t.holder ≡ false
  pub amount_small : t.amount ≤ 2 ^ 20

pub placed : (g : Graph) → IsWellFormed g → Each (IsPlaced g) g.tickets
placed g ok = all g.tickets ok.sound.known ok.held ok.shallow.unbacked ok.amounts
  where
    all : (ts : List Ticket) → Each (λ (t : Ticket). 1 ≤ times t.denomination (names_of g)) ts
        → Each (λ (t : Ticket). IsHolderKnown g t.holder) ts
        → Each (λ (t : Ticket). holder_is_currency base t.holder ≡ false) ts
        → Each (λ (t : Ticket). (1 ≤ t.amount) × (t.amount ≤ 2 ^ 20)) ts → Each (IsPlaced g) ts
    all [] a b c d = tt
    all (t ∷ ts) a b c d = (
      record { denomination_known = a.0; holder_known = b.0; unbacked = c.0; amount_small = d.0.1 },
      all ts a.1 b.1 c.1 d.1,
    )

-- a name that stands neither first nor among the rest has no place
pub no-place : (g : Graph) (c : NameBytes) → bytes_eq c base ≡ false → Each (λ d. bytes_eq c d ≡ false) g.currencies
    → times c (names_of g) ≡ 0
no-place g c other none = absent c (names_of g) (none_any (bytes_eq c) (names_of g) (other, none))

-- place by place, from where the names stand
pub place-of_base : (g : Graph) (c : NameBytes) → bytes_eq c base ≡ true → 0 ≡ place (names_of g) c
unfolding place
place-of_base g c e = sym (ap (λ b. cond b 0 (suc (place g.currencies c))) e)

pub place-of_made : (g : Graph) (c : NameBytes) (i : ℕ) → bytes_eq c base ≡ false
    → IsFirstAt (bytes_eq c) g.currencies i → i + 1 ≡ place (names_of g) c
unfolding place
place-of_made g c i e first = grind (arith, nat_tests, place-first)
