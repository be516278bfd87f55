-- The first number for which no book is given.
use Rattle.std.proofs.Common.{◌≡◌, ◌≤◌, ◌<◌, ◌-◌, ◌⊎◌, inl, inr, ℕ, Bool, true, false, List, [], ◌∷◌, length, get_or}
use Rattle.std.proofs.Common.{nat_eq, nat_lt, suc}
use Rattle.std.proofs.Common.{None, Some, arith, ◌∙◌, ap, refl}
use Rattle.std.proofs.lemmas.Bool.Decides.{nat_tests}
use Rattle.share_catalog.specs.Billed.{is_accounted, first_book, last_book, Accounts, IsMissing, IsFirstMissing}
use Rattle.share_catalog.specs.declared.row.Row.{Row}

pub some_rows : (rows : List Row) (b : Bool) → b ≡ nat_eq (length rows) 0 → b ≡ false → 1 ≤ length rows
some_rows [] b e f = cc
some_rows (r ∷ rs) b e f = omega arith

pub last_at : (rows : List Row) (d : Row) → 1 ≤ length rows → last_book rows ≡ (get_or rows (length rows - 1) d).book
last_at [] d some = absurd (omega arith)
last_at (r ∷ []) d some = refl
last_at (r ∷ s ∷ rs) d some =
    let on : suc (length (s ∷ rs) - 1) ≡ length (r ∷ s ∷ rs) - 1 = omega arith in
    last_at (s ∷ rs) d (omega arith) ∙ ap (λ k. (get_or (r ∷ s ∷ rs) k d).book) on

pub first_at : (rows : List Row) (d : Row) → 1 ≤ length rows → first_book rows ≡ (get_or rows 0 d).book
first_at [] d some = absurd (omega arith)
first_at (r ∷ rs) d some = refl

pub found_below : (rows : List Row) (given : List ℕ) (number last : ℕ) → 1 ≤ length rows → last ≡ last_book rows
    → (number < last) × IsMissing rows given number → IsFirstMissing rows given (Some number)
found_below [] given number last some is found = absurd (omega arith)
found_below (r ∷ rs) given number last some is found =
    let few : number ≤ last_book (r ∷ rs) = omega (arith, is, found.0) in (few, found.1)

pub found_last : (rows : List Row) (given : List ℕ) (last : ℕ) → 1 ≤ length rows → last ≡ last_book rows
    → Accounts rows given last → first_book rows ≤ last → is_accounted rows given last ≡ false
    → IsFirstMissing rows given (Some last)
found_last [] given last some is before from missing = absurd (omega arith)
found_last (r ∷ rs) given last some is before from missing =
    let few : last ≤ last_book (r ∷ rs) = omega (arith, is) in
    (few, record { from = from; missing = missing; before = before })

at_last : (rows : List Row) (given : List ℕ) (last n : ℕ) → Accounts rows given last
    → (first_book rows ≤ last → is_accounted rows given last ≡ true) → first_book rows ≤ n
    → ((n < last) ⊎ (n ≡ last)) → is_accounted rows given n ≡ true
at_last rows given last n before at from (inl below) = before n from below
at_last rows given last n before at from (inr same) = rw same (at (omega (arith, same, from)))

below_by : (n last : ℕ) → n ≤ last → (b : Bool) → nat_lt n last ≡ b → (n < last) ⊎ (n ≡ last)
below_by n last few true e = let below : n < last = grind (arith, nat_tests) in inl below
below_by n last few false e = let over : last ≤ n = grind (arith, nat_tests) in inr (omega arith)

below_or_at : (n last : ℕ) → n ≤ last → (n < last) ⊎ (n ≡ last)
below_or_at n last few = below_by n last few (nat_lt n last) refl

pub none_missing : (rows : List Row) (given : List ℕ) (last : ℕ) → 1 ≤ length rows → last ≡ last_book rows
    → Accounts rows given last → (first_book rows ≤ last → is_accounted rows given last ≡ true)
    → IsFirstMissing rows given None
none_missing [] given last some is before at = refl
none_missing (r ∷ rs) given last some is before at =
    λ n from few. at_last (r ∷ rs) given last n before at from (below_or_at n last (omega (arith, is, few)))
