-- The tariff of a flow stays as it is while the flow is open, whatever becomes of the books.
use Rattle.std.specs.Prelude.{◌≡◌, ◌<◌, ℕ, Bool, true, false, List, [], ◌∷◌, ◌++◌, find, nat_eq, Option, None, Some}
use Rattle.std.specs.Prelude.{if◌then◌else◌}
use Rattle.std.specs.Set.{remove_key}
use Rattle.std.proofs.Common.{refl, ap, arith}
use Rattle.std.proofs.lemmas.Bool.{ne_eqb}
use Rattle.share_model.specs.declared.link.Book.{Book}
use Rattle.share_model.specs.link.Books.{is_book_of, new_book, tariff_in, tariff_of, with_hold, books_with_hold}
use Rattle.share_model.specs.lists.Change.{change_first}
use Rattle.share_model.proofs.lemmas.lists.RemovalLemmas.{find-remove_other}

-- a book that is opened is that of no flow before it
none_opened : (f next tariff : ℕ) → f < next
    → (if nat_eq f next then Some (new_book next tariff) else None) ≡ None
none_opened f next tariff below =
    ap (λ b. if b then Some (new_book next tariff) else None) (ne_eqb f next (below_self f next below))
  where
    below_self : (f next : ℕ) → f < next → f ≡ next → ⊥
    below_self f next below same = omega arith

find-opened : (books : List Book) (f next tariff : ℕ) → f < next
    → find (is_book_of f) (books ++ new_book next tariff ∷ []) ≡ find (is_book_of f) books
find-opened [] f next tariff below = none_opened f next tariff below
find-opened (b ∷ books) f next tariff below =
    ap (λ o. if is_book_of f b then Some b else o) (find-opened books f next tariff below)

pub tariff_of-opened : (books : List Book) (f next tariff : ℕ) → f < next
    → tariff_of (books ++ new_book next tariff ∷ []) f ≡ tariff_of books f
tariff_of-opened books f next tariff below = ap tariff_in (find-opened books f next tariff below)

-- another flow was closed
pub tariff_of-closed_other : (books : List Book) (f g : ℕ) → nat_eq g f ≡ false
    → tariff_of (remove_key (is_book_of f) books) g ≡ tariff_of books g
tariff_of-closed_other books f g apart =
    ap tariff_in (find-remove_other (λ (b : Book). b.flow) f g apart books)

-- a hold changes no tariff
held_first : (k : Bool) (b : Book) (held : Bool) (o : Option Book)
    → tariff_in (if k then Some (with_hold held b) else o) ≡ tariff_in (if k then Some b else o)
held_first true b held o = refl
held_first false b held o = refl

held_behind : (k : Bool) (b : Book) (o o' : Option Book) → tariff_in o' ≡ tariff_in o
    → tariff_in (if k then Some b else o') ≡ tariff_in (if k then Some b else o)
held_behind true b o o' rest = refl
held_behind false b o o' rest = rest

with_its_holder : (held : Bool) (b : Book) (books books' : List Book) (g : ℕ) (k : Bool)
    → tariff_of books' g ≡ tariff_of books g
    → tariff_of (if k then with_hold held b ∷ books else b ∷ books') g ≡ tariff_of (b ∷ books) g
with_its_holder held b books books' g true rest = held_first (nat_eq g b.flow) b held (find (is_book_of g) books)
with_its_holder held b books books' g false rest =
    held_behind (nat_eq g b.flow) b (find (is_book_of g) books) (find (is_book_of g) books') rest

pub tariff_of-held : (books : List Book) (f g : ℕ) (held : Bool)
    → tariff_of (books_with_hold books f held) g ≡ tariff_of books g
unfolding change_first
tariff_of-held [] f g held = refl
tariff_of-held (b ∷ books) f g held =
    with_its_holder held b books (books_with_hold books f held) g (nat_eq f b.flow) (tariff_of-held books f g held)
