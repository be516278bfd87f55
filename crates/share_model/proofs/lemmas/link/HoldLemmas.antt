-- The flows that are held after a book was opened, posted, held or closed.
use Rattle.std.specs.Prelude.{◌≡◌, ℕ, Bool, true, false, List, [], ◌∷◌, ◌++◌, find, nat_eq, Option, None, Some}
use Rattle.std.specs.Prelude.{option_map}
use Rattle.std.specs.Prelude.{is_some, if◌then◌else◌}
use Rattle.std.specs.Set.{remove_key}
use Rattle.std.proofs.Common.{refl, ap, sym, ◌∙◌}
use Rattle.std.proofs.lemmas.Bool.{eqb-true}
use Rattle.share_model.specs.declared.link.Book.{Book}
use Rattle.share_model.specs.declared.rates.Rate.{Rate}
use Rattle.share_model.specs.link.Books.{new_book, is_book_of, is_held_by, is_held, with_hold, books_with_hold}
use Rattle.share_model.specs.link.Books.{with_units, books_with_units}
use Rattle.share_model.specs.lists.Change.{change_first}
use Rattle.share_model.proofs.lemmas.lists.FirstItemLemmas.{find-change_first, find-change_first_other}
use Rattle.share_model.proofs.lemmas.lists.RemovalLemmas.{find-remove_other, other_way}

held_behind : (k : Bool) (b : Book) (o o' : Option Book) → is_held_by o' ≡ is_held_by o
    → is_held_by (if k then Some b else o') ≡ is_held_by (if k then Some b else o)
held_behind true b o o' rest = refl
held_behind false b o o' rest = rest

new_is_free : (k : Bool) (f tariff : ℕ) → is_held_by (if k then Some (new_book f tariff) else None) ≡ false
new_is_free true f tariff = refl
new_is_free false f tariff = refl

-- a new flow is not held
pub is_held-opened : (books : List Book) (f tariff g : ℕ)
    → is_held (books ++ new_book f tariff ∷ []) g ≡ is_held books g
is_held-opened [] f tariff g = new_is_free (nat_eq g f) f tariff
is_held-opened (b ∷ books) f tariff g =
    held_behind (nat_eq g b.flow) b (find (is_book_of g) books)
    (find (is_book_of g) (books ++ new_book f tariff ∷ [])) (is_held-opened books f tariff g)

-- another flow stays as it was
pub is_held-with_hold_other : (books : List Book) (f g : ℕ) (held : Bool) → nat_eq f g ≡ false
    → is_held (books_with_hold books f held) g ≡ is_held books g
is_held-with_hold_other books f g held apart =
    ap is_held_by (find-change_first_other (is_book_of f) (is_book_of g) (with_hold held)
    (λ b own. (differs b own, differs b own)) books)
  where
    differs : (b : Book) → is_book_of f b ≡ true → is_book_of g b ≡ false
    differs b own = ap (nat_eq g) (sym (eqb-true f b.flow own)) ∙ other_way f g apart

account_by : (held : Bool) (b : Book) (books books' : List Book) (f : ℕ) (k : Bool)
    → option_map (λ b. b.account) (find (is_book_of f) books')
    ≡ option_map (λ b. b.account) (find (is_book_of f) books)
    → option_map (λ b. b.account) (find (is_book_of f) (if k then with_hold held b ∷ books else b ∷ books'))
    ≡ option_map (λ b. b.account) (find (is_book_of f) (b ∷ books))
account_by held b books books' f true rest = by_flow (nat_eq f b.flow)
  where
    by_flow : (k : Bool)
        → option_map (λ b. b.account) (if k then Some (with_hold held b) else find (is_book_of f) books)
        ≡ option_map (λ b. b.account) (if k then Some b else find (is_book_of f) books)
    by_flow true = refl
    by_flow false = refl
account_by held b books books' f false rest = by_flow (nat_eq f b.flow)
  where
    by_flow : (k : Bool)
        → option_map (λ b. b.account) (if k then Some b else find (is_book_of f) books')
        ≡ option_map (λ b. b.account) (if k then Some b else find (is_book_of f) books)
    by_flow true = refl
    by_flow false = rest

-- a hold changes no account
pub account-with_hold : (books : List Book) (g f : ℕ) (held : Bool)
    → option_map (λ b. b.account) (find (is_book_of f) (books_with_hold books g held))
    ≡ option_map (λ b. b.account) (find (is_book_of f) books)
unfolding change_first
account-with_hold [] g f held = refl
account-with_hold (b ∷ books) g f held =
    account_by held b books (books_with_hold books g held) f (nat_eq g b.flow) (account-with_hold books g f held)

held_as : (held : Bool) (o : Option Book) → is_some o ≡ true → is_held_by (option_map (with_hold held) o) ≡ held
held_as held None there = cc
held_as held (Some b) there = refl

-- the flow itself is held, or its hold ends
pub is_held-with_hold : (books : List Book) (f : ℕ) (held : Bool) → is_some (find (is_book_of f) books) ≡ true
    → is_held (books_with_hold books f held) f ≡ held
is_held-with_hold books f held there =
    ap is_held_by (find-change_first (is_book_of f) (with_hold held) (λ b own. own) books)
    ∙ held_as held (find (is_book_of f) books) there

posted_as : (rates : List Rate) (units : ℕ) (b : Book) (books books' : List Book) (g : ℕ) (k : Bool)
    → is_held books' g ≡ is_held books g
    → is_held (if k then with_units rates units b ∷ books else b ∷ books') g ≡ is_held (b ∷ books) g
posted_as rates units b books books' g true rest = posted_head (nat_eq g b.flow)
  where
    posted_head : (k : Bool)
        → is_held_by (if k then Some (with_units rates units b) else find (is_book_of g) books)
        ≡ is_held_by (if k then Some b else find (is_book_of g) books)
    posted_head true = refl
    posted_head false = refl
posted_as rates units b books books' g false rest =
    held_behind (nat_eq g b.flow) b (find (is_book_of g) books) (find (is_book_of g) books') rest

-- a posting changes no hold
pub is_held-posted : (rates : List Rate) (books : List Book) (f units g : ℕ)
    → is_held (books_with_units rates books f units) g ≡ is_held books g
unfolding change_first
is_held-posted rates [] f units g = refl
is_held-posted rates (b ∷ books) f units g =
    posted_as rates units b books (books_with_units rates books f units) g (nat_eq f b.flow)
    (is_held-posted rates books f units g)

-- and a flow that is closed leaves the others as they were
pub is_held-closed_other : (books : List Book) (f g : ℕ) → nat_eq f g ≡ false
    → is_held (remove_key (is_book_of f) books) g ≡ is_held books g
is_held-closed_other books f g apart =
    ap is_held_by (find-remove_other (λ (b : Book). b.flow) f g (other_way f g apart) books)
