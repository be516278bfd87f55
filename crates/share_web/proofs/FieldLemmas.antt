-- Fields as they are parsed, and as the grammar has them.
use Rattle.std.proofs.Common.{◌≡◌, ℕ, ◌+◌, ◌||◌, Bool, List, [], ◌∷◌, map, fold, refl, ap}
use Rattle.std.specs.Prelude.{count_by, cond}
use Rattle.std.specs.List.{list_any}

pub list_any-map : {X Y : Type 0} (p : Y → Bool) (f : X → Y) (xs : List X)
    → list_any p (map f xs) ≡ list_any (λ x. p (f x)) xs
list_any-map p f [] = refl
list_any-map p f (x ∷ xs) = ap (λ b. p (f x) || b) (list_any-map p f xs)

counted : {X Y : Type 0} (p : Y → Bool) (f : X → Y) (xs : List X) (before : ℕ)
    → fold (λ (n : ℕ) y. n + cond (p y) 1 0) before (map f xs) ≡ fold (λ (n : ℕ) x. n + cond (p (f x)) 1 0) before xs
counted p f [] before = refl
counted p f (x ∷ xs) before = counted p f xs (before + cond (p (f x)) 1 0)

pub count_by-map : {X Y : Type 0} (p : Y → Bool) (f : X → Y) (xs : List X)
    → count_by p (map f xs) ≡ count_by (λ x. p (f x)) xs
count_by-map p f xs = counted p f xs 0
