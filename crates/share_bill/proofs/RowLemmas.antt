-- The entries of a list that grows by one value of a map.
use Rattle.std.proofs.Common.{◌≡◌, ℕ, ◌+◌, ◌<◌, List, [], ◌∷◌, ◌++◌, length, map, take, get_or, sym, ap, ◌∙◌}
use Rattle.std.proofs.lemmas.List.{take_more, map_push}

-- the values of the first places, and that of the next, are those of one place more
pub values-more : {X Y : Type 0} (f : X → Y) (xs : List X) (i : ℕ) (d : X) (ys after : List Y) → i < length xs
    → ys ≡ map f (take i xs) → after ≡ ys ++ f (get_or xs i d) ∷ [] → after ≡ map f (take (i + 1) xs)
values-more f xs i d ys after more same pushed =
    pushed
    ∙ ap (λ zs. zs ++ f (get_or xs i d) ∷ []) same
    ∙ sym (map_push f (take i xs) (get_or xs i d))
    ∙ ap (map f) (sym (take_more xs i d more))
