-- Counts in bytes: a byte below 255 begins a count, and each byte of 255 right after it adds 255 to it.
use Rattle.std.specs.Prelude.{ℕ, ◌+◌, ◌*◌, List, [], ◌∷◌, nat_eq, if◌then◌else◌}
use Rattle.std.specs.List.{prefix_len}

-- the counts in the bytes
abbrev pub counts_in : List ℕ → List ℕ
counts_in [] = []
counts_in (b ∷ bs) =
    if nat_eq b 255 then counts_in bs else (b + 255 * prefix_len (λ c. nat_eq c 255) bs) ∷ counts_in bs
