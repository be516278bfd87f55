-- Every other byte of a vector.
use Rattle.std.proofs.Common.{◌≡◌, ◌<◌, ◌≤◌, ◌+◌, ◌*◌, ◌++◌, ◌∙◌, ℕ, List, length, take, drop, get_or, map, ap, arith}
use Rattle.std.specs.List.{range_with_len}
use Rattle.std.proofs.lemmas.List.{get_or_append_left}
use Rattle.std.proofs.lemmas.List.FromFn.{get_or-map-range_with_len}
use Rattle.std.proofs.lemmas.Simd.{length-chunk, get_or-chunk}

-- the lanes from which a swizzle picks: those of a vector that is loaded from a place on, and the same again
abbrev pub lanes : List ℕ → ℕ → List ℕ
lanes w at = take 32 (drop at w) ++ take 32 (drop at w)

lane : (w : List ℕ) (at n : ℕ) → at + 32 ≤ length w → n < 32 → get_or (lanes w at) n 0 ≡ get_or w (at + n) 0
lane w at n long few =
    let size = length-chunk at 32 w long in
    get_or_append_left (take 32 (drop at w)) (take 32 (drop at w)) 0 n (omega (arith, size))
    ∙ get_or-chunk at 32 w n 0 few

every_other : (w : List ℕ) (at odd k : ℕ) → 2 * at + 32 ≤ length w → odd < 2 → k < 16
    → get_or (map (λ j. get_or (lanes w (2 * at)) (2 * j + odd) 0) (range_with_len 0 16)) k 0
    ≡ get_or w (2 * (at + k) + odd) 0
every_other w at odd k long bit few =
    let there : 2 * at + (2 * k + odd) ≡ 2 * (at + k) + odd = omega arith in
    get_or-map-range_with_len (λ j. get_or (lanes w (2 * at)) (2 * j + odd) 0) 0 16 k k 0 few (omega arith)
    ∙ lane w (2 * at) (2 * k + odd) long (omega arith) ∙ ap (λ i. get_or w i 0) there

pub even_lanes : (w : List ℕ) (at k : ℕ) → 2 * at + 32 ≤ length w → k < 16
    → get_or (map (λ j. get_or (lanes w (2 * at)) (2 * j) 0) (range_with_len 0 16)) k 0 ≡ get_or w (2 * (at + k)) 0
even_lanes w at k long few =
    let there : 2 * (at + k) + 0 ≡ 2 * (at + k) = omega arith in
    every_other w at 0 k long (omega arith) few ∙ ap (λ i. get_or w i 0) there

pub odd_lanes : (w : List ℕ) (at k : ℕ) → 2 * at + 32 ≤ length w → k < 16
    → get_or (map (λ j. get_or (lanes w (2 * at)) (2 * j + 1) 0) (range_with_len 0 16)) k 0
    ≡ get_or w (2 * (at + k) + 1) 0
odd_lanes w at k long few = every_other w at 1 k long (omega arith) few
