-- Bytes that are written in pieces.
use Rattle.std.proofs.Common.{◌≡◌, ◌≤◌, ◌+◌, ◌-◌, ℕ, List, ◌++◌, ◌∙◌, ap, sym, arith, length, take, drop, append_assoc}
use Rattle.std.proofs.Math.Seq.{take-add}
use Rattle.std.proofs.lemmas.List.{length-drop, take_all}

-- the next piece is after the bytes that are written
pub piece-appended : (before bytes : List ℕ) (done count : ℕ)
    → (before ++ take done bytes) ++ take count (take (length bytes - done) (drop done bytes))
    ≡ before ++ take (done + count) bytes
piece-appended before bytes done count =
    let rest = drop done bytes in
    let whole : take (length bytes - done) rest ≡ rest
    = take_all (length bytes - done) rest (omega (arith, length-drop done bytes)) in
    append_assoc before (take done bytes) (take count (take (length bytes - done) rest))
    ∙ ap (λ piece. before ++ (take done bytes ++ take count piece)) whole
    ∙ ap (λ first. before ++ first) (sym (take-add done count bytes))
