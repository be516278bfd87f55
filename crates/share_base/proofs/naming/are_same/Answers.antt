use Rattle.std.proofs.Common.{◌≡◌, ◌<◌, ◌∙◌, ◌&&◌, ◌+◌, ℕ, zero, suc, List, [], ◌∷◌, length, take, get_or, nat_eq, ap}
use Rattle.std.proofs.Common.{sym, arith}
use Rattle.std.proofs.Math.Bool.{and-true, and_assoc}
use Rattle.std.specs.Cmp.Lexicographic.{pointwise}
use Rattle.share_base.proofs.naming.are_same.Goals as goal

-- one more byte of each
pointwise-more : (xs ys : List ℕ) (n : ℕ) → n < length xs → n < length ys
    → pointwise nat_eq (take (suc n) xs) (take (suc n) ys)
    ≡ (pointwise nat_eq (take n xs) (take n ys) && nat_eq (get_or xs n 0) (get_or ys n 0))
pointwise-more [] ys n inside room = absurd (omega arith)
pointwise-more (x ∷ xs) [] n inside room = absurd (omega arith)
pointwise-more (x ∷ xs) (y ∷ ys) zero inside room = and-true (nat_eq x y)
pointwise-more (x ∷ xs) (y ∷ ys) (suc n) inside room =
    ap (λ b. nat_eq x y && b) (pointwise-more xs ys n (omega arith) (omega arith))
    ∙ sym (and_assoc (nat_eq x y) (pointwise nat_eq (take n xs) (take n ys)) (nat_eq (get_or xs n 0) (get_or ys n 0)))

pub loop-place-preserved : goal.loop-place-preserved
loop-place-preserved c =
    let n = c.loop-place.place in
    let xs = c.args.bytes.now in
    let ys = c.args.others.now in
    let inside = c.loop-place-test.true in
    let more : suc n ≡ n + 1 = omega arith in
    ap (λ b. b && nat_eq (get_or xs n 0) (get_or ys n 0)) c.loop-place.invariant
    ∙ sym (pointwise-more xs ys n (omega (arith, inside, c.type_inv.bytes)) (omega (arith, inside, c.type_inv.others)))
    ∙ ap (λ k. pointwise nat_eq (take k xs) (take k ys)) more
