-- The decimal of a number of two digits.
use Rattle.std.proofs.Common.{◌≡◌, ◌<◌, ◌≤◌, ◌+◌, ◌/◌, ◌%◌, ◌∷◌, ◌++◌, ◌∙◌, ℕ, List, [], ap, arith, sym}
use mathlib.Core.List.{append_assoc}
use Rattle.std.specs.Fmt.{decimal}
use Rattle.std.proofs.lemmas.Fmt.{decimal_digit, decimal_step}

pub decimal_two_digits : (n : ℕ) → 10 ≤ n → n < 100 → decimal n ≡ (48 + n / 10) ∷ (48 + n % 10) ∷ []
decimal_two_digits n low high = decimal_step n low (omega arith)
    ∙ ap (λ ds. ds ++ (48 + n % 10) ∷ []) (decimal_digit (n / 10) (omega arith))

-- the two digits, one after the other
pub pushed_two_digits : (n : ℕ) → 10 ≤ n → n < 100 → (before middle after : List ℕ)
    → middle ≡ before ++ decimal (n / 10) → after ≡ middle ++ decimal (n % 10) → after ≡ before ++ decimal n
pushed_two_digits n low high before middle after first second =
    second ∙ ap (λ ds. ds ++ decimal (n % 10)) first ∙ append_assoc before (decimal (n / 10)) (decimal (n % 10))
    ∙ ap (λ ds. before ++ ds) (ap (λ ds. decimal (n / 10) ++ ds) (decimal_digit (n % 10) (omega arith))
    ∙ sym (decimal_step n low (omega arith)))
