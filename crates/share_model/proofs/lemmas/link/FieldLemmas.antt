-- The bound that the type of bytes gives a field.
use Rattle.std.specs.Prelude.{◌≡◌, ℕ, suc, true, List, [], ◌∷◌, get_or, refl}
use Rattle.std.specs.List.{list_all}
use Rattle.std.proofs.Common.{Fits, w8, arith}
use Rattle.std.proofs.lemmas.Bool.Decides.{nat_tests}
use Rattle.share_model.specs.link.Fields.{is_byte}

is_byte-small : (b : ℕ) → Fits w8 b → is_byte b ≡ true
is_byte-small b small = grind (arith, nat_tests)

-- numbers of eight bits each are bytes
pub all_bytes : (bs : List ℕ) → ((i : ℕ) → Fits w8 (get_or bs i 0)) → list_all is_byte bs ≡ true
all_bytes [] fits = refl
all_bytes (b ∷ bs) fits = rw (is_byte-small b (fits 0), all_bytes bs (λ i. fits (suc i))) refl
