-- Bytes, and the numbers that are read in them.
use Rattle.std.specs.Prelude.{◌≡◌, ◌<◌, ◌≤◌, ◌+◌, ℕ, true, List, [], ◌∷◌, length, take, drop}
use Rattle.std.specs.List.{list_all}
use Rattle.std.specs.Int.{from_be_bytes, w16, w32, w64}
use Rattle.std.proofs.Common.{◌∙◌, refl, sym, ap, suc, get_or, Fits, w8, zero, replicate, arith}
use Rattle.std.proofs.lemmas.Bool.Decides.{nat_tests}
use Rattle.std.proofs.lemmas.List.{drop_more}
use Rattle.share_model.specs.link.Fields.{is_byte}

abbrev pub AreBytes : List ℕ → Type 0
AreBytes x = (i : ℕ) → get_or x i 0 < 256

pub are_bytes : (x : List ℕ) → ((i : ℕ) → Fits w8 (get_or x i 0)) → AreBytes x
are_bytes x fits i = omega (arith, fits i)

pub bytes-take : (n : ℕ) (x : List ℕ) → AreBytes x → AreBytes (take n x)
bytes-take zero x bytes i = omega arith
bytes-take (suc n) [] bytes i = omega arith
bytes-take (suc n) (a ∷ x) bytes zero = bytes 0
bytes-take (suc n) (a ∷ x) bytes (suc i) = bytes-take n x (λ j. bytes (suc j)) i

pub bytes-drop : (n : ℕ) (x : List ℕ) → AreBytes x → AreBytes (drop n x)
bytes-drop zero x bytes i = bytes i
bytes-drop (suc n) [] bytes i = omega arith
bytes-drop (suc n) (a ∷ x) bytes i = bytes-drop n x (λ j. bytes (suc j)) i

is_byte-small : (b : ℕ) → b < 256 → is_byte b ≡ true
is_byte-small b small = grind (arith, nat_tests)

pub all_bytes : (x : List ℕ) → AreBytes x → list_all is_byte x ≡ true
all_bytes [] bytes = refl
all_bytes (b ∷ x) bytes = rw (is_byte-small b (bytes 0), all_bytes x (λ i. bytes (suc i))) refl

pub zeros-bytes : (n : ℕ) → list_all is_byte (replicate n 0) ≡ true
zeros-bytes zero = refl
zeros-bytes (suc n) = zeros-bytes n

-- Numbers of the same bytes

pub two_same : (a b p q : ℕ) → a ≡ p → b ≡ q → from_be_bytes w16 (a ∷ b ∷ []) ≡ from_be_bytes w16 (p ∷ q ∷ [])
two_same a b p q e f = rw (e, f) refl

pub four_same : (a b c d p q r s : ℕ) → a ≡ p → b ≡ q → c ≡ r → d ≡ s
    → from_be_bytes w32 (a ∷ b ∷ c ∷ d ∷ []) ≡ from_be_bytes w32 (p ∷ q ∷ r ∷ s ∷ [])
four_same a b c d p q r s e f g h = rw (e, f, g, h) refl

pub eight_same : (a b c d e f g h i j k l m n o p : ℕ) → a ≡ i → b ≡ j → c ≡ k → d ≡ l → e ≡ m → f ≡ n → g ≡ o → h ≡ p
    → from_be_bytes w64 (a ∷ b ∷ c ∷ d ∷ e ∷ f ∷ g ∷ h ∷ [])
    ≡ from_be_bytes w64 (i ∷ j ∷ k ∷ l ∷ m ∷ n ∷ o ∷ p ∷ [])
eight_same a b c d e f g h i j k l m n o p q r s t u v w x = rw (q, r, s, t, u, v, w, x) refl

-- Bytes by their places

-- n of them from the k-th on
unfoldable pub bytes_from : ℕ → ℕ → List ℕ → List ℕ
bytes_from k zero x = []
bytes_from k (suc n) x = get_or x k 0 ∷ bytes_from (k + 1) n x

pub bytes_from-bytes : (k n : ℕ) (x : List ℕ) → AreBytes x → AreBytes (bytes_from k n x)
unfolding bytes_from
bytes_from-bytes k zero x bytes i = omega arith
bytes_from-bytes k (suc n) x bytes zero = bytes k
bytes_from-bytes k (suc n) x bytes (suc i) = bytes_from-bytes (k + 1) n x bytes i

pub bytes_from-take : (k n : ℕ) (x : List ℕ) → k + n ≤ length x → bytes_from k n x ≡ take n (drop k x)
unfolding bytes_from
bytes_from-take k zero x long = refl
bytes_from-take k (suc n) x long =
    ap (λ (l : List ℕ). get_or x k 0 ∷ l) (bytes_from-take (k + 1) n x (omega arith))
    ∙ ap (take (suc n)) (sym (drop_more x k 0 (omega arith)))
