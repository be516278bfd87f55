-- The values of hexadecimal digits, and a word that is decoded up to a place.
use Rattle.std.specs.Prelude.{◌≡◌, ◌<◌, ◌*◌, ◌++◌, ℕ, List, None, take, drop, if◌then◌else◌}
use Rattle.share_model.specs.text.Lines.{is_hex_digit, hex_value, is_pairs, from_pairs, payload_of}

-- the value of a digit, and 255 for any other byte
abbrev pub value_or_255 : ℕ → ℕ
value_or_255 c = if is_hex_digit c then hex_value c else 255

-- the digits from a place on are as good as all of them, and the bytes before it are in the buffer
pub record DecodedUpTo (w bytes : List ℕ) (place : ℕ) : Type 0 where
  pub pairs : is_pairs w ≡ is_pairs (drop (2 * place) w)
  pub decoded : from_pairs w ≡ take place bytes ++ from_pairs (drop (2 * place) w)

-- the digits before a place are decoded, if the greatest of their values is one of a digit; otherwise the word is no
-- payload
pub record DecodesUpTo (w bytes : List ℕ) (place greatest : ℕ) : Type 0 where
  pub good : greatest < 16 → DecodedUpTo w bytes place
  pub bad : 15 < greatest → payload_of w ≡ None
