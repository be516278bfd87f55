-- The head of a request, as its bytes come.
use Rattle.std.specs.Prelude.{ℕ, List, [], ◌∷◌, ◌++◌, ◌||◌, Bool, codes, length, nat_eq, nat_le, if◌then◌else◌}
use Rattle.std.specs.List.{ends_with}

-- the bytes end with an empty line, whose line ends are CR LF or LF
abbrev pub is_ended : List ℕ → Bool
is_ended bytes = ends_with nat_eq bytes (codes "\n\r\n") || ends_with nat_eq bytes (codes "\n\n")

-- no more bytes are taken
abbrev pub is_over : List ℕ → Bool
is_over head = nat_le 8192 (length head) || is_ended head

abbrev pub with_byte : List ℕ → ℕ → List ℕ
with_byte head b = if is_over head then head else head ++ b ∷ []

-- the head after these bytes have come
unfoldable pub taken : List ℕ → List ℕ → List ℕ
taken head [] = head
taken head (b ∷ bytes) = taken (with_byte head b) bytes
