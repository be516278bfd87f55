-- The names of currencies and flows.
use Rattle.std.specs.Prelude.{ℕ, Bool, ◌&&◌, ◌||◌, ◌==◌, ◌-◌, List, ◌++◌, length, slice_index, nat_le, replicate}
use Rattle.std.specs.List.{list_all}

abbrev pub is_letter : ℕ → Bool
is_letter b = nat_le 97 b && nat_le b 122

-- a to z, 0 to 9, `_` or `-`
abbrev pub is_name_byte : ℕ → Bool
is_name_byte b = is_letter b || (nat_le 48 b && nat_le b 57) || b == 95 || b == 45

-- a letter, and then at most 15 more letters, digits, `_` or `-`
abbrev pub is_name : List ℕ → Bool
is_name bs = is_letter (slice_index bs 0) && nat_le (length bs) 16 && list_all is_name_byte bs

-- the 16 bytes that hold a name: its own, and then zeros
abbrev pub sixteen_bytes_of : List ℕ → List ℕ
sixteen_bytes_of bs = bs ++ replicate (16 - length bs) 0
