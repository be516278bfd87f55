-- The fields of a head: pairs of a name and a value without the white space around it.
use Rattle.std.specs.Prelude.{ℕ, List, Bool, ◌&&◌, ◌||◌, ◌-◌, codes, count_by, length, map, nat_eq, take}
use Rattle.std.specs.Char.{to_ascii_lowercase}
use Rattle.std.specs.List.{ends_with, list_any, starts_with}
use Rattle.std.specs.Str.{bytes_eq}

abbrev pub Fields : Type 0
Fields = List (List ℕ × List ℕ)

abbrev pub is_same_name : List ℕ → List ℕ → Bool
is_same_name a b = bytes_eq (map to_ascii_lowercase a) (map to_ascii_lowercase b)

-- a field of this name, in large or small letters
abbrev pub is_named : List ℕ → List ℕ × List ℕ → Bool
is_named name field = is_same_name field.0 name

-- the number of fields that have this name
abbrev pub count_named : List ℕ → Fields → ℕ
count_named name fields = count_by (is_named name) fields

-- an address, or the same without the port of HTTP
abbrev pub is_at : List ℕ → List ℕ → Bool
is_at address host =
    bytes_eq host address
    || (ends_with nat_eq address (codes ":80") && bytes_eq host (take (length address - 3) address))

-- a field is a Host that is this address
abbrev pub is_host_at : List ℕ → List ℕ × List ℕ → Bool
is_host_at address field = is_named (codes "host") field && is_at address field.1

-- some field is
abbrev pub has_host_at : List ℕ → Fields → Bool
has_host_at address fields = list_any (is_host_at address) fields

-- a field asks for OpenMetrics before all else
abbrev pub accepts_open_metrics : List ℕ × List ℕ → Bool
accepts_open_metrics field =
    is_named (codes "accept") field && starts_with nat_eq field.1 (codes "application/openmetrics-text")

-- some field does
abbrev pub wants_open_metrics : Fields → Bool
wants_open_metrics fields = list_any accepts_open_metrics fields
