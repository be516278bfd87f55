-- The answer to a control line, by rows without their line feeds.
use Rattle.std.specs.Prelude.{Bool, List, ℕ, ◌&&◌, codes, nat_eq, not}
use Rattle.std.specs.List.{starts_with}
use Rattle.std.specs.Str.{bytes_eq}

-- a reply that begins with this row is a refusal
abbrev pub is_refusal : List ℕ → Bool
is_refusal row = starts_with nat_eq row (codes "no ")

-- this row is the last one of a report
abbrev pub is_end : List ℕ → Bool
is_end row = bytes_eq row (codes "end")

-- the reply to this line goes on after this row, its first one
abbrev pub goes_on : List ℕ → List ℕ → Bool
goes_on line row = bytes_eq line (codes "report") && not (is_refusal row) && not (is_end row)
