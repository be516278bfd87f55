-- The line of a packet in a text of lengths, which names the length of a payload in bytes, and none of them.
use Rattle.std.specs.Prelude.{ℕ, List, [], ◌∷◌, ◌++◌, Option, None, Some, codes, decimal}
use Rattle.std.specs.List.{join_with_byte}
use Rattle.share_model.specs.text.Lines.{field, name_of, number_of}
use Rattle.share_text.specs.Words.{last}
use Rattle.share_text.specs.declared.lengths.Length.{Length}

abbrev pub length_words : List ℕ → ℕ → List (List ℕ)
length_words flow count = codes "send" ∷ flow ∷ decimal count ∷ []

-- the line and its line feed
abbrev pub length_line : List ℕ → ℕ → List ℕ
length_line flow count = join_with_byte 32 (length_words flow count) ++ codes "\n"

abbrev pub length_for : List ℕ → Option ℕ → Option Length
length_for flow None = None
length_for flow (Some count) = Some record { flow = flow; count = count }

abbrev pub length_by : Option (List ℕ × List (List ℕ)) → Option Length
length_by None = None
length_by (Some name) = length_for name.0 (last number_of name.1)

-- the packet of a line whose words after `send` are a name and a number
abbrev pub length_of : List (List ℕ) → Option Length
length_of ws = length_by (field name_of ws)
