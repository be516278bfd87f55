-- The text of a line.
use Rattle.std.specs.Prelude.{ℕ, List, ◌++◌, Option, None, Some, codes, decimal, map, encode_utf8_all, if◌then◌else◌}
use Rattle.std.specs.Char.{is_control}
use Rattle.std.specs.Str.{chars}
use Rattle.share_catalog.specs.Times.{time_text}
use Rattle.share_catalog.specs.declared.time.Time.{Time}
use Rattle.share_messages.specs.Kinds.{word_of}
use Rattle.share_messages.specs.declared.kind.Kind.{Kind}

-- the time, or a hyphen if there is none
abbrev pub time_word : Option Time → List ℕ
time_word None = codes "-"
time_word (Some time) = time_text time

-- the name of the tenant, or a hyphen if there is none
abbrev pub tenant_word : Option (List ℕ) → List ℕ
tenant_word None = codes "-"
tenant_word (Some name) = name

-- a character of a reason as it is shown: a question mark stands for a control character, a line feed among them
abbrev pub shown_char : ℕ → ℕ
shown_char c = if is_control c then 63 else c

unfoldable pub shown_text : List ℕ → List ℕ
shown_text why = encode_utf8_all (map shown_char (chars why))

abbrev pub head_text : Option Time → Kind → List ℕ
head_text time kind = time_word time ++ codes " " ++ word_of kind ++ codes " "

abbrev pub rest_text : Option (List ℕ) → List ℕ → List ℕ
rest_text tenant why = tenant_word tenant ++ codes " " ++ shown_text why ++ codes "\n"

-- the time, what it is about, the tenant and the reason, with a space between two, and a line feed
unfoldable pub line_text : Option Time → Kind → Option (List ℕ) → List ℕ → List ℕ
line_text time kind tenant why = head_text time kind ++ rest_text tenant why

-- the number of lines of a kind that were left out
abbrev pub left_out_text : ℕ → List ℕ
left_out_text count = codes "lines left out: " ++ decimal count
