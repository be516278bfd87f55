-- Values of a table, by their keys, and what is wrong with them.
use Rattle.std.specs.Prelude.{ℕ, ◌&&◌, ◌+◌, pos, negsuc, Bool, not, List, [], ◌∷◌, nat_le, Option, None, Some}
use Rattle.std.specs.Prelude.{Result, Ok, Err, if◌then◌else◌, find}
use Rattle.toml.specs.Data.{Data, string, integer, boolean, array, table, Items, no_items, item, Members, no_members}
use Rattle.toml.specs.Data.{member, get_member}
use Rattle.share_config.specs.Keys.{spelling, is_known}
use Rattle.share_config.specs.declared.key.Key.{Key}
use Rattle.share_config.specs.declared.key.Location.{Location}
use Rattle.share_config.specs.declared.fault.Reason.{Reason}
use Rattle.share_config.specs.declared.fault.Reason.TheVariants as reason
use Rattle.share_config.specs.declared.fault.ConfigFault.{ConfigFault}
use Rattle.share_config.specs.declared.fault.ConfigFault.TheVariants.{Unknown, Wrong}

-- the settings of a file, or its fault
abbrev pub Said : Type 0 → Type 0
Said A = Result A ConfigFault

infixl 10 ◌>>=◌
abbrev pub ◌>>=◌ : {A B : Type 0} → Said A → (A → Said B) → Said B
Ok a >>= f = f a
Err e >>= f = Err e

abbrev pub wrong : {A : Type 0} → Location → Key → Reason → Said A
wrong p k r = Err (Wrong p k r)

-- the meaning of a text, if it has one
abbrev pub found : {A : Type 0} → Location → Key → Reason → Option A → Said A
found p k r None = wrong p k r
found p k r (Some a) = Ok a

-- ---- Values

abbrev pub text_in : Location → Key → Data → Said (List ℕ)
text_in p k (string s) = Ok s
text_in p k _ = wrong p k reason.NotText

abbrev pub number_in : ℕ → ℕ → Location → Key → Data → Said ℕ
number_in least most p k (integer (pos n)) =
    if nat_le least n && nat_le n most then Ok n else wrong p k (reason.Range least most)
number_in least most p k (integer (negsuc n)) = wrong p k (reason.Range least most)
number_in least most p k _ = wrong p k reason.NotInteger

abbrev pub boolean_in : Location → Key → Data → Said Bool
boolean_in p k (boolean b) = Ok b
boolean_in p k _ = wrong p k reason.NotBoolean

abbrev pub array_in : Location → Key → Data → Said Items
array_in p k (array ds) = Ok ds
array_in p k _ = wrong p k reason.NotArray

abbrev pub table_in : Location → Key → Data → Said Members
table_in p k (table ms) = Ok ms
table_in p k _ = wrong p k reason.NotTable

-- ---- Keys

-- a value that a table needs, and one that it may have
abbrev pub needed_in : {A : Type 0} → (Location → Key → Data → Said A) → Location → Key → Option Data → Said A
needed_in read p k None = wrong p k reason.Missing
needed_in read p k (Some d) = read p k d

abbrev pub needed : {A : Type 0} → (Location → Key → Data → Said A) → Location → Key → Members → Said A
needed read p k ms = needed_in read p k (get_member (spelling k) ms)

abbrev pub optional_in : {A : Type 0} → (Location → Key → Data → Said A) → A → Location → Key → Option Data → Said A
optional_in read default p k None = Ok default
optional_in read default p k (Some d) = read p k d

abbrev pub optional : {A : Type 0} → (Location → Key → Data → Said A) → A → Location → Key → Members → Said A
optional read default p k ms = optional_in read default p k (get_member (spelling k) ms)

abbrev pub keys_in : Members → List (List ℕ)
keys_in no_members = []
keys_in (member k d ms) = k ∷ keys_in ms

-- the first key that a table may not have
abbrev pub unknown : Location → Members → Option (List ℕ)
unknown p ms = find (λ k. not (is_known p k)) (keys_in ms)

abbrev pub known_by : Location → Option (List ℕ) → Members → Said Members
known_by p None ms = Ok ms
known_by p (Some k) ms = Err (Unknown p k)

-- the members of a table, all of whose keys it may have
abbrev pub known : Location → Members → Said Members
known p ms = known_by p (unknown p ms) ms

-- ---- Lists

-- the meaning of each item, with the items numbered from n; or the fault of the first that has one
abbrev pub each : {A : Type 0} → (ℕ → Data → Said A) → ℕ → Items → Said (List A)
each read n no_items = Ok []
each read n (item d ds) = do
  a ← read n d
  rest ← each read (n + 1) ds
  Ok (a ∷ rest)
