-- Objects and arrays of JSON from lists, and their tokens.
use Rattle.std.specs.Prelude.{ℕ, List, [], ◌∷◌, decimal, flat_map}
use Rattle.std.specs.Borrow.{Bor}
use Rattle.json.specs.Json.{Json, array, object, Members, no_members, member}
use Rattle.json.specs.Token as token
use Rattle.json.specs.Token.{Token}
use Rattle.json.specs.Tree.{json_tokens}
use Rattle.json.specs.Value.{items_of}

-- the members of these names and values, in order
abbrev pub members_of : List (List ℕ × Json) → Members
members_of [] = no_members
members_of (m ∷ ms) = member m.0 m.1 (members_of ms)

abbrev pub object_of : List (List ℕ × Json) → Json
object_of ms = object (members_of ms)

abbrev pub array_of : List Json → Json
array_of values = array (items_of values)

-- the tokens of a member
abbrev pub member_tokens : List ℕ × Json → List Token
member_tokens m = token.key m.0 ∷ json_tokens m.1

-- the tokens of members, without the brackets round them
abbrev pub all_member_tokens : List (List ℕ × Json) → List Token
all_member_tokens ms = flat_map member_tokens ms

-- a member that is a number, by its name and the number
abbrev pub number_member : Bor (List ℕ) × ℕ → List Token
number_member m = token.key m.0.now ∷ token.number (decimal m.1) ∷ []
