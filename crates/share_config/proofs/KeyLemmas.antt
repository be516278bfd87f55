-- The keys of a table.
use Rattle.std.proofs.Common.{◌≡◌, ℕ, Bool, true, false, not, List, [], ◌∷◌, Option, Some, None, option_map, String}
use Rattle.std.proofs.Common.{Global, string_bytes, refl, find, Bor, ap, ◌∙◌}
use Rattle.std.proofs.Common.{length}
use Rattle.std.specs.Map.{keys_of}
use Rattle.std.specs.Map.Iter.{TakesFirst, deref}
use Rattle.std.proofs.lemmas.Iterator.{YieldsList}
use Rattle.std.proofs.lemmas.Iterator.Consumers.{YieldsList-from_shown}
use Rattle.toml.specs.View.{members_view}
use Rattle.toml.specs.declared.value.Value.{Value}
use Rattle.share_config.specs.Keys.{is_known}
use Rattle.share_config.specs.declared.key.Location.{Location}
use Rattle.share_config.specs.Reading.{unknown}

abbrev pub bytes_of : String Global → List ℕ
bytes_of s = string_bytes s

abbrev pub lacks : Location → String Global → Bool
lacks p s = not (is_known p (string_bytes s))

first_or : (p : Location) (e : String Global × Value) (es : List (String Global × Value)) (b : Bool)
    → is_known p (string_bytes e.0) ≡ b
    → option_map bytes_of (find (lacks p) (keys_of es)) ≡ unknown p (members_view es)
    → option_map bytes_of (find (lacks p) (keys_of (e ∷ es))) ≡ unknown p (members_view (e ∷ es))
first_or p e es true h rest = rw h rest
first_or p e es false h rest = rw h

-- the first of the keys that a table may not have, by its bytes
unknown_among : (p : Location) (es : List (String Global × Value))
    → option_map bytes_of (find (lacks p) (keys_of es)) ≡ unknown p (members_view es)
unknown_among p [] = refl
unknown_among p (e ∷ es) = first_or p e es (is_known p (string_bytes e.0)) refl (unknown_among p es)

bytes_behind : (r : Option (Bor (String Global)))
    → option_map (λ (k : Bor (String Global)). string_bytes k.now) r ≡ option_map bytes_of (option_map (λ k. k.now) r)
bytes_behind None = refl
bytes_behind (Some k) = refl

pub first_unknown : (p : Location) (es : List (String Global × Value)) (r : Option (Bor (String Global)))
    → option_map (λ k. k.now) r ≡ find (lacks p) (keys_of es)
    → option_map (λ (k : Bor (String Global)). string_bytes k.now) r ≡ unknown p (members_view es)
first_unknown p es r h = bytes_behind r ∙ ap (option_map bytes_of) h ∙ unknown_among p es

-- the keys of a map come one by one
pub keys_come : (ks : List (String Global)) → YieldsList (TakesFirst deref) deref ks ks
keys_come ks =
    YieldsList-from_shown (TakesFirst deref) deref (λ s. s) (λ s t h. ap length h.0) (λ s x t h. h) ks
