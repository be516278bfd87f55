-- The bytes that were written to a writer.
use Rattle.std.specs.Prelude.{ℕ, List, take, Option, option_map, Result, MatchResult}
use Rattle.std.specs.Io.KnownBytes.{Appends}
use Rattle.share_model.specs.declared.writer.Answer.{Answer}
use Rattle.share_model.specs.io.Calls.{Offers, OfferRefused}
use Rattle.share_model.specs.io.Told.{Told}

abbrev pub bytes_told : Option Told → Option (List ℕ)
bytes_told told = option_map (λ (t : Told). t.bytes) told

-- a beginning of these bytes was appended
abbrev pub AppendsPart : Option (List ℕ) → Option (List ℕ) → List ℕ → Type 0
AppendsPart old new bs = (k : ℕ) × Appends old new (take k bs)

-- the text was written, and every offer of it accepted; or a beginning of it was written, and an offer refused
abbrev pub WritesText : {W X E : Type 0} → (W → Option Told) → (W → List ℕ → Answer → W → Type 0) → W → W → List ℕ
    → Result X E → Type 0
WritesText told answers old new text result = MatchResult result
    (λ _. Appends (bytes_told (told old)) (bytes_told (told new)) text × Offers answers old new)
    (λ _. AppendsPart (bytes_told (told old)) (bytes_told (told new)) text × OfferRefused answers old new)
