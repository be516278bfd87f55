-- The reports of a writer on the bytes that it was offered.
use Rattle.std.specs.Prelude.{◌≡◌, ◌≤◌, ℕ, List, [], ◌∷◌, ◌++◌, length, take, Option, option_map, ⊤}
use Rattle.std.specs.Io.KnownBytes.{Appends, Keeps}
use Rattle.share_model.specs.declared.writer.Answer.{Answer}
use Rattle.share_model.specs.declared.writer.Answer.TheVariants.{Accepted, Interrupted, Failed}

-- the bytes that a writer holds, and the count of each call that it accepted
pub record Told : Type 0 where
  pub bytes : List ℕ
  pub counts : List ℕ

-- the first k bytes of a piece were accepted in one call
abbrev pub with_first : Told → List ℕ → ℕ → Told
with_first t piece k = record { bytes = t.bytes ++ take k piece; counts = t.counts ++ k ∷ [] }

-- an accepted count appends as many bytes of the piece, and itself to the counts; other answers append nothing
abbrev pub WasTold : Option Told → List ℕ → Answer → Option Told → Type 0
WasTold before piece (Accepted k) after = (k ≤ length piece) × (after ≡ option_map (λ t. with_first t piece k) before)
WasTold before piece Interrupted after = after ≡ before
WasTold before piece Failed after = after ≡ before

-- no more was accepted than was offered
abbrev pub Fits : List ℕ → Answer → Type 0
Fits piece (Accepted k) = k ≤ length piece
Fits piece Interrupted = ⊤
Fits piece Failed = ⊤

-- a writer over memory accepts the whole piece, or fails and stays as it was
abbrev pub TapeAnswers : Told → List ℕ → Answer → Told → Type 0
TapeAnswers before piece (Accepted k) after = (k ≡ length piece) × (after ≡ with_first before piece k)
TapeAnswers before piece Interrupted after = ⊥
TapeAnswers before piece Failed after = after ≡ before

-- a writer of std accepts no more than it is offered; the bytes that it holds, if they are known, grow by what was
-- accepted
abbrev pub PlainAnswers : Option (List ℕ) → List ℕ → Answer → Option (List ℕ) → Type 0
PlainAnswers old piece (Accepted k) new = (k ≤ length piece) × Appends old new (take k piece)
PlainAnswers old piece Interrupted new = Keeps old new
PlainAnswers old piece Failed new = Keeps old new
