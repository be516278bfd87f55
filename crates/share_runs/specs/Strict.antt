-- The output of a script up to its first refusal.
use Rattle.std.specs.Prelude.{◌≡◌, ◌≢◌, ℕ, Bool, true, List, [], ◌∷◌, ◌++◌, length, take, codes, nat_lt, if◌then◌else◌}
use Rattle.std.specs.List.{All}
use Rattle.share_model.specs.declared.writer.Answer.{Answer}
use Rattle.share_model.specs.declared.writer.Answer.TheVariants.{Accepted, Interrupted, Failed}
use Rattle.share_model.specs.io.Calls.{OfferRefused}

-- the line begins as refusals do
abbrev pub IsRefusal : List ℕ → Type 0
IsRefusal line = take 3 line ≡ codes "no "

-- no line ends among the bytes
abbrev pub EndsNoLine : List ℕ → Type 0
EndsNoLine bytes = All (λ b. b ≢ 10) bytes

-- the part of a line that is kept after an answer to a further part of it, which has `size` bytes before its line feed
abbrev pub kept_after : List ℕ → List ℕ → ℕ → Answer → List ℕ
kept_after kept part size (Accepted k) = if nat_lt size k then [] else take 64 (kept ++ take k part)
kept_after kept part size Interrupted = kept
kept_after kept part size Failed = kept

-- The effect of an offer on the writer below, the last line of the output, and the mark of a refusal. The first line
-- of the piece is passed on: with its line feed if the line is no refusal, otherwise without. From the line feed of a
-- refusal on offers fail.
pub data StrictAnswers {O : Type 0} (answers : O → List ℕ → Answer → O → Type 0) (before : O) (kept : List ℕ)
    (mark : Bool) (piece : List ℕ) (answer : Answer) (after : O) (keeps : List ℕ) (marks : Bool) : Type 0 where
  goes_on : EndsNoLine piece → answers before piece answer after → keeps ≡ kept_after kept piece (length piece) answer
      → marks ≡ mark → StrictAnswers answers before kept mark piece answer after keeps marks
  is_answer : (line rest : List ℕ) → piece ≡ line ++ 10 ∷ rest → EndsNoLine line → ¬ (IsRefusal (kept ++ line))
      → answers before (line ++ 10 ∷ []) answer after
      → keeps ≡ kept_after kept (line ++ 10 ∷ []) (length line) answer → marks ≡ mark
      → StrictAnswers answers before kept mark piece answer after keeps marks
  is_refusal : (line rest : List ℕ) → piece ≡ line ++ 10 ∷ rest → EndsNoLine line → line ≢ [] → IsRefusal (kept ++ line)
      → answers before line answer after → keeps ≡ kept_after kept line (length line) answer → marks ≡ mark
      → StrictAnswers answers before kept mark piece answer after keeps marks
  is_over : (rest : List ℕ) → piece ≡ 10 ∷ rest → IsRefusal kept → answer ≡ Failed → after ≡ before → keeps ≡ kept
      → marks ≡ true → StrictAnswers answers before kept mark piece answer after keeps marks

-- after offers, of each of which some was accepted, one was refused, and then the writer has its mark
pub record EndsAtRefusal {W : Type 0} (answers : W → List ℕ → Answer → W → Type 0) (mark : W → Bool) (first : W)
    : Type 0 where
  pub last : W
  pub calls : OfferRefused answers first last
  pub marked : mark last ≡ true

-- after offers, of each of which some was accepted, one was refused, and then the writer has its mark. An offer to the
-- writer below it was refused too
pub record LosesFeed {W O : Type 0} (answers : W → List ℕ → Answer → W → Type 0) (mark : W → Bool) (below : W → O)
    (accepts : O → List ℕ → Answer → O → Type 0) (first : W) (after : O) : Type 0 where
  pub last : W
  pub calls : OfferRefused answers first last
  pub marked : mark last ≡ true
  pub lost : OfferRefused accepts (below last) after
