-- The part of an offer that is passed on, by its first line.
use Rattle.std.proofs.Common.{◌≡◌, ◌<◌, ◌+◌, ℕ, Bool, true, List, [], ◌∷◌, ◌++◌, length, take, drop}
use Rattle.std.proofs.Common.{refl, arith, sym, ap, ◌∙◌, subst}
use Rattle.std.proofs.Math.Seq.{take-append-add}
use Rattle.std.proofs.lemmas.List.{append-nil, length-take}
use Rattle.share_model.specs.declared.writer.Answer.{Answer}
use Rattle.share_model.specs.declared.writer.Answer.TheVariants.{Failed}
use Rattle.share_runs.specs.Strict.{IsRefusal, EndsNoLine, kept_after, StrictAnswers, is_answer, is_refusal, is_over}

-- the first line feed of a piece is after this many bytes
abbrev pub FeedAt : List ℕ → ℕ → Type 0
FeedAt piece size = piece ≡ take size piece ++ 10 ∷ drop (size + 1) piece

size_of : (piece : List ℕ) (size : ℕ) → size < length piece → length (take size piece) ≡ size
size_of piece size few = let n = length-take size piece in omega (arith, n)

with_feed : (piece : List ℕ) (size : ℕ) → size < length piece → FeedAt piece size
    → take (size + 1) piece ≡ take size piece ++ 10 ∷ []
with_feed piece size few feed =
    let line = take size piece in
    let P : ℕ → Type 0 = λ k. take (k + 1) (line ++ 10 ∷ drop (size + 1) piece) ≡ line ++ 10 ∷ [] in
    ap (λ bs. take (size + 1) bs) feed
    ∙ subst P (size_of piece size few) (take-append-add line (10 ∷ drop (size + 1) piece) 1)

pub passes_answer : {O : Type 0} {answers : O → List ℕ → Answer → O → Type 0} {before after : O}
    {kept piece keeps : List ℕ} {mark marks : Bool} {answer : Answer} (size : ℕ) → size < length piece
    → FeedAt piece size → EndsNoLine (take size piece) → ¬ (IsRefusal (kept ++ take size piece))
    → answers before (take (size + 1) piece) answer after
    → keeps ≡ kept_after kept (take (size + 1) piece) size answer → marks ≡ mark
    → StrictAnswers answers before kept mark piece answer after keeps marks
passes_answer {answers = answers} {before = before} {after = after} {kept = kept} {piece = piece} {keeps = keeps}
    {answer = answer} size few feed plain other did k m =
    let line = take size piece in
    let P : List ℕ → Type 0 = λ bs. answers before bs answer after in
    let Q : List ℕ → Type 0 = λ bs. keeps ≡ kept_after kept bs size answer in
    let R : ℕ → Type 0 = λ n. keeps ≡ kept_after kept (line ++ 10 ∷ []) n answer in
    is_answer line (drop (size + 1) piece) feed plain other (subst P (with_feed piece size few feed) did)
    (subst R (sym (size_of piece size few)) (subst Q (with_feed piece size few feed) k)) m

pub passes_refusal : {O : Type 0} {answers : O → List ℕ → Answer → O → Type 0} {before after : O}
    {kept piece keeps : List ℕ} {mark marks : Bool} {answer : Answer} (size : ℕ) → size < length piece → 0 < size
    → FeedAt piece size → EndsNoLine (take size piece) → IsRefusal (kept ++ take size piece)
    → answers before (take size piece) answer after → keeps ≡ kept_after kept (take size piece) size answer
    → marks ≡ mark → StrictAnswers answers before kept mark piece answer after keeps marks
passes_refusal {kept = kept} {piece = piece} {keeps = keeps} {answer = answer} size few some feed plain is did k m =
    let line = take size piece in
    let n : length line ≡ size = size_of piece size few in
    let R : ℕ → Type 0 = λ n. keeps ≡ kept_after kept line n answer in
    is_refusal line (drop (size + 1) piece) feed plain
    (λ none. let zero : length line ≡ 0 = ap length none in absurd (omega (arith, n, zero, some))) is did
    (subst R (sym n) k) m

pub passes_nothing : {O : Type 0} {answers : O → List ℕ → Answer → O → Type 0} {before : O}
    {kept piece : List ℕ} {mark : Bool} (size : ℕ) → size ≡ 0 → FeedAt piece size
    → IsRefusal (kept ++ take size piece) → StrictAnswers answers before kept mark piece Failed before kept true
passes_nothing {kept = kept} {piece = piece} size none feed is =
    let P : ℕ → Type 0 = λ n. FeedAt piece n in
    let Q : ℕ → Type 0 = λ n. IsRefusal (kept ++ take n piece) in
    let R : List ℕ → Type 0 = λ line. IsRefusal line in
    is_over (drop 1 piece) (subst P none feed) (subst R (append-nil kept) (subst Q none is)) refl refl refl refl
