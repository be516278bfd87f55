-- The line to which the last byte of a text belongs, as one more byte is read.
use Rattle.std.proofs.Common.{◌≡◌, ◌≢◌, ◌≤◌, ◌<◌, ◌+◌, ◌-◌, ◌^◌, ℕ, Bool, true, false, List, [], ◌∷◌, ◌++◌, length}
use Rattle.std.proofs.Common.{min, take, refl, arith, sym, ap, ◌∙◌, subst, zero, suc, if◌then◌else◌, get_or}
use Rattle.std.specs.List.{flat_map}
use Rattle.std.proofs.lemmas.Grind.{flat_map-append}
use Rattle.std.proofs.lemmas.List.{append-nil, length-append}
use Rattle.std.proofs.lemmas.List.Elements.{All-nil, All-push}
use mathlib.Core.List.{append_assoc}
use Rattle.share_runs.specs.Strict.{EndsNoLine}
use Rattle.share_model.specs.declared.reader.Got.{Got}
use Rattle.share_model.specs.declared.reader.Got.TheVariants.{Bytes, End, Interrupted, Failed}
use Rattle.share_runs.specs.Lines.{EndsInLine, LineGives, given_bytes, with_feed}

pub take_again : {A : Type 0} (n : ℕ) (xs ys : List A) → take n (take n xs ++ ys) ≡ take n (xs ++ ys)
take_again zero xs ys = refl
take_again (suc n) [] ys = refl
take_again (suc n) (x ∷ xs) ys = ap (λ zs. x ∷ zs) (take_again n xs ys)

pub first_line : {kept : List ℕ} → kept ≡ [] → EndsInLine [] 1 kept false
first_line none =
    record {
      before = [];
      line = [];
      whole = refl;
      plain = (All-nil EndsNoLine, All-nil (λ b. b ≢ 10));
      numbered = refl;
      keeps = none;
    }

min_again : (n m : ℕ) → min (min n m + 1) m ≡ min (n + 1) m
min_again n m = omega arith

-- the line has ended, and the next one begins
pub next_line : {text kept keeps : List ℕ} {number numbers : ℕ} {ended : Bool} → ended ≡ true
    → numbers ≡ min (number + 1) (2 ^ 64 - 1) → keeps ≡ [] → EndsInLine text number kept ended
    → EndsInLine text numbers keeps false
next_line {text = text} {numbers = numbers} {ended = ended} over n none is =
    let P : Bool → Type 0 = λ b. text ≡ flat_map with_feed is.before ++ (is.line ++ (if b then 10 ∷ [] else [])) in
    let whole : text ≡ flat_map with_feed is.before ++ with_feed is.line = subst P over is.whole in
    let one : flat_map with_feed (is.line ∷ []) ≡ with_feed is.line = append-nil (with_feed is.line) in
    let more : flat_map with_feed (is.before ++ is.line ∷ []) ≡ flat_map with_feed is.before ++ with_feed is.line =
    flat_map-append with_feed is.before (is.line ∷ []) ∙ ap (λ bs. flat_map with_feed is.before ++ bs) one in
    let size = length-append is.before (is.line ∷ []) in
    let count : numbers ≡ min ((length is.before + 1) + 1) (2 ^ 64 - 1) =
    n ∙ ap (λ k. min (k + 1) (2 ^ 64 - 1)) is.numbered ∙ min_again (length is.before + 1) (2 ^ 64 - 1) in
    record {
      before = is.before ++ is.line ∷ [];
      line = [];
      whole = whole ∙ sym more ∙ sym (append-nil (flat_map with_feed (is.before ++ is.line ∷ [])));
      plain = (All-push EndsNoLine is.before is.line is.plain.0 is.plain.1, All-nil (λ b. b ≢ 10));
      numbered = count ∙ ap (λ k. min (k + 1) (2 ^ 64 - 1)) (sym size);
      keeps = none;
    }

-- the line ends
pub line_ends : {text kept : List ℕ} {number : ℕ} → EndsInLine text number kept false
    → EndsInLine (text ++ 10 ∷ []) number kept true
line_ends {text = text} is =
    let front = flat_map with_feed is.before in
    record {
      before = is.before;
      line = is.line;
      whole = ap (λ bs. bs ++ 10 ∷ []) (is.whole ∙ ap (λ bs. front ++ bs) (append-nil is.line))
          ∙ append_assoc front is.line (10 ∷ []);
      plain = is.plain;
      numbered = is.numbered;
      keeps = is.keeps;
    }

-- the line goes on
pub line_goes_on : {text kept keeps : List ℕ} {number : ℕ} (byte : ℕ) → byte ≢ 10
    → keeps ≡ take 4096 (kept ++ byte ∷ []) → EndsInLine text number kept false
    → EndsInLine (text ++ byte ∷ []) number keeps false
line_goes_on {text = text} {kept = kept} {keeps = keeps} byte other k is =
    let front = flat_map with_feed is.before in
    let line = is.line ++ byte ∷ [] in
    record {
      before = is.before;
      line = line;
      whole = ap (λ bs. bs ++ byte ∷ []) (is.whole ∙ ap (λ bs. front ++ bs) (append-nil is.line))
          ∙ append_assoc front is.line (byte ∷ []) ∙ ap (λ bs. front ++ bs) (sym (append-nil line));
      plain = (is.plain.0, All-push (λ b. b ≢ 10) is.line byte is.plain.1 other);
      numbered = is.numbered;
      keeps = k ∙ ap (λ bs. take 4096 (bs ++ byte ∷ [])) is.keeps ∙ take_again 4096 is.line (byte ∷ []);
    }

-- the byte that a read of one byte gave, if it gave one
pub byte_given : {I : Type 0} {gives : I → List ℕ → Got → I → Type 0} {before after : I} {number numbers n : ℕ}
    {kept keeps : List ℕ} {ended ends : Bool} (piece rest : List ℕ) → length piece ≡ 1
    → gives before piece (Bytes n) after → 0 < n → n ≤ length piece
    → ((text : List ℕ) → EndsInLine text number kept ended
    → EndsInLine (text ++ get_or (piece ++ rest) 0 0 ∷ []) numbers keeps ends)
    → LineGives gives before number kept ended (piece ++ rest) (Bytes n) after numbers keeps ends
byte_given [] rest one gave some few follows = absurd (omega (arith, one))
byte_given {numbers = numbers} {n = n} {keeps = keeps} {ends = ends} (b ∷ []) rest one gave some few follows =
    let single : n ≡ 1 = omega (arith, some, few) in
    record {
      gave = gave;
      follows = λ text is.
          let P : ℕ → Type 0 = λ k. EndsInLine (text ++ take k (b ∷ rest)) numbers keeps ends in
          subst P (sym single) (follows text is);
    }
byte_given (b ∷ c ∷ bs) rest one gave some few follows = absurd (omega (arith, one))

-- the state after a read that gave nothing
nothing_given_of : {I : Type 0} {gives : I → List ℕ → Got → I → Type 0} {before after : I} {number : ℕ}
    {kept : List ℕ} {ended : Bool} (piece rest : List ℕ) (got : Got) → length piece ≡ 1
    → gives before piece got after → given_bytes (piece ++ rest) got ≡ []
    → LineGives gives before number kept ended (piece ++ rest) got after number kept ended
nothing_given_of [] rest got one gave none = absurd (omega (arith, one))
nothing_given_of {number = number} {kept = kept} {ended = ended} (b ∷ []) rest got one gave none =
    record {
      gave = gave;
      follows = λ text is.
          let P : List ℕ → Type 0 = λ bs. EndsInLine bs number kept ended in
          subst P (sym (ap (λ bs. text ++ bs) none ∙ append-nil text)) is;
    }
nothing_given_of (b ∷ c ∷ bs) rest got one gave none = absurd (omega (arith, one))

pub nothing_given : {I : Type 0} {gives : I → List ℕ → Got → I → Type 0} {before after : I} {number : ℕ}
    {kept : List ℕ} {ended : Bool} (piece rest : List ℕ) (got : Got) → length piece ≡ 1
    → gives before piece got after → ((n : ℕ) → got ≢ Bytes n)
    → LineGives gives before number kept ended (piece ++ rest) got after number kept ended
nothing_given piece rest (Bytes n) one gave none = absurd (none n refl)
nothing_given piece rest End one gave none = nothing_given_of piece rest End one gave refl
nothing_given piece rest Interrupted one gave none = nothing_given_of piece rest Interrupted one gave refl
nothing_given piece rest Failed one gave none = nothing_given_of piece rest Failed one gave refl
