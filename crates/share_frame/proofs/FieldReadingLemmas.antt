-- The facts that each field that is read gives about the bytes.
use Rattle.std.specs.Prelude.{◌≡◌, ◌<◌, ◌+◌, ◌↔◌, ℕ, Bool, true, false, IsTrue, List, take}
use Rattle.std.proofs.Common.{get_or, inl, inr, subst, arith}
use Rattle.std.proofs.lemmas.Bool.{cases_lt}
use Rattle.std.proofs.lemmas.List.{length-take}
use Rattle.share_base.specs.declared.version.Version.{Version}
use Rattle.share_frame.specs.declared.reading.Field.{Field}
use Rattle.share_frame.specs.declared.reading.Field.TheVariants.{Magic}
use Rattle.share_frame.specs.Reading.{IsFirstBad, start_of, end_of}
use Rattle.share_frame.specs.Fields.{IsGood}
use Rattle.share_frame.proofs.FieldOrderLemmas.{rank, fields, rank-at, same_rank, comes_before, start-few}
use Rattle.share_frame.proofs.ByteLemmas.{AreBytes, bytes-take}
use Rattle.share_frame.proofs.FieldLemmas.{good-take, good-from-take, begins-good}
use Rattle.share_frame.proofs.BeginningLemmas.{good-begins}

-- a field that is not good, after fields that are, is the first that no frame has
bad-at : (version : Version) (p : Field) (x : List ℕ) → AreBytes x
    → ((q : Field) → rank q < rank p → IsGood version q x) → (IsGood version p x → ⊥) → IsFirstBad version p x
bad-at version p x bytes good bad =
    let long = length-take (start_of version p) x in
    let few = start-few version p in
    record {
      before =
          good-begins version (take (start_of version p) x) (bytes-take (start_of version p) x bytes) (omega arith)
          (λ q here. good-take version q (start_of version p) x (good q (comes_before version q p (omega arith))));
      within = λ begins.
          bad (good-from-take version p (end_of version p) x (omega arith)
          (begins-good version (take (end_of version p) x) begins p));
    }

-- the first n fields are good
abbrev pub AreGood : Version → ℕ → List ℕ → Type 0
AreGood version n x = (q : Field) → rank q < n → IsGood version q x

-- so is one more, if the next is
pub one_more_good : (version : Version) (n : ℕ) (x : List ℕ) (b : Bool) → n < 6 → AreGood version n x
    → (IsTrue b ↔ IsGood version (get_or fields n Magic) x) → b ≡ true → AreGood version (n + 1) x
one_more_good version n x b few good means is q before =
    elim (cases_lt (rank q) n) [
      | inl earlier ↦ good q earlier
      | inr last ↦
          let same : get_or fields n Magic ≡ q = same_rank (get_or fields n Magic) q (omega (arith, rank-at n few)) in
          subst (λ p. IsGood version p x) same (means.0 is)
    ]

-- and if the next is not, it is the first that no frame has
pub first_bad : (version : Version) (n : ℕ) (x : List ℕ) (b : Bool) → n < 6 → AreBytes x → AreGood version n x
    → (IsTrue b ↔ IsGood version (get_or fields n Magic) x) → b ≡ false
    → IsFirstBad version (get_or fields n Magic) x
first_bad version n x b few bytes good means is =
    let at = rank-at n few in
    bad-at version (get_or fields n Magic) x bytes (λ q before. good q (omega arith))
    (λ holds. let true_is = means.1 holds in cc)
