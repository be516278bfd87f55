-- Bytes whose fields are good as far as they are there are the beginning of a frame. They go on with the bytes of a
-- header in which each number is 1.
use Rattle.std.specs.Prelude.{◌≡◌, ◌<◌, ◌≤◌, ◌-◌, ℕ, true, List, [], ◌∷◌, ◌++◌, length, take, drop}
use Rattle.std.specs.List.{list_all}
use Rattle.std.proofs.Common.{◌∙◌, refl, sym, ap, subst, suc, zero, get_or, inl, inr, length-append, arith}
use Rattle.std.proofs.Math.Seq.{take-append_seam}
use Rattle.std.proofs.lemmas.Bool.{cases_lt, and_parts}
use Rattle.std.proofs.lemmas.Bool.Decides.{nat_tests}
use Rattle.std.proofs.lemmas.List.{take-take, take_all, length-take-le, length-drop, get_or-drop}
use Rattle.std.proofs.lemmas.List.{get_or_append_left, get_or-append_right}
use Rattle.share_base.specs.Version.{header_length}
use Rattle.share_base.specs.declared.version.Version.{Version}
use Rattle.share_base.specs.declared.version.Version.TheVariants.{One, Two}
use Rattle.share_model.specs.link.Fields.{is_byte}
use Rattle.share_model.specs.link.Frame.{header, frame}
use Rattle.share_model.proofs.lemmas.link.FrameLemmas.{length-header}
use Rattle.share_model.specs.run.History.{IsBeginning}
use Rattle.share_frame.specs.declared.reading.Field.{Field}
use Rattle.share_frame.specs.declared.reading.Field.TheVariants.{Magic, Version as VersionByte, Tariff, Flow, Seq, Len}
use Rattle.share_frame.specs.Reading.{start_of, end_of}
use Rattle.share_frame.specs.Fields.{IsGood}
use Rattle.share_frame.proofs.ByteLemmas.{AreBytes}
use Rattle.share_frame.proofs.FieldLemmas.{layout, good-agree}
use Rattle.share_frame.proofs.WholeHeaderLemmas.{part-begins}

-- less of a beginning is a beginning
pub less-begins : (version : Version) (n : ℕ) (x : List ℕ) → IsBeginning version x → IsBeginning version (take n x)
less-begins version n x b =
    let few = b.few in
    elim (cases_lt n b.at) [
      | inl before ↦ record {
        tariff = b.tariff;
        head = b.head;
        fits = b.fits;
        at = n;
        few = omega arith;
        is = ap (take n) b.is ∙ take-take n b.at (frame version b.tariff b.head) (omega arith);
      }
      | inr after ↦
          let long : length x ≡ b.at =
          ap length b.is ∙ length-take-le b.at (frame version b.tariff b.head) (omega arith) in
          subst (IsBeginning version) (sym (take_all n x (omega arith))) b
    ]

-- that header
ones : Version → List ℕ
ones version = header version 1 1 1 1

ones-length : (version : Version) → length (ones version) ≡ header_length version
unfolding ones
ones-length version = length-header version 1 1 1 1

small : (b : ℕ) → is_byte b ≡ true → b < 256
small b is = grind (arith, nat_tests)

small_at : (x : List ℕ) → list_all is_byte x ≡ true → AreBytes x
small_at [] all i = omega arith
small_at (b ∷ x) all zero = small b (and_parts (is_byte b) (list_all is_byte x) all).0
small_at (b ∷ x) all (suc i) = small_at x (and_parts (is_byte b) (list_all is_byte x) all).1 i

ones-bytes : (version : Version) → AreBytes (ones version)
unfolding ones header
ones-bytes One = small_at (header One 1 1 1 1) refl
ones-bytes Two = small_at (header Two 1 1 1 1) refl

-- y is x, and after it what that header has there
record Fills (version : Version) (x y : List ℕ) : Type 0 where
  there : (k : ℕ) → k < length x → get_or y k 0 ≡ get_or x k 0
  past : (k : ℕ) → length x ≤ k → get_or y k 0 ≡ get_or (ones version) k 0

-- so a field that was not all there is good if what was there of it is
part-good : (version : Version) (p : Field) (x y : List ℕ) → Fills version x y → length x < end_of version p
    → (start_of version p < length x → IsGood version p x) → IsGood version p y
unfolding ones header
part-good version Magic x y fills short good = λ there. fills.past 0 (omega arith)
part-good version VersionByte x y fills short good = λ there. fills.past 1 (omega arith)
part-good One Tariff x y fills short good = λ there. tt
part-good Two Tariff x y fills short good = λ there.
    let one : get_or y 2 0 ≡ 1 = fills.past 2 (omega arith) in (omega arith, omega arith)
part-good One Flow x y fills short good = λ whole.
    let last : get_or y 5 0 ≡ 1 = fills.past 5 (omega arith) in omega arith
part-good Two Flow x y fills short good = λ whole.
    let last : get_or y 6 0 ≡ 1 = fills.past 6 (omega arith) in omega arith
part-good One Seq x y fills short good = λ whole.
    let last : get_or y 9 0 ≡ 1 = fills.past 9 (omega arith) in omega arith
part-good Two Seq x y fills short good = λ whole.
    let last : get_or y 14 0 ≡ 1 = fills.past 14 (omega arith) in omega arith
part-good One Len x y fills short good =
    let last : get_or y 11 0 ≡ 1 = fills.past 11 (omega arith) in
    let high : get_or y 10 0 ≤ 5 =
    elim (cases_lt 10 (length x)) [
      | inl here ↦ let same = fills.there 10 here in let high = (good here).high here in omega arith
      | inr after ↦ let zero : get_or y 10 0 ≡ 0 = fills.past 10 after in omega arith
    ] in
    record { high = λ there. omega arith; some = λ whole. omega arith; few = λ whole. omega arith }
part-good Two Len x y fills short good =
    let last : get_or y 16 0 ≡ 1 = fills.past 16 (omega arith) in
    let high : get_or y 15 0 ≤ 35 =
    elim (cases_lt 15 (length x)) [
      | inl here ↦ let same = fills.there 15 here in let high = (good here).high here in omega arith
      | inr after ↦ let zero : get_or y 15 0 ≡ 0 = fills.past 15 after in omega arith
    ] in
    record { high = λ there. omega arith; some = λ whole. omega arith; few = λ whole. omega arith }

-- a field that is all there has bytes, but for the tariff of version 1
good-there : (version : Version) (p : Field) (x : List ℕ) → end_of version p ≤ length x
    → (start_of version p < length x → IsGood version p x) → IsGood version p x
good-there version Magic x whole good = good (omega arith)
good-there version VersionByte x whole good = good (omega arith)
good-there One Tariff x whole good = λ there. tt
good-there Two Tariff x whole good = good (omega arith)
good-there version Flow x whole good = let at = layout version in good (omega arith)
good-there version Seq x whole good = let at = layout version in good (omega arith)
good-there version Len x whole good = let at = layout version in good (omega arith)

module _ (version : Version) (x : List ℕ) (bytes : AreBytes x) (few : length x ≤ header_length version)
    (good : (p : Field) → start_of version p < length x → IsGood version p x) where
  filled : List ℕ
  filled = x ++ drop (length x) (ones version)

  filled-length : length filled ≡ header_length version
  unfolding filled
  filled-length =
      length-append x (drop (length x) (ones version))
      ∙ omega (arith, length-drop (length x) (ones version), ones-length version)

  fills : Fills version x filled
  unfolding filled
  fills = record {
    there = λ k within. get_or_append_left x (drop (length x) (ones version)) 0 k within;
    past = λ k after.
        get_or-append_right x (drop (length x) (ones version)) (length x) k 0 refl after
        ∙ get_or-drop (length x) (ones version) (k - length x) 0
        ∙ ap (λ n. get_or (ones version) n 0) (omega arith);
  }

  filled-bytes : AreBytes filled
  filled-bytes k =
      elim (cases_lt k (length x)) [
        | inl here ↦ omega (arith, fills.there k here, bytes k)
        | inr after ↦ omega (arith, fills.past k after, ones-bytes version k)
      ]

  filled-good : (p : Field) → IsGood version p filled
  filled-good p =
      elim (cases_lt (length x) (end_of version p)) [
        | inl short ↦ part-good version p x filled fills short (good p)
        | inr whole ↦
            good-agree version p filled x
            (record { long = λ k within there. omega arith; same = λ k within there. fills.there k (omega arith) })
            (good-there version p x whole (good p))
      ]

  -- less of the header that they go on as
  pub good-begins : IsBeginning version x
  unfolding filled
  good-begins =
      let size = filled-length in
      let long : length filled - header_length version ≡ 0 = omega arith in
      let some = (filled-good Len).some (omega arith) in
      subst (IsBeginning version) (take-append_seam x (drop (length x) (ones version)))
      (less-begins version (length x) filled
      (part-begins version filled filled-bytes (omega arith) filled-good (omega arith)))
