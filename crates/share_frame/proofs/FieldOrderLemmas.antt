-- The fields of a header in order: each ends where the next begins.
use Rattle.std.specs.Prelude.{◌≡◌, ◌<◌, ◌≤◌, ◌+◌, ◌⊎◌, ℕ, List, [], ◌∷◌}
use Rattle.std.proofs.Common.{get_or, refl, sym, ap, ◌∙◌, suc, zero, inl, inr, arith}
use Rattle.std.proofs.lemmas.Bool.{cases_lt}
use Rattle.share_base.specs.Version.{header_length}
use Rattle.share_base.specs.declared.version.Version.{Version}
use Rattle.share_base.specs.declared.version.Version.TheVariants.{One, Two}
use Rattle.share_frame.specs.declared.reading.Field.{Field}
use Rattle.share_frame.specs.declared.reading.Field.TheVariants.{Magic, Version as VersionByte, Tariff, Flow, Seq, Len}
use Rattle.share_frame.specs.Reading.{start_of, end_of}

-- the number of fields before a field
abbrev pub rank : Field → ℕ
rank Magic = 0
rank VersionByte = 1
rank Tariff = 2
rank Flow = 3
rank Seq = 4
rank Len = 5

abbrev pub fields : List Field
fields = Magic ∷ VersionByte ∷ Tariff ∷ Flow ∷ Seq ∷ Len ∷ []

at-rank : (p : Field) → get_or fields (rank p) Magic ≡ p
at-rank Magic = refl
at-rank VersionByte = refl
at-rank Tariff = refl
at-rank Flow = refl
at-rank Seq = refl
at-rank Len = refl

pub rank-at : (n : ℕ) → n < 6 → rank (get_or fields n Magic) ≡ n
rank-at zero few = refl
rank-at (suc zero) few = refl
rank-at (suc (suc zero)) few = refl
rank-at (suc (suc (suc zero))) few = refl
rank-at (suc (suc (suc (suc zero)))) few = refl
rank-at (suc (suc (suc (suc (suc zero))))) few = refl
rank-at (suc (suc (suc (suc (suc (suc n)))))) few = absurd (omega arith)

pub same_rank : (p q : Field) → rank p ≡ rank q → p ≡ q
same_rank p q same = sym (at-rank p) ∙ ap (λ n. get_or fields n Magic) same ∙ at-rank q

-- the length of the first n fields in bytes
first_bytes : Version → ℕ → ℕ
first_bytes version zero = 0
first_bytes version (suc zero) = 1
first_bytes version (suc (suc zero)) = 2
first_bytes version (suc (suc (suc zero))) = start_of version Flow
first_bytes version (suc (suc (suc (suc zero)))) = start_of version Seq
first_bytes version (suc (suc (suc (suc (suc zero))))) = start_of version Len
first_bytes version (suc (suc (suc (suc (suc (suc n)))))) = header_length version

first_bytes-start : (version : Version) (p : Field) → start_of version p ≡ first_bytes version (rank p)
unfolding first_bytes
first_bytes-start version Magic = refl
first_bytes-start version VersionByte = refl
first_bytes-start version Tariff = refl
first_bytes-start version Flow = refl
first_bytes-start version Seq = refl
first_bytes-start version Len = refl

first_bytes-end : (version : Version) (p : Field) → end_of version p ≡ first_bytes version (rank p + 1)
unfolding first_bytes
first_bytes-end version Magic = refl
first_bytes-end version VersionByte = refl
first_bytes-end version Tariff = refl
first_bytes-end version Flow = refl
first_bytes-end version Seq = refl
first_bytes-end version Len = refl

-- one more field has no fewer
one_more : (version : Version) (n : ℕ) → first_bytes version n ≤ first_bytes version (suc n)
unfolding first_bytes
one_more version zero = omega arith
one_more version (suc zero) = omega arith
one_more One (suc (suc zero)) = omega arith
one_more Two (suc (suc zero)) = omega arith
one_more One (suc (suc (suc zero))) = omega arith
one_more Two (suc (suc (suc zero))) = omega arith
one_more One (suc (suc (suc (suc zero)))) = omega arith
one_more Two (suc (suc (suc (suc zero)))) = omega arith
one_more One (suc (suc (suc (suc (suc zero))))) = omega arith
one_more Two (suc (suc (suc (suc (suc zero))))) = omega arith
one_more version (suc (suc (suc (suc (suc (suc n)))))) = omega arith

rises : (version : Version) (n m : ℕ) → n ≤ m → first_bytes version n ≤ first_bytes version m
rises version n zero most =
    let same : first_bytes version n ≡ first_bytes version zero = ap (first_bytes version) (omega arith) in
    omega arith
rises version n (suc m) most =
    elim (cases_lt m n) [
      | inl past ↦
          let same : first_bytes version n ≡ first_bytes version (suc m) = ap (first_bytes version) (omega arith) in
          omega arith
      | inr within ↦ let less = rises version n m within in omega (arith, one_more version m)
    ]

-- a field that comes before another ends where that begins, or earlier
ends_before : (version : Version) (p q : Field) → rank p < rank q → end_of version p ≤ start_of version q
ends_before version p q before =
    let up = rises version (rank p + 1) (rank q) (omega arith) in
    omega (arith, first_bytes-end version p, first_bytes-start version q)

-- one that begins before another comes before it
pub comes_before : (version : Version) (p q : Field) → start_of version p < start_of version q → rank p < rank q
comes_before version p q begins =
    elim (cases_lt (rank p) (rank q)) [
      | inl before ↦ before
      | inr after ↦
          let up = rises version (rank q) (rank p) after in
          absurd (omega (arith, first_bytes-start version p, first_bytes-start version q))
    ]

pub rank-few : (p : Field) → rank p < 6
rank-few Magic = omega arith
rank-few VersionByte = omega arith
rank-few Tariff = omega arith
rank-few Flow = omega arith
rank-few Seq = omega arith
rank-few Len = omega arith

-- each field is within the header
pub end-few : (version : Version) (p : Field) → end_of version p ≤ header_length version
unfolding first_bytes
end-few version p =
    let few = rank-few p in
    let up : first_bytes version (rank p + 1) ≤ first_bytes version 6 = rises version (rank p + 1) 6 (omega arith) in
    omega (arith, first_bytes-end version p)

pub start-few : (version : Version) (p : Field) → start_of version p ≤ header_length version
unfolding first_bytes
start-few version p =
    let few = rank-few p in
    let up : first_bytes version (rank p) ≤ first_bytes version 6 = rises version (rank p) 6 (omega arith) in
    omega (arith, first_bytes-start version p)

-- two fields are the same, or one ends before the other begins
pub order : (version : Version) (p q : Field)
    → (p ≡ q) ⊎ ((end_of version p ≤ start_of version q) ⊎ (end_of version q ≤ start_of version p))
order version p q =
    elim (cases_lt (rank p) (rank q)) [
      | inl before ↦ inr (inl (ends_before version p q before))
      | inr not_before ↦
          elim (cases_lt (rank q) (rank p)) [
            | inl after ↦ inr (inr (ends_before version q p after))
            | inr not_after ↦ inl (same_rank p q (omega arith))
          ]
    ]
