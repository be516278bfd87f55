-- Texts that are written in parts, one after the other.
use Rattle.std.specs.Prelude.{◌≡◌, ◌+◌, ℕ, List, ◌++◌, length, take, min, Option, Result, Ok, Err}
use Rattle.std.proofs.Common.{sym, ◌∙◌, subst, arith}
use Rattle.std.specs.Io.KnownBytes.{Appends}
use Rattle.std.proofs.KnownBytes.{Appends-trans}
use Rattle.std.proofs.Math.Seq.{take-append-add}
use Rattle.std.proofs.lemmas.List.{take-append-le, take_min}
use Rattle.share_model.specs.declared.writer.Answer.{Answer}
use Rattle.share_model.specs.io.Calls.{Offers, OfferRefused}
use Rattle.share_model.proofs.lemmas.io.CallLemmas.{offers_more, refused_later}
use Rattle.share_model.specs.io.Printing.{bytes_told, AppendsPart, WritesText}
use Rattle.share_model.specs.io.Told.{Told}

-- a beginning of the second text was appended after the whole first
pub part_after : (a b c : Option (List ℕ)) (xs ys : List ℕ) → Appends a b xs → AppendsPart b c ys
    → AppendsPart a c (xs ++ ys)
part_after a b c xs ys h part =
    let P : List ℕ → Type 0 = λ r. Appends a c r in (
      length xs + part.0,
      subst P (sym (take-append-add xs ys part.0))
          (Appends-trans a b c xs (take part.0 ys) h part.1),
    )

-- a beginning of a text is one of any longer text
pub part_longer : (a b : Option (List ℕ)) (xs ys : List ℕ) → AppendsPart a b xs → AppendsPart a b (xs ++ ys)
part_longer a b xs ys part =
    let k = min part.0 (length xs) in
    let same : take k (xs ++ ys) ≡ take part.0 xs = take-append-le k xs ys (omega arith) ∙ take_min part.0 xs in
    let P : List ℕ → Type 0 = λ r. Appends a b r in
    (k, subst P (sym same) part.1)

-- a beginning of a text was written, and so one of any longer text
pub write_longer : {W : Type 0} {answers : W → List ℕ → Answer → W → Type 0} (told : W → Option Told) (a b : W)
    (xs ys : List ℕ) → AppendsPart (bytes_told (told a)) (bytes_told (told b)) xs × OfferRefused answers a b
    → AppendsPart (bytes_told (told a)) (bytes_told (told b)) (xs ++ ys) × OfferRefused answers a b
write_longer told a b xs ys part = (part_longer (bytes_told (told a)) (bytes_told (told b)) xs ys part.0, part.1)

-- the first of two texts was written, and then the second, or a beginning of it
pub write_then : {X E W : Type 0} {answers : W → List ℕ → Answer → W → Type 0} (told : W → Option Told)
    (r : Result X E) (a b c : W) (xs ys : List ℕ)
    → Appends (bytes_told (told a)) (bytes_told (told b)) xs × Offers answers a b
    → WritesText told answers b c ys r → WritesText told answers a c (xs ++ ys) r
write_then told (Ok x) a b c xs ys first rest = (
  Appends-trans (bytes_told (told a)) (bytes_told (told b)) (bytes_told (told c)) xs ys first.0 rest.0,
  offers_more first.1 rest.1,
)
write_then told (Err e) a b c xs ys first rest = (
  part_after (bytes_told (told a)) (bytes_told (told b)) (bytes_told (told c)) xs ys first.0 rest.0,
  refused_later first.1 rest.1,
)
