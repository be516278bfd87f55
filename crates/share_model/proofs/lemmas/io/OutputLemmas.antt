-- Bytes are written offer by offer.
use Rattle.std.proofs.Common.{◌≡◌, ◌≤◌, ◌+◌, ◌-◌, ℕ, List, ◌++◌, length, take, drop, Option, None, Some}
use Rattle.std.proofs.Common.{option_map, arith, sym, ◌∙◌, ap, subst}
use mathlib.Core.List.{append_assoc}
use Rattle.std.specs.Io.KnownBytes.{Appends}
use Rattle.std.proofs.KnownBytes.{Appends-nil}
use Rattle.std.proofs.Math.Seq.{take-add}
use Rattle.std.proofs.lemmas.List.{length-drop, take_all}
use Rattle.share_model.specs.declared.writer.Answer.TheVariants.{Accepted}
use Rattle.share_model.specs.io.Told.{Told, WasTold, with_first}
use Rattle.share_model.specs.io.Printing.{bytes_told}

-- the bytes that were appended, and k more bytes
appends_told : (a : Option (List ℕ)) (before after : Option Told) (bs : List ℕ) (at k : ℕ)
    → Appends a (bytes_told before) (take at bs) → after ≡ option_map (λ t. with_first t (drop at bs) k) before
    → Appends a (bytes_told after) (take (at + k) bs)
appends_told None before after bs at k h e = tt
appends_told (Some xs) None after bs at k h e = absurd h
appends_told (Some xs) (Some t) after bs at k h e =
    let more : t.bytes ++ take k (drop at bs) ≡ xs ++ take (at + k) bs =
    ap (λ r. r ++ take k (drop at bs)) h ∙ append_assoc xs (take at bs) (take k (drop at bs))
    ∙ ap (λ r. xs ++ r) (sym (take-add at k bs)) in
    let P : Option Told → Type 0 = λ o. Appends (Some xs) (bytes_told o) (take (at + k) bs) in
    subst P (sym e) more

-- this many of the bytes were written
pub record PutUpTo (a : Option (List ℕ)) (now : Option Told) (bs : List ℕ) (at : ℕ) : Type 0 where
  pub few : at ≤ length bs
  pub appends : Appends a (bytes_told now) (take at bs)

pub put_none : (now : Option Told) (bs : List ℕ) → PutUpTo (bytes_told now) now bs 0
put_none now bs = record { few = omega arith; appends = Appends-nil (bytes_told now) }

pub put_more : (a : Option (List ℕ)) (before after : Option Told) (bs : List ℕ) (at k : ℕ) → PutUpTo a before bs at
    → WasTold before (take (length bs - at) (drop at bs)) (Accepted k) after → PutUpTo a after bs (at + k)
put_more a before after bs at k so told =
    let n = length-drop at bs in
    let rest : take (length bs - at) (drop at bs) ≡ drop at bs = take_all (length bs - at) (drop at bs) (omega arith) in
    let fits : k ≤ length (drop at bs) = rw rest at told.0 in
    let few : at + k ≤ length bs = omega (arith, so.few) in
    record { few = few; appends = appends_told a before after bs at k so.appends (rw rest at told.1) }
