-- Names of files are read from the bytes that spell them.
use Rattle.std.proofs.Common.{◌≡◌, ◌<◌, ◌+◌, ◌-◌, ◌^◌, ℕ, zero, suc, List, [], ◌∷◌, ◌++◌, length, take, get_or}
use Rattle.std.proofs.Common.{replicate}
use Rattle.std.proofs.Common.{Option, None, Some, decimal, arith, sym, ◌∙◌, ap, refl, max}
use Rattle.std.proofs.Math.Seq.{take-suc}
use Rattle.std.specs.Str.Parse.{AllDigits, digits_value}
use Rattle.std.specs.List.{join_with_byte}
use Rattle.std.proofs.lemmas.Fmt.{decimal_is_IsNumeral}
use Rattle.share_catalog.specs.Folder.{greatest}
use Rattle.share_catalog.specs.Names.{ending, zeros_before, padded, file_text, IsFile}
use Rattle.share_catalog.specs.Pieces.{pieces_of}
use Rattle.share_catalog.specs.Reads.{IsSpelledByNone, Any}
use Rattle.share_catalog.specs.Texts.{IsNumber}
use Rattle.share_catalog.specs.declared.names.BookFile.{BookFile}
use Rattle.share_catalog.specs.declared.names.FileKind.{FileKind}
use Rattle.share_catalog.specs.declared.names.FileKind.TheVariants.{Open, Audit, Lengths, Bad, Report, Part, Tariffs}
use Rattle.share_catalog.proofs.NumberLemmas.{padded_value, padded_digits}
use Rattle.share_catalog.proofs.PieceLemmas.{NoByte, no_byte-append, no_byte-decimal, pieces_of-join}
use Rattle.share_catalog.proofs.TariffLemmas.{head_is, tail_is}

no_point-zeros : (k : ℕ) → NoByte 46 (replicate k 48)
no_point-zeros zero = tt
no_point-zeros (suc k) = (refl, no_point-zeros k)

no_point-ending : (k : FileKind) → NoByte 46 (ending k)
no_point-ending Open = (refl, (refl, (refl, (refl, tt))))
no_point-ending Audit = (refl, (refl, (refl, (refl, (refl, tt)))))
no_point-ending Lengths = (refl, (refl, (refl, (refl, (refl, (refl, (refl, tt)))))))
no_point-ending Bad = (refl, (refl, (refl, tt)))
no_point-ending Report = (refl, (refl, (refl, (refl, (refl, (refl, tt))))))
no_point-ending Part = (refl, (refl, (refl, (refl, tt))))
no_point-ending Tariffs = (refl, (refl, (refl, (refl, (refl, (refl, (refl, tt)))))))

pub file_pieces : (f : BookFile) → IsFile f → pieces_of 46 (file_text f) ≡ padded f.number ∷ ending f.kind ∷ []
file_pieces f is =
    pieces_of-join 46 (padded f.number) (ending f.kind ∷ [])
    (no_byte-append 46 (zeros_before (length (decimal f.number))) (decimal f.number)
    (no_point-zeros (6 - length (decimal f.number))) (no_byte-decimal 46 f.number (omega arith) is))
    (no_point-ending f.kind, tt)

value_of_padded : (n : ℕ) → IsNumber n → AllDigits 10 (padded n) × (digits_value 10 (padded n) ≡ n)
value_of_padded n h =
    let p = decimal_is_IsNumeral n h in
    let k = 6 - length (decimal n) in
    (padded_digits k (decimal n) p.0.1, padded_value k (decimal n) ∙ p.1)

spelled_pieces : (w : List ℕ) (ps : List (List ℕ)) (f : BookFile) → ps ≡ pieces_of 46 w → IsFile f → file_text f ≡ w
    → ps
    ≡ padded f.number ∷ ending f.kind ∷ []
spelled_pieces w ps f e is q = e ∙ ap (pieces_of 46) (sym q) ∙ file_pieces f is

pub no_stem : (w : List ℕ) (ps : List (List ℕ)) → ps ≡ pieces_of 46 w → ps ≡ []
    → IsSpelledByNone BookFile file_text IsFile w
no_stem w ps e none = record {
  none = λ f is q. let z : padded f.number ∷ ending f.kind ∷ [] ≡ [] = sym (spelled_pieces w ps f e is q) ∙ none in cc;
}

stem_value : (v : List ℕ) (n : ℕ) → IsNumber n → v ≡ padded n → (o : Option ℕ)
    → (AllDigits 10 v → digits_value 10 v < 2 ^ 64 → o ≡ Some (digits_value 10 v)) → o ≡ Some n
stem_value v n h e o read =
    let p = value_of_padded n h in
    let all : AllDigits 10 v = rw e p.0 in
    let is : digits_value 10 v ≡ n = ap (digits_value 10) e ∙ p.1 in
    read all (rw is h) ∙ ap Some is

pub no_value : (w v : List ℕ) (ps qs : List (List ℕ)) → ps ≡ pieces_of 46 w → ps ≡ v ∷ qs
    → (AllDigits 10 v → digits_value 10 v < 2 ^ 64 → None ≡ Some (digits_value 10 v))
    → IsSpelledByNone BookFile file_text IsFile w
no_value w v ps qs e g none = record {
  none = λ f is q.
      let stem = head_is _ _ _ _ (sym g ∙ spelled_pieces w ps f e is q) in
      let never = stem_value v f.number is stem None none in cc;
}

pub no_ending : (w v : List ℕ) (ps qs : List (List ℕ)) → ps ≡ pieces_of 46 w → ps ≡ v ∷ qs → qs ≡ []
    → IsSpelledByNone BookFile file_text IsFile w
no_ending w v ps qs e g none = record {
  none = λ f is q.
      let after = tail_is _ _ _ _ (sym g ∙ spelled_pieces w ps f e is q) in
      let z : ending f.kind ∷ [] ≡ [] = sym after ∙ none in cc;
}

pub no_kind : (w v u : List ℕ) (ps qs rs : List (List ℕ)) → ps ≡ pieces_of 46 w → ps ≡ v ∷ qs → qs ≡ u ∷ rs
    → IsSpelledByNone FileKind ending Any u → IsSpelledByNone BookFile file_text IsFile w
no_kind w v u ps qs rs e g h lacks = record {
  none = λ f is q.
      let after = tail_is _ _ _ _ (sym g ∙ spelled_pieces w ps f e is q) in
      lacks.none f.kind tt (sym (head_is _ _ _ _ (sym h ∙ after)));
}

pub other_name : (w v u : List ℕ) (ps qs rs : List (List ℕ)) (file : BookFile) → ps ≡ pieces_of 46 w → ps ≡ v ∷ qs
    → (AllDigits 10 v → digits_value 10 v < 2 ^ 64 → Some file.number ≡ Some (digits_value 10 v)) → qs ≡ u ∷ rs
    → ending file.kind ≡ u → (file_text file ≡ w → ⊥) → IsSpelledByNone BookFile file_text IsFile w
other_name w v u ps qs rs file e g read h kind other = record {
  none = λ f is q.
      let both = sym g ∙ spelled_pieces w ps f e is q in
      let got = stem_value v f.number is (head_is _ _ _ _ both) (Some file.number) read in
      let number : file.number ≡ f.number = cc in
      let ends : ending file.kind ≡ ending f.kind = kind ∙ head_is _ _ _ _ (sym h ∙ tail_is _ _ _ _ both) in
      other (ap (λ n. join_with_byte 46 (padded n ∷ ending file.kind ∷ [])) number
      ∙ ap (λ t. join_with_byte 46 (padded f.number ∷ t ∷ [])) ends ∙ q);
}

pub one_to_one : (f g : BookFile) → IsFile f → IsFile g → file_text f ≡ file_text g
    → (f.number ≡ g.number) × (ending f.kind ≡ ending g.kind)
one_to_one f g fits other e =
    let both = sym (file_pieces f fits) ∙ ap (pieces_of 46) e ∙ file_pieces g other in
    let stems = head_is _ _ _ _ both in (
      sym (value_of_padded f.number fits).1 ∙ ap (digits_value 10) stems ∙ (value_of_padded g.number other).1,
      head_is _ _ _ _ (tail_is _ _ _ _ both),
    )

pub greatest-snoc : (ns : List ℕ) (n : ℕ) → greatest (ns ++ n ∷ []) ≡ max (greatest ns) n
greatest-snoc [] n = omega arith
greatest-snoc (m ∷ ns) n = omega (arith, greatest-snoc ns n)

pub greatest_more : (ns : List ℕ) (i : ℕ) → i < length ns
    → greatest (take (i + 1) ns) ≡ max (greatest (take i ns)) (get_or ns i 0)
greatest_more ns i inside =
    let on : i + 1 ≡ suc i = omega arith in
    ap (λ k. greatest (take k ns)) on ∙ ap greatest (take-suc ns i 0 inside)
    ∙ greatest-snoc (take i ns) (get_or ns i 0)
