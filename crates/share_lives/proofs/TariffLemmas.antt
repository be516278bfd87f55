-- Tariffs that are refused.
use Rattle.std.proofs.Common.{◌≡◌, ◌<◌, ◌≤◌, ℕ, zero, suc, Bool, true, false, nat_le, List, [], ◌∷◌, length, take}
use Rattle.std.proofs.Common.{map, get_or, arith, refl, ap, ◌∙◌, length-take}
use Rattle.std.specs.List.{list_all}
use Rattle.std.proofs.lemmas.Bool.{and_parts, leb-true}
use Rattle.std.proofs.lemmas.List.{length-map}
use Rattle.share_model.specs.declared.rates.Rate.{Rate}
use Rattle.share_catalog.specs.Texts.{are_tariffs, is_tariff}
use Rattle.share_catalog.specs.declared.tariffs.BookTariff.{BookTariff}
use Rattle.share_lives.specs.Tariffs.{book_tariff, book_tariffs}

each_is : (rates : List Rate) (i : ℕ) (r : Rate) → i < length rates → list_all is_tariff (book_tariffs rates) ≡ true
    → is_tariff (book_tariff (get_or rates i r)) ≡ true
each_is [] i r within all = absurd (omega (arith, within))
each_is (x ∷ xs) zero r within all =
    (and_parts (is_tariff (book_tariff x)) (list_all is_tariff (book_tariffs xs)) all).0
each_is (x ∷ xs) (suc i) r within all =
    each_is xs i r (omega (arith, within))
    (and_parts (is_tariff (book_tariff x)) (list_all is_tariff (book_tariffs xs)) all).1

refused_by : (rates : List Rate) (ts : List BookTariff) (i : ℕ) (d : Rate) (t : BookTariff) → i < length rates
    → t ≡ book_tariff (get_or rates i d) → ts ≡ book_tariffs (take i rates)
    → ((length ts < 8) × (is_tariff t ≡ true) → ⊥) → (b : Bool) → are_tariffs (book_tariffs rates) ≡ b → b ≡ false
refused_by rates ts i d t within is some not false test = refl
refused_by rates ts i d t within is some not true test =
    let both = and_parts (nat_le (length (book_tariffs rates)) 8) (list_all is_tariff (book_tariffs rates)) test in
    let few = leb-true (length (book_tariffs rates)) 8 both.0 in
    let all = length-map rates book_tariff in
    let here = ap length some ∙ length-map (take i rates) book_tariff in
    let first = length-take i rates in
    absurd (not (
      omega (arith, few, all, here, first, within),
      ap is_tariff is ∙ each_is rates i d within both.1,
    ))

-- a tariff is refused only if there are eight before it, or it is out of its range. Then they are not the tariffs of a
-- book
pub tariffs-refused : (rates : List Rate) (ts : List BookTariff) (i : ℕ) (d : Rate) (t : BookTariff) (added : Bool)
    → i < length rates → t ≡ book_tariff (get_or rates i d) → ts ≡ book_tariffs (take i rates) → added ≡ false
    → (((length ts < 8) × (is_tariff t ≡ true)) → added ≡ true) → are_tariffs (book_tariffs rates) ≡ false
tariffs-refused rates ts i d t added within is some refused test =
    refused_by rates ts i d t within is some (λ both. let fits = test both in cc)
    (are_tariffs (book_tariffs rates)) refl
