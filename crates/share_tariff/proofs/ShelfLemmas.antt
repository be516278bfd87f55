-- Tariffs by their numbers.
use Rattle.std.proofs.Common.{◌≡◌, ◌-◌, ◌<◌, ◌≤◌, ◌∙◌, ℕ, List, map, length, get_or, Some, option_map}
use Rattle.std.proofs.Common.{zero, suc, refl, sym, ap, arith}
use Rattle.std.proofs.lemmas.Option.{slice_get-map, slice_get_read}
use Rattle.share_model.specs.declared.rates.Rate.{Rate}
use Rattle.share_model.specs.link.Tariff.{rate_at}

-- the tariff of a number stands one place before it
pub rate_at-read : {T : Type 0} (f : T → Rate) (ts : List T) (number : ℕ) (t : T) → 0 < number → number ≤ length ts
    → t ≡ get_or ts (number - 1) t → Some (f t) ≡ rate_at (map f ts) number
rate_at-read f ts zero t some few read = absurd (omega (arith, some))
rate_at-read f ts (suc n) t some few read =
    let before : suc n - 1 ≡ n = omega arith in
    let there : t ≡ get_or ts n t = rw before at read in
    sym (slice_get-map f ts n ∙ ap (option_map f) (slice_get_read ts (length ts) n t refl (omega (arith, few)) there))
