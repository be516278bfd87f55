-- The view of tariffs and of their shelf in contracts.
use Rattle.std.specs.Prelude.{◌≤◌, List, [], ◌∷◌, map}
use Rattle.std.proofs.Common.{◌∙◌, sym, subst}
use Rattle.std.proofs.lemmas.List.{length-map}
use Rattle.share_model.specs.declared.rates.Rate.{Rate}
use Rattle.share_model.specs.link.Tariff.{IsInRange, AreInRange}
use Rattle.share_model.specs.lists.Each.{Each}
pub use Rattle.share_tariff.specs.ShelfLength.{is_shelf_length}
use Rattle.share_tariff.specs.declared.tariff.Tariff.{Tariff}
use Rattle.share_tariff.specs.declared.shelf.Shelf.{Shelf}

-- the two closures of a tariff may be of any types. A and B are these, C and D what they hold, and charge and book say
-- the result of a call of each
module _ {A B : Type 0} {C : A → Type 0} {D : B → Type 0} {charge : _} {book : _} where
  -- the numbers of a tariff
  abbrev pub rate_in : Tariff A B C D charge book → Rate
  rate_in t = t.rate

  -- the tariffs of a shelf, in the order of their numbers
  abbrev pub rates_of : Shelf A B C D charge book → List Rate
  rates_of s = map rate_in s.tariffs.items

  each_in_range : (ts : List (Tariff A B C D charge book)) → Each IsInRange (map rate_in ts)
  each_in_range [] = tt
  each_in_range (t ∷ ts) = (t.in_range, each_in_range ts)

  pub rates_in_range : (s : Shelf A B C D charge book) → AreInRange (rates_of s)
  rates_in_range s = record {
    each = each_in_range s.tariffs.items;
    few = subst (λ n. n ≤ 8) (s.tariffs.ok.0 ∙ sym (length-map s.tariffs.items rate_in)) s.few;
  }
