-- The view of a shelf of the plain rule in contracts.
use Rattle.std.specs.Prelude.{◌≡◌, true, ◌&&◌, List, [], ◌∷◌, length, nat_le}
use Rattle.std.specs.List.{list_all}
use Rattle.std.proofs.lemmas.Bool.{and_parts, leb-true}
use Rattle.share_model.specs.declared.rates.Rate.{Rate}
use Rattle.share_model.specs.link.Tariff.{IsInRange, AreInRange}
use Rattle.share_model.specs.lists.Each.{Each}
use Rattle.share_tariff.specs.PlainRates.{is_plain_rate, are_plain_rates}
use Rattle.share_tariff.specs.ShelfLength.{is_shelf_length}
use Rattle.share_tariff.specs.declared.plain_shelf.PlainShelf.{PlainShelf}

-- the tariffs, in the order of their numbers
abbrev pub plain_rates_of : PlainShelf → List Rate
plain_rates_of s = s.rates.items

in_range_of : (r : Rate) → is_plain_rate r ≡ true → IsInRange r
in_range_of r is =
    let upper = and_parts (nat_le 1 r.cell && nat_le r.cell 2048 && nat_le r.overhead 1024) (nat_le r.price 65535) is in
    let cells = and_parts (nat_le 1 r.cell && nat_le r.cell 2048) (nat_le r.overhead 1024) upper.0 in
    let cell = and_parts (nat_le 1 r.cell) (nat_le r.cell 2048) cells.0 in
    record {
      some_cell = leb-true 1 r.cell cell.0;
      cell = leb-true r.cell 2048 cell.1;
      overhead = leb-true r.overhead 1024 cells.1;
      price = leb-true r.price 65535 upper.1;
    }

each_in_range : (rs : List Rate) → list_all is_plain_rate rs ≡ true → Each IsInRange rs
each_in_range [] all = tt
each_in_range (r ∷ rs) all =
    let both = and_parts (is_plain_rate r) (list_all is_plain_rate rs) all in
    (in_range_of r both.0, each_in_range rs both.1)

all_in_range : (rs : List Rate) → are_plain_rates rs ≡ true → AreInRange rs
all_in_range rs are =
    let both = and_parts (is_shelf_length (length rs)) (list_all is_plain_rate rs) are in
    record {
      each = each_in_range rs both.1;
      few = leb-true (length rs) 8 (and_parts (nat_le 1 (length rs)) (nat_le (length rs) 8) both.0).1;
    }

pub plain_rates_in_range : (s : PlainShelf) → AreInRange (plain_rates_of s)
plain_rates_in_range s = all_in_range s.rates.items s.in_range
