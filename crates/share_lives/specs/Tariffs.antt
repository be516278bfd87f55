-- The tariffs of a book, as its files have them.
use Rattle.std.specs.Prelude.{List, map}
use Rattle.share_model.specs.declared.rates.Rate.{Rate}
use Rattle.share_catalog.specs.declared.tariffs.BookTariff.{BookTariff}

abbrev pub book_tariff : Rate → BookTariff
book_tariff r = record { cell = r.cell; overhead = r.overhead; price = r.price }

abbrev pub book_tariffs : List Rate → List BookTariff
book_tariffs rates = map book_tariff rates
