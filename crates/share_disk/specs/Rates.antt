-- A tariff of a book, as a link knows it.
use Rattle.share_model.specs.declared.rates.Rate.{Rate}
use Rattle.share_catalog.specs.declared.tariffs.BookTariff.{BookTariff}

abbrev pub link_rate : BookTariff → Rate
link_rate t = record { cell = t.cell; overhead = t.overhead; price = t.price }
