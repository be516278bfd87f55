use Rattle.std.proofs.Common.{◌≡◌, take}
use Rattle.share_lives.specs.Tariffs.{book_tariffs}
use Rattle.share_lives.proofs.life.tariffs_of.Given as goal

abbrev pub invariant-rates : goal.invariant-rates
invariant-rates l = l.tariffs ≡ book_tariffs (take l.index l.rates)
