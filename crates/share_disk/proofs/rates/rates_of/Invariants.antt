use Rattle.std.proofs.Common.{◌≡◌, map, take}
use Rattle.share_disk.specs.Rates.{link_rate}
use Rattle.share_disk.proofs.rates.rates_of.Given as goal

abbrev pub invariant-loop-index : goal.invariant-loop-index
invariant-loop-index l = l.rates.items ≡ map link_rate (take l.index l.tariffs)
