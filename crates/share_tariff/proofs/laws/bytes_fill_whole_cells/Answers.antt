use Rattle.std.proofs.Common.{refl}
use Rattle.share_tariff.proofs.CellLemmas.{whole-cells}
use Rattle.share_tariff.proofs.laws.bytes_fill_whole_cells.Goals as goal

pub returns-clause-none : goal.returns-clause-none
returns-clause-none c = λ rate. refl

pub returns-clause-some : goal.returns-clause-some
returns-clause-some c = λ rate count cell some. whole-cells rate count cell some
