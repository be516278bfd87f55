use Rattle.std.proofs.Common.{sym}
use Rattle.share_spellings.proofs.AmountLemmas.{no_space, no_number, number_and_unit}
use Rattle.share_spellings.proofs.amount.with_unit.Goals as goal

pub returns-in-None : goal.returns-in-None
returns-in-None c = no_space c.args.text.now c.in-None.ensures.cases

pub returns-in-None-read_number : goal.returns-in-None-read_number
returns-in-None-read_number c =
    no_number c.args.text.now (c.in-Some.digits, c.in-Some.unit) c.in-Some.ensures.cases
    (sym c.in-None-read_number.ensures)

pub returns-in-Some-read_number : goal.returns-in-Some-read_number
returns-in-Some-read_number c =
    number_and_unit c.args.text.now (c.in-Some.digits, c.in-Some.unit) c.in-Some-read_number.number
    c.in-Some.ensures.cases (sym c.in-Some-read_number.ensures)
