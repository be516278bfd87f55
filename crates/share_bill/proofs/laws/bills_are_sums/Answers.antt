use Rattle.share_bill.proofs.RunLemmas.{bill-empty, bill-more, rows-are}
use Rattle.share_bill.proofs.laws.bills_are_sums.Goals as goal

pub returns-clause-first : goal.returns-clause-first
returns-clause-first c rates new book rates_are live tenants sent =
    bill-empty rates new book rates_are live tenants sent

pub returns-clause-next : goal.returns-clause-next
returns-clause-next c rates lines events old new line range was takes book =
    (takes.obeys.makes.event, bill-more rates range lines events old new was line takes book)

pub returns-clause-rows : goal.returns-clause-rows
returns-clause-rows c rates lines events bill is = rows-are rates lines events bill is
