use Rattle.share_bill.proofs.SeenLemmas.{replies-same, accounts-same, clients-same, totals-same}
use Rattle.share_bill.proofs.SeenRowLemmas.{rows-same}
use Rattle.share_bill.proofs.laws.lengths_decide.Goals as goal

pub returns-clause-replies : goal.returns-clause-replies
returns-clause-replies c version rates one other same = replies-same version rates one other same

pub returns-clause-accounts : goal.returns-clause-accounts
returns-clause-accounts c version rates one other same = accounts-same version rates one other same

pub returns-clause-clients : goal.returns-clause-clients
returns-clause-clients c version rates one other same = clients-same version rates one other same

pub returns-clause-totals : goal.returns-clause-totals
returns-clause-totals c version rates one other same = totals-same version rates one other same

pub returns-clause-rows : goal.returns-clause-rows
returns-clause-rows c rates one other same = rows-same rates one other same
