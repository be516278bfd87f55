use Rattle.share_model.proofs.lemmas.run.BillLemmas.{run-billed, run-past}
use Rattle.share_model.proofs.laws.accounts_are_bills.Goals as goal

pub returns-clause-account : goal.returns-clause-account
returns-clause-account c = run-billed

pub returns-clause-past : goal.returns-clause-past
returns-clause-past c = run-past
