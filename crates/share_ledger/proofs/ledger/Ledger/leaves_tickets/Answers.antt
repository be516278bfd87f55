use Rattle.share_model.proofs.lemmas.funding.HolderLemmas.{leaves-tickets}
use Rattle.share_ledger.proofs.ledger.Ledger.leaves_tickets.Goals as goal

pub returns : goal.returns
returns c = leaves-tickets c.args.self.now
