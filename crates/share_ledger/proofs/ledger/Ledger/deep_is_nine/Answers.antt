use Rattle.share_model.proofs.lemmas.funding.DeepFundingLemmas.{deep-is-nine}
use Rattle.share_ledger.proofs.ledger.Ledger.deep_is_nine.Goals as goal

pub returns : goal.returns
returns c = deep-is-nine c.args.self.now
