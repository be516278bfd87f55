use Rattle.share_model.proofs.lemmas.run.ChainLemmas.{chain-shares}
use Rattle.share_model.proofs.laws.shares_of_calls.Goals as goal

pub returns : goal.returns
returns g c =
    λ first range sound later one other one_tickets other_tickets apart none chain both.
    chain-shares g.W.TellingWriter.told g.W.TellingWriter.answers g.met.W.TellingWriter.tells one other one_tickets
    other_tickets apart first later range sound chain none both
