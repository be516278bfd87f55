use Rattle.share_model.proofs.lemmas.run.ChainLemmas.{chain-shares}
use Rattle.share_core.proofs.laws.shares_of_calls.Goals as goal

pub returns : goal.returns
returns g c =
    λ later one other one_tickets other_tickets apart none chain both.
    chain-shares g.W.TellingWriter.told g.W.TellingWriter.answers g.met.W.TellingWriter.tells one other one_tickets
    other_tickets apart c.args.engine.now later c.events.ensures.range c.events.ensures.sound chain none both
