use Rattle.share_model.specs.link.Gains.{GainsAreWithinShares}
use Rattle.share_locked.specs.Chains.{links_of}
use Rattle.share_locked.proofs.ChainLemmas.{chain-links}
use Rattle.share_locked.proofs.laws.shares_of_locked_calls.Goals as goal

pub returns-clause-calls : goal.returns-clause-calls
returns-clause-calls g c =
    λ later one other one_tickets other_tickets apart none chain both.
    let calls : GainsAreWithinShares g.W.TellingWriter.answers c.args.locked.now.recorder.link =
    rw (← c.recorder.ensures.recorder) c.shares_of_recorders.ensures.calls in
    calls (links_of later) one other one_tickets other_tickets apart none
    (chain-links g.W.TellingWriter.answers c.args.locked.now later chain) both

pub returns-clause-within : goal.returns-clause-within
returns-clause-within g c = rw (← c.recorder.ensures.recorder) c.shares_of_recorders.ensures.within

pub returns-clause-uncapped : goal.returns-clause-uncapped
returns-clause-uncapped g c = rw (← c.recorder.ensures.recorder) c.shares_of_recorders.ensures.uncapped
