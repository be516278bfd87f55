use Rattle.std.proofs.Common.{◌∙◌, ap}
use Rattle.share_model.proofs.lemmas.link.VersionLemmas.{turn-version}
use Rattle.share_journal.proofs.ArrivalLemmas.{arrivals-turn}
use Rattle.share_journal.specs.Arrivals.{arrivals}
use Rattle.share_locked.proofs.locked.Locked.turn.Goals as goal

pub invariant_of-self : goal.invariant_of-self
invariant_of-self g c = (
  c.self.invariant.0,
  ap arrivals c.turn.ensures.entry ∙ arrivals-turn _ c.turn.result ∙ c.self.invariant.1,
  c.self.invariant.2,
  turn-version _ _ g.W.TellingWriter.answers c.args.most c.turn.result c.turn.ensures.did ∙ c.self.invariant.3,
)
