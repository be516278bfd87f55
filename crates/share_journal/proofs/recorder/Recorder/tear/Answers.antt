use Rattle.share_model.proofs.lemmas.link.TurnLemmas.{tear-went}
use Rattle.share_model.proofs.lemmas.run.CallLemmas.{tear-ran}
use Rattle.share_journal.proofs.RunLemmas.{run-sound, turn-room, turn-kept}
use Rattle.share_journal.proofs.recorder.Recorder.tear.Goals as goal

pub note_turn-requires : goal.note_turn-requires
note_turn-requires g c =
    let went = tear-went c.self.inside.engine c.tear-turn.result c.tear-turn.new.self (run-sound c.self.invariant.2)
    c.tear-turn.ensures in
    turn-room g.W.TellingWriter.told c.self.inside.engine c.tear-turn.new.self c.self.inside.journal c.tear-turn.result
    c.self.invariant (tear-ran g.W.TellingWriter.told c.self.inside.engine c.tear-turn.new.self c.self.invariant.2.range
    c.tear-turn.result went)

pub invariant_of-self : goal.invariant_of-self
invariant_of-self g c =
    let went = tear-went c.self.inside.engine c.tear-turn.result c.tear-turn.new.self (run-sound c.self.invariant.2)
    c.tear-turn.ensures in
    turn-kept g.W.TellingWriter.told c.self.inside.engine c.tear-turn.new.self c.self.inside.journal c.tear-turn.result
    c.self.invariant (tear-ran g.W.TellingWriter.told c.self.inside.engine c.tear-turn.new.self c.self.invariant.2.range
    c.tear-turn.result went) c.note_turn.new.journal c.note_turn.ensures
