use Rattle.share_model.proofs.lemmas.link.TurnLemmas.{turn-went}
use Rattle.share_model.proofs.lemmas.run.CallLemmas.{turn-ran}
use Rattle.share_journal.proofs.RunLemmas.{run-sound, turn-room, turn-kept}
use Rattle.share_journal.proofs.recorder.Recorder.turn.Goals as goal

pub note_turn-requires : goal.note_turn-requires
note_turn-requires g c =
    let went = turn-went g.W.TellingWriter.told g.W.TellingWriter.answers g.met.W.TellingWriter.tells
    c.self.inside.engine c.args.most
    c.turn-turn.result c.turn-turn.new.self (run-sound c.self.invariant.2) c.turn-turn.ensures in
    turn-room g.W.TellingWriter.told c.self.inside.engine c.turn-turn.new.self c.self.inside.journal c.turn-turn.result
    c.self.invariant (turn-ran g.W.TellingWriter.told c.self.inside.engine c.turn-turn.new.self c.self.invariant.2.range
    c.args.most c.turn-turn.result went)

pub invariant_of-self : goal.invariant_of-self
invariant_of-self g c =
    let went = turn-went g.W.TellingWriter.told g.W.TellingWriter.answers g.met.W.TellingWriter.tells
    c.self.inside.engine c.args.most
    c.turn-turn.result c.turn-turn.new.self (run-sound c.self.invariant.2) c.turn-turn.ensures in
    turn-kept g.W.TellingWriter.told c.self.inside.engine c.turn-turn.new.self c.self.inside.journal c.turn-turn.result
    c.self.invariant (turn-ran g.W.TellingWriter.told c.self.inside.engine c.turn-turn.new.self c.self.invariant.2.range
    c.args.most c.turn-turn.result went) c.note_turn.new.journal c.note_turn.ensures
