use Rattle.std.proofs.Common.{sym, ◌∙◌, refl}
use Rattle.share_model.proofs.lemmas.text.TurnTalkLemmas.{turn-says}
use Rattle.share_script.proofs.AnswerLemmas.{never_torn}
use Rattle.share_script.proofs.CallLemmas.{turn-called, torn-failed}
use Rattle.share_script.proofs.answers.turn.Goals as goal

pub returns-then-is_torn-clause-fault : goal.returns-then-is_torn-clause-fault
returns-then-is_torn-clause-fault g c = (
  refl,
  torn-failed g.W.TellingWriter.told g.W.TellingWriter.answers g.met.W.TellingWriter.tells c.requires.whole
      c.args.engine.now
      c.turn-turn.new.self c.args.most c.turn-turn.result
      c.events.ensures.sound c.requires.some (sym c.is_torn.ensures ∙ c.if-is_torn.true) c.turn-turn.ensures,
)

pub returns-clause-says : goal.returns-clause-says
returns-clause-says g c first =
    turn-says g.W.TellingWriter.told g.W.TellingWriter.answers g.met.W.TellingWriter.tells c.requires.whole
    c.args.engine.now
    c.turn-turn.new.self first c.args.most c.turn-turn.result
    c.requires.some c.turn-turn.ensures (never_torn c.turn-turn.result (sym c.is_torn.ensures ∙ c.if-is_torn.false))

pub returns-clause-called : goal.returns-clause-called
returns-clause-called g c =
    turn-called g.W.TellingWriter.answers c.args.engine.now c.turn-turn.new.self c.args.most c.turn-turn.result
    c.turn-turn.ensures
