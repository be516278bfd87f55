use Rattle.share_model.specs.io.Calls.{no_call}
use Rattle.share_model.proofs.lemmas.text.TalkLemmas.{audit-refused, audit-says}
use Rattle.share_script.proofs.answers.audit.Goals as goal

pub returns-then-not-first-clause-says : goal.returns-then-not-first-clause-says
returns-then-not-first-clause-says g c =
    rw (c.refusal_answer.ensures, c.if-not-first.true)
    (audit-refused g.W.TellingWriter.told c.args.engine.now c.args.version)

pub returns-then-not-first-clause-called : goal.returns-then-not-first-clause-called
returns-then-not-first-clause-called g c = no_call

pub returns-clause-says : goal.returns-clause-says
returns-clause-says g c =
    rw c.if-not-first.false
    (audit-says g.W.TellingWriter.told c.args.engine.now c.choose.new.self c.args.version c.choose.ensures)

pub returns-clause-called : goal.returns-clause-called
returns-clause-called g c = rw c.choose.ensures no_call
