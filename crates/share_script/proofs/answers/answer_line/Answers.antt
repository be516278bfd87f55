use Rattle.std.proofs.Common.{subst}
use Rattle.share_model.specs.io.Calls.{no_call}
use Rattle.share_model.specs.text.Lines.{HasFields}
use Rattle.share_model.proofs.lemmas.text.TalkLemmas.{send-says, report-says}
use Rattle.share_model.proofs.lemmas.text.TurnTalkLemmas.{torn-says}
use Rattle.share_script.proofs.AnswerLemmas.{as_said}
use Rattle.share_script.proofs.CallLemmas.{arrive-called, tear-called}
use Rattle.share_script.proofs.answers.answer_line.Goals as goal

pub returns-in-Send-clause-says : goal.returns-in-Send-clause-says
returns-in-Send-clause-says g c =
    as_said _ c.args.engine.now c.arrive.new.self c.args.first c.args.line _ _ c.in-Send.is
    (send-says _ c.args.engine.now c.arrive.new.self c.args.first c.in-Send.flow c.in-Send.body c.arrive.result
    (c.arrive.ensures.fields.0, c.arrive.ensures.fields.1, (subst HasFields c.in-Send.is c.requires.fields).2)
    c.arrive.ensures.did)

pub returns-in-Send-clause-called : goal.returns-in-Send-clause-called
returns-in-Send-clause-called g c =
    arrive-called _ c.args.engine.now c.arrive.new.self c.in-Send.flow c.in-Send.body.payload c.arrive.result
    c.arrive.ensures.did

pub returns-in-Torn-clause-says : goal.returns-in-Torn-clause-says
returns-in-Torn-clause-says g c =
    as_said _ c.args.engine.now c.tear.new.self c.args.first c.args.line _ _ c.in-Torn.is
    (torn-says _ c.args.engine.now c.tear.new.self c.args.first c.tear.result c.tear.ensures)

pub returns-in-Torn-clause-called : goal.returns-in-Torn-clause-called
returns-in-Torn-clause-called g c = tear-called _ c.args.engine.now c.tear.new.self c.tear.result c.tear.ensures

pub returns-in-Report-clause-says : goal.returns-in-Report-clause-says
returns-in-Report-clause-says g c =
    as_said _ c.args.engine.now c.args.engine.now c.args.first c.args.line _ _ c.in-Report.is
    (report-says _ c.args.engine.now c.args.first)

pub returns-in-Audit-clause-says : goal.returns-in-Audit-clause-says
returns-in-Audit-clause-says g c =
    as_said _ c.args.engine.now c.audit.new.engine c.args.first c.args.line _ _ c.in-Audit.is c.audit.ensures.says

pub returns-in-Report-clause-called : goal.returns-in-Report-clause-called
returns-in-Report-clause-called g c = no_call

pub returns-in-Audit-clause-called : goal.returns-in-Audit-clause-called
returns-in-Audit-clause-called g c = c.audit.ensures.called
