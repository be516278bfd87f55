use Rattle.share_model.proofs.lemmas.text.TalkLemmas.{change-says}
use Rattle.share_script.proofs.CallLemmas.{command-called}
use Rattle.share_script.proofs.answers.change.Goals as goal

pub returns-clause-says : goal.returns-clause-says
returns-clause-says g c first =
    change-says _ c.args.engine.now c.command.new.self first c.args.command c.command.result
    c.command.ensures.fields c.command.ensures.did

pub returns-clause-called : goal.returns-clause-called
returns-clause-called g c =
    command-called _ c.args.engine.now c.command.new.self c.args.command c.command.result c.command.ensures.did
