use Rattle.std.specs.Prelude.{Err}
use Rattle.std.proofs.Common.{ap, refl}
use Rattle.share_model.proofs.lemmas.text.TalkLemmas.{holds-empty}
use Rattle.share_script.proofs.RunLemmas.{stands_first, printed_first, part_first, fold_first}
use Rattle.share_script.proofs.StopLemmas.{told_fault, memory_first}
use Rattle.share_script.proofs.script.run_script.Goals as goal

pub returns-in-Err-clause-fold : goal.returns-in-Err-clause-fold
returns-in-Err-clause-fold g c =
    part_first _ _ _ _ c.args.engine c.new-session.result c.new-session.ensures c.in-Err.ensures.printed

pub returns-in-Err-clause-input : goal.returns-in-Err-clause-input
returns-in-Err-clause-input g c is = c.in-Err.ensures.input (ap Err (told_fault is refl))

pub returns-in-Err-clause-output : goal.returns-in-Err-clause-output
returns-in-Err-clause-output g c is = c.in-Err.ensures.output (ap Err (told_fault is refl))

pub returns-in-Err-clause-memory : goal.returns-in-Err-clause-memory
returns-in-Err-clause-memory g c is =
    memory_first _ _ _ _ _ _ c.args.engine c.new-session.result _ _ c.new-session.ensures
    (c.in-Err.ensures.memory (ap Err (told_fault is refl)))

pub returns-in-Ok-clause-fold : goal.returns-in-Ok-clause-fold
returns-in-Ok-clause-fold g c =
    fold_first _ _ _ _ c.args.engine c.into_engine.result c.events.ensures.life c.events.ensures.range
    (printed_first _ _ _ _ c.args.engine c.into_engine.result c.new-session.result c.run_lines.new.session
    c.new-session.ensures c.into_engine.ensures c.in-Ok.ensures.printed)

pub run_lines-requires : goal.run_lines-requires
run_lines-requires g c = record {
  start = stands_first c.args.engine c.new-session.result c.new-session.ensures
      (holds-empty c.args.engine c.events.ensures.range c.requires.fresh c.requires.empty);
}
