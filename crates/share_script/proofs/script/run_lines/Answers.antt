use Rattle.std.specs.Prelude.{Err}
use Rattle.std.proofs.Common.{ap, refl}
use Rattle.std.proofs.lemmas.Result.{err_from_is_err_and}
use Rattle.share_model.specs.io.Calls.{read_to_end}
use Rattle.share_model.proofs.lemmas.io.CallLemmas.{offers_more}
use Rattle.share_script.specs.Script.{at_first, by_writer}
use Rattle.share_script.proofs.RunLemmas.{run_nothing, run_whole, run_part, run_last}
use Rattle.share_script.proofs.StopLemmas.{told_fault, stopped, stopped_as}
use Rattle.share_script.specs.declared.script.ScriptFault.TheVariants.{Input, Output, NoMemory}
use Rattle.share_script.proofs.script.run_lines.Goals as goal

pub returns-in_err-chunk-clause-printed : goal.returns-in_err-chunk-clause-printed
returns-in_err-chunk-clause-printed g c =
    let p = err_from_is_err_and c.from_residual.result c.from_residual.ensures.1 in
    rw p.1 (run_nothing _ _ c.args.session.now.link)

pub returns-in_err-carry-clause-printed : goal.returns-in_err-carry-clause-printed
returns-in_err-carry-clause-printed g c =
    let p = err_from_is_err_and c.from_residual-in_err-carry.result c.from_residual-in_err-carry.ensures.1 in
    rw p.1 (run_nothing _ _ c.args.session.now.link)

pub returns-in_err-spool-clause-printed : goal.returns-in_err-spool-clause-printed
returns-in_err-spool-clause-printed g c =
    let p = err_from_is_err_and c.from_residual-in_err-spool.result c.from_residual-in_err-spool.ensures.1 in
    rw p.1 (run_nothing _ _ c.args.session.now.link)

pub returns-in_err-read_all-clause-printed : goal.returns-in_err-read_all-clause-printed
returns-in_err-read_all-clause-printed g c =
    let p = err_from_is_err_and c.from_residual-in_err-read_all.result c.from_residual-in_err-read_all.ensures.1 in
    rw p.1 (run_part _ _ _ _ c.args.session.now c.requires.start c.in_err-read_all.ensures.fed)

pub returns-in_err-finish-clause-printed : goal.returns-in_err-finish-clause-printed
returns-in_err-finish-clause-printed g c =
    let p = err_from_is_err_and c.from_residual-in_err-finish.result c.from_residual-in_err-finish.ensures.1 in
    rw p.1
    (run_last _ _ _ _ _ c.args.session.now c.read_all.new.session c.read_all.new.pending.carry c.requires.start
    c.in_ok-read_all.ensures.fed c.in_err-finish.ensures.ends)

pub returns-clause-printed : goal.returns-clause-printed
returns-clause-printed g c =
    run_whole _ _ _ _ _ c.args.session.now c.read_all.new.session c.finish.new.session c.read_all.new.pending.carry
    c.requires.start
    c.in_ok-read_all.ensures.fed c.in_ok-finish.ensures.ends

pub returns-clause-offers : goal.returns-clause-offers
returns-clause-offers g c = offers_more c.in_ok-read_all.ensures.calls.1.offers c.in_ok-finish.ensures.calls.offers

pub returns-clause-read : goal.returns-clause-read
returns-clause-read g c = c.in_ok-read_all.ensures.calls.0

pub returns-in_err-read_all-clause-input : goal.returns-in_err-read_all-clause-input
returns-in_err-read_all-clause-input g c is =
    c.in_err-read_all.ensures.input (ap Err (told_fault is c.from_residual-in_err-read_all.ensures.1))

pub returns-in_err-read_all-clause-output : goal.returns-in_err-read_all-clause-output
returns-in_err-read_all-clause-output g c is =
    c.in_err-read_all.ensures.output (ap Err (told_fault is c.from_residual-in_err-read_all.ensures.1))

pub returns-in_err-read_all-clause-memory : goal.returns-in_err-read_all-clause-memory
returns-in_err-read_all-clause-memory g c is =
    let failed = c.in_err-read_all.ensures.memory (ap Err (told_fault is c.from_residual-in_err-read_all.ensures.1)) in
    by_writer _ failed.0 failed.1 failed.2

pub returns-in_err-finish-clause-input : goal.returns-in_err-finish-clause-input
returns-in_err-finish-clause-input g c is =
    stopped_as _ _ _ _ _ _ _ _ _ _ _ Input is c.from_residual-in_err-finish.ensures.1
    (stopped _ _ _ _ _ _ _ _ _ _ _ _ _ (read_to_end c.in_ok-read_all.ensures.calls.0) c.in_ok-read_all.ensures.calls.1
    c.in_err-finish.ensures.calls)

pub returns-in_err-finish-clause-output : goal.returns-in_err-finish-clause-output
returns-in_err-finish-clause-output g c is =
    stopped_as _ _ _ _ _ _ _ _ _ _ _ Output is c.from_residual-in_err-finish.ensures.1
    (stopped _ _ _ _ _ _ _ _ _ _ _ _ _ (read_to_end c.in_ok-read_all.ensures.calls.0) c.in_ok-read_all.ensures.calls.1
    c.in_err-finish.ensures.calls)

pub returns-in_err-finish-clause-memory : goal.returns-in_err-finish-clause-memory
returns-in_err-finish-clause-memory g c is =
    let failed =
    stopped_as _ _ _ _ _ _ _ _ _ _ _ NoMemory is c.from_residual-in_err-finish.ensures.1
    (stopped _ _ _ _ _ _ _ _ _ _ _ _ _ (read_to_end c.in_ok-read_all.ensures.calls.0) c.in_ok-read_all.ensures.calls.1
    c.in_err-finish.ensures.calls) in
    by_writer _ failed.0 failed.1 failed.2

pub returns-in_err-chunk-clause-memory : goal.returns-in_err-chunk-clause-memory
returns-in_err-chunk-clause-memory g c is = at_first refl refl

pub returns-in_err-carry-clause-memory : goal.returns-in_err-carry-clause-memory
returns-in_err-carry-clause-memory g c is = at_first refl refl

pub returns-in_err-spool-clause-memory : goal.returns-in_err-spool-clause-memory
returns-in_err-spool-clause-memory g c is = at_first refl refl
