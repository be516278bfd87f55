use Rattle.std.specs.Prelude.{Err}
use Rattle.std.proofs.Common.{◌≡◌, [], ap, ◌∙◌, refl, rules}
use Rattle.std.proofs.lemmas.Result.{err_from_is_err_and}
use Rattle.share_model.specs.io.Told.{Told}
use Rattle.share_model.specs.io.Calls.{read_to_end}
use Rattle.share_model.proofs.lemmas.io.CallLemmas.{offers_more, refused_later}
use Rattle.share_runs.proofs.PrintoutLemmas.{over_new, ran_nothing, ran_part, ran_most, ran_whole}
use Rattle.share_runs.proofs.PrintoutLemmas.{told_fault, found_none}
use Rattle.share_script.specs.Script.{at_first}
use Rattle.share_runs.proofs.runs.run.Goals as goal

pub returns-in_default-clause-printed : goal.returns-in_default-clause-printed
returns-in_default-clause-printed g c = ran_nothing _ _ _ _

pub returns-in_err-engine-clause-printed : goal.returns-in_err-engine-clause-printed
returns-in_err-engine-clause-printed g c =
    let p = err_from_is_err_and c.from_residual.result c.from_residual.ensures.1 in
    rw p.1 (ran_part _ _ _ _ _ _ c.in-Ok.engine (over_new _ _ _ _ c.in-Ok.engine c.in-Ok.ensures.ok.0)
    c.in_err-engine.ensures.fold)

pub returns-in_default-clause-memory : goal.returns-in_default-clause-memory
returns-in_default-clause-memory g c is = at_first refl refl

pub returns-in_err-engine-clause-input : goal.returns-in_err-engine-clause-input
returns-in_err-engine-clause-input g c is =
    c.in_err-engine.ensures.input (ap Err (told_fault is c.from_residual.ensures.1))

pub returns-in_err-engine-clause-output : goal.returns-in_err-engine-clause-output
returns-in_err-engine-clause-output g c is =
    c.in_err-engine.ensures.output (ap Err (told_fault is c.from_residual.ensures.1))

pub returns-in_err-engine-clause-memory : goal.returns-in_err-engine-clause-memory
returns-in_err-engine-clause-memory g c is =
    let empty : c.in-Ok.engine.writer ≡ record { bytes = []; counts = [] } = search rules in
    found_none _ _ _ c.run_script.new.input _ _ c.run_script.new.output _ _ empty
    (c.in_err-engine.ensures.memory (ap Err (told_fault is c.from_residual.ensures.1)))

pub returns-in_err-printed-clause-printed : goal.returns-in_err-printed-clause-printed
returns-in_err-printed-clause-printed g c =
    let p = err_from_is_err_and c.from_residual-in_err-printed.result
    c.from_residual-in_err-printed.ensures.1 in
    rw p.1
    (ran_most _ _ _ _ _ _ _ c.in-Ok.engine c.in_ok-engine.engine _
    (over_new _ _ _ _ c.in-Ok.engine c.in-Ok.ensures.ok.0)
    (c.bytes.ensures ∙ ap (λ (t : Told). t.bytes) c.writer.ensures) c.in_ok-engine.ensures.fold
    c.in_err-printed.ensures.0)

pub returns-in_err-printed-clause-output : goal.returns-in_err-printed-clause-output
returns-in_err-printed-clause-output g c is = (
  read_to_end c.in_ok-engine.ensures.read,
  refused_later c.in_ok-engine.ensures.offers c.in_err-printed.ensures.1,
)

pub returns-clause-printed : goal.returns-clause-printed
returns-clause-printed g c =
    ran_whole _ _ _ _ _ _ _ c.in-Ok.engine c.in_ok-engine.engine _
    (over_new _ _ _ _ c.in-Ok.engine c.in-Ok.ensures.ok.0)
    (c.bytes.ensures ∙ ap (λ (t : Told). t.bytes) c.writer.ensures) c.in_ok-engine.ensures.fold
    c.in_ok-printed.ensures.0

pub returns-clause-offers : goal.returns-clause-offers
returns-clause-offers g c = offers_more c.in_ok-engine.ensures.offers c.in_ok-printed.ensures.1
