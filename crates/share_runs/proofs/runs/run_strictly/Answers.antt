use Rattle.std.specs.Prelude.{Err}
use Rattle.std.proofs.Common.{◌≡◌, ap, inl, inr, rules}
use Rattle.share_script.specs.declared.script.ScriptFault.TheVariants.{Input, Output, NoMemory}
use Rattle.share_runs.proofs.runs.run_strictly.Goals as goal

pub returns-in_ok-end-in-Err-Output-clause-stops : goal.returns-in_ok-end-in-Err-Output-clause-stops
returns-in_ok-end-in-Err-Output-clause-stops g c same =
    let is : c.in-Err-Output.field-0 ≡ Output = search rules in
    record {
      last = c.run.new.output;
      calls = (c.in-Err-Output.ensures.output (ap Err is)).1;
      marked = search rules;
    }

pub returns-in_ok-end-in-Err-Output-clause-read : goal.returns-in_ok-end-in-Err-Output-clause-read
returns-in_ok-end-in-Err-Output-clause-read g c same =
    let is : c.in-Err-Output.field-0 ≡ Output = search rules in
    (c.in-Err-Output.ensures.output (ap Err is)).0

pub returns-in_err-end-in-Err-Output-clause-output : goal.returns-in_err-end-in-Err-Output-clause-output
returns-in_err-end-in-Err-Output-clause-output g c same =
    let is : c.in-Err-Output.field-0 ≡ Output = search rules in
    let ran = c.in-Err-Output.ensures.output (ap Err is) in (
      ran.0,
      inr
          record {
            last = c.run.new.output;
            calls = ran.1;
            marked = search rules;
            lost = c.in_err-end-in-Err-Output.ensures.lost;
          },
    )

pub returns-in-Err-clause-input : goal.returns-in-Err-clause-input
returns-in-Err-clause-input g c same =
    let is : c.in-Err.fault ≡ Input = cc (c.in-Err.fault-is, same) in c.in-Err.ensures.input (ap Err is)

pub returns-in-Err-clause-output : goal.returns-in-Err-clause-output
returns-in-Err-clause-output g c same =
    let is : c.in-Err.fault ≡ Output = cc (c.in-Err.fault-is, same) in
    let ran = c.in-Err.ensures.output (ap Err is) in (ran.0, inl ran.1)

pub returns-in-Err-clause-memory : goal.returns-in-Err-clause-memory
returns-in-Err-clause-memory g c same =
    let is : c.in-Err.fault ≡ NoMemory = search rules in c.in-Err.ensures.memory (ap Err is)
