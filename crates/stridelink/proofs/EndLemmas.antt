-- The end of a run of a script, from the ends of the calls that it made.
use Rattle.std.specs.Prelude.{Result, Ok, Err, IfOk}
use Rattle.std.specs.declared.process.ExitCode.{ExitCode}
use Rattle.share_asked.specs.Statuses.{OfSomeScript}

pub of_some_script : {S E : Type 0} (P : S → ExitCode → Type 0) (script : S) (result : Result ExitCode E)
    → IfOk result (λ status. P script status) → IfOk result (λ status. OfSomeScript (λ script. P script status))
of_some_script P script (Ok status) holds = record { script = script; holds = holds }
of_some_script P script (Err fault) holds = tt
