-- The end of a strict run, from the end of the call that ran the script.
use Rattle.std.proofs.Common.{◌≡◌, ℕ, Bool, false, List}
use Rattle.std.specs.Prelude.{Result, Ok, Err, IfOk}
use Rattle.std.specs.declared.process.ExitCode.{ExitCode}
use Rattle.share_asked.specs.Statuses.{EndsStrictly, RanStrictly}
use Rattle.share_model.specs.declared.reader.Got.{Got}
use Rattle.share_model.specs.declared.writer.Answer.{Answer}

pub ran_strictly : {R S W E : Type 0} (gives : R → List ℕ → Got → R → Type 0) (over : R → S)
    (answers : W → List ℕ → Answer → W → Type 0) (mark : W → Bool) (script : S) (input rest : R) (output after : W)
    (result : Result ExitCode E) → over input ≡ script → mark output ≡ false
    → IfOk result (EndsStrictly gives answers mark input rest output after)
    → IfOk result (RanStrictly gives over answers mark script)
ran_strictly gives over answers mark script input rest output after (Ok status) is unmarked ends =
    record {
      input = input;
      rest = rest;
      output = output;
      after = after;
      is_over = is;
      has_no_mark = unmarked;
      ends = ends;
    }
ran_strictly gives over answers mark script input rest output after (Err fault) is unmarked ends = tt
