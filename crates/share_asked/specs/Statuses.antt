-- The exit status of a run of a script, by how the run ended.
use Rattle.std.specs.Prelude.{◌≡◌, ◌⊎◌, ◌^◌, ℕ, Bool, true, false, List}
use Rattle.std.specs.Process.{exit_status}
use Rattle.std.specs.declared.process.ExitCode.{ExitCode}
use Rattle.share_model.specs.declared.reader.Got.{Got}
use Rattle.share_model.specs.declared.writer.Answer.{Answer}
use Rattle.share_model.specs.io.Calls.{HasRead, Offers, ReadsToEnd}
use Rattle.share_runs.specs.Strict.{EndsAtRefusal}

-- The end of a strict run, by its status. With 0 the script was read to its end, and every offer was accepted. With 1
-- the output ended at a refusal.
abbrev pub EndsStrictly : {R W : Type 0} → (R → List ℕ → Got → R → Type 0) → (W → List ℕ → Answer → W → Type 0)
    → (W → Bool) → R → R → W → W → ExitCode → Type 0
EndsStrictly gives answers mark input rest output after status =
    ((exit_status status ≡ 0) × ReadsToEnd gives (2 ^ 32) input rest × Offers answers output after)
    ⊎ ((exit_status status ≡ 1) × HasRead gives (2 ^ 32) input rest × EndsAtRefusal answers mark output)

-- a strict run of this script, by a reader over it and to a writer without the mark, ended with this status
pub record RanStrictly {R S W : Type 0} (gives : R → List ℕ → Got → R → Type 0) (over : R → S)
    (answers : W → List ℕ → Answer → W → Type 0) (mark : W → Bool) (script : S) (status : ExitCode) : Type 0 where
  pub input : R
  pub rest : R
  pub output : W
  pub after : W
  pub is_over : over input ≡ script
  pub has_no_mark : mark output ≡ false
  pub ends : EndsStrictly gives answers mark input rest output after status

-- a run of this script, by a reader over it, read it to its end and had its offers accepted, and the status is 0
pub record RanWhole {R S W : Type 0} (gives : R → List ℕ → Got → R → Type 0) (over : R → S)
    (answers : W → List ℕ → Answer → W → Type 0) (script : S) (status : ExitCode) : Type 0 where
  pub input : R
  pub rest : R
  pub output : W
  pub after : W
  pub is_over : over input ≡ script
  pub reads : ReadsToEnd gives (2 ^ 32) input rest
  pub offers : Offers answers output after
  pub succeeds : exit_status status ≡ 0

-- a run is strict if the words ask for that, and otherwise whole
abbrev pub IsAsAsked : Bool → Type 0 → Type 0 → Type 0
IsAsAsked true ran_strictly ran_whole = ran_strictly
IsAsAsked false ran_strictly ran_whole = ran_whole

-- this holds of some script
pub record OfSomeScript {S : Type 0} (P : S → Type 0) : Type 0 where
  pub script : S
  pub holds : P script
