-- A link that the program served.
use Rattle.std.specs.Prelude.{◌≡◌, ◌⊎◌, Bool, ℕ, List, Option}
use Rattle.std.specs.Process.{exit_status}
use Rattle.std.specs.declared.process.ExitCode.{ExitCode}
use Rattle.share_journal.specs.Entries.{JournalView}
use Rattle.share_model.specs.declared.writer.Answer.{Answer}
use Rattle.share_model.specs.io.Told.{Told}
use Rattle.share_served.specs.Shutdown.{WasServed}

-- a run without a fault, whose audit went to some keeper and whose report to some output
pub record HasServed {K O : Type 0} (kept : K → JournalView → Bool → Type 0) (told : O → Option Told)
    (answers : O → List ℕ → Answer → O → Type 0) : Type 0 where
  pub keep : K
  pub output : O
  pub after : O
  pub served : WasServed kept told answers keep output after

-- the status of a service: 0 only after a run without a fault, and otherwise 1
abbrev pub IsStatusOfService : Type 0 → ExitCode → Type 0
IsStatusOfService has_served status = (exit_status status ≡ 0 × has_served) ⊎ (exit_status status ≡ 1)
