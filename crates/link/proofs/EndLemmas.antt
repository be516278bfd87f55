-- The end of a service, from the ends of the calls that it made.
use Rattle.std.proofs.Common.{ℕ, Bool, List, Option, sym, true≢false}
use Rattle.std.specs.Prelude.{Result, Ok, Err, IsOk, IsErr, OnOk, MatchResult}
use Rattle.share_journal.specs.Entries.{JournalView}
use Rattle.share_model.specs.declared.writer.Answer.{Answer}
use Rattle.share_model.specs.io.Told.{Told}
use Rattle.share_served.specs.Shutdown.{WasServed}
use Rattle.link.specs.Serves.{HasServed}

pub has_served : {X Y E F K O : Type 0} (kept : K → JournalView → Bool → Type 0) (told : O → Option Told)
    (answers : O → List ℕ → Answer → O → Type 0) (keep : K) (output after : O) (result : Result X E)
    (served : Result Y F) → MatchResult result (λ _. IsOk served) (λ _. IsErr served)
    → OnOk served (WasServed kept told answers keep output after) → OnOk result (HasServed kept told answers)
has_served kept told answers keep output after (Ok x) (Ok y) is was =
    record { keep = keep; output = output; after = after; served = was }
has_served kept told answers keep output after (Ok x) (Err fault) is was = absurd (true≢false (sym is))
has_served kept told answers keep output after (Err fault) served is was = tt
