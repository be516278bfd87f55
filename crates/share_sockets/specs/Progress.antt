-- The outcome of a call that does not wait.
use Rattle.std.specs.Prelude.{◌≡◌, ℕ, Bool, true, false, Result, Ok, MatchResult}
use Rattle.std.specs.IoError.{error_kind}
use Rattle.std.specs.declared.io.Error.{Error}
use Rattle.std.specs.declared.io.ErrorKind.TheVariants.{Interrupted}
use Rattle.share_sockets.specs.declared.progress.Progress.{Progress}
use Rattle.share_sockets.specs.declared.progress.Progress.TheVariants.{Moved, Again, Waits, Over}

-- the number of bytes that went
abbrev pub moved : Progress → ℕ
moved (Moved n) = n
moved Again = 0
moved Waits = 0
moved Over = 0

abbrev pub is_over : Progress → Bool
is_over (Moved n) = false
is_over Again = false
is_over Waits = false
is_over Over = true

-- the answer to a read that may be made again
abbrev pub IsPause : Result ℕ Error → Type 0
IsPause answer = MatchResult answer (λ _. ⊥) (λ fault. error_kind fault ≡ Interrupted)

-- the answer of a reader of std: bytes, a pause, or the end
abbrev pub ReadsAs : Progress → Result ℕ Error → Type 0
ReadsAs (Moved n) answer = answer ≡ Ok n
ReadsAs Again answer = IsPause answer
ReadsAs Waits answer = IsPause answer
ReadsAs Over answer = answer ≡ Ok 0
