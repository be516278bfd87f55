-- The errors that are failures of a call that does not wait.
use Rattle.std.specs.Prelude.{◌≢◌}
use Rattle.std.specs.IoError.{error_kind}
use Rattle.std.specs.declared.io.Error.{Error}
use Rattle.std.specs.declared.io.ErrorKind.TheVariants.{WouldBlock, Interrupted, ConnectionRefused}

-- neither that the socket is not ready, nor that a signal came first
abbrev pub IsFailure : Error → Type 0
IsFailure fault = (error_kind fault ≢ WouldBlock) × (error_kind fault ≢ Interrupted)

-- nor that a datagram that was sent before is refused
abbrev pub IsFailureUnrefused : Error → Type 0
IsFailureUnrefused fault = IsFailure fault × (error_kind fault ≢ ConnectionRefused)
