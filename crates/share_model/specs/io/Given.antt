-- The bytes that a reader says that it gave.
use Rattle.std.specs.Prelude.{◌<◌, ◌≤◌, ℕ, List, [], length, take, Option}
use Rattle.std.specs.Io.KnownBytes.{Consumes, Keeps, IsAtEnd}
use Rattle.share_model.specs.declared.reader.Got.{Got}
use Rattle.share_model.specs.declared.reader.Got.TheVariants.{Bytes, End, Interrupted, Failed}

-- n bytes, at least 1, came from the front of what was left; at the end nothing is left; otherwise nothing changed
abbrev pub Gives : Option (List ℕ) → List ℕ → Got → Option (List ℕ) → Type 0
Gives old buffer (Bytes n) new = (0 < n) × (n ≤ length buffer) × Consumes old new (take n buffer)
Gives old buffer End new = Consumes old new [] × IsAtEnd new
Gives old buffer Interrupted new = Keeps old new
Gives old buffer Failed new = Keeps old new
