-- A text at a key that a table needs, and what it says.
use Rattle.std.proofs.Common.{◌≡◌, List, ℕ, Option, Some, None, refl}
use Rattle.toml.specs.Data.{Data, Members, get_member}
use Rattle.share_config.specs.Keys.{spelling}
use Rattle.share_config.specs.Sections.{value_in}
use Rattle.share_config.specs.declared.key.Key.{Key}
use Rattle.share_config.specs.declared.key.Location.{Location}
use Rattle.share_config.specs.declared.fault.Reason.{Reason}
use Rattle.share_config.specs.Reading.{◌>>=◌, found, text_in, needed, needed_in}

in_member : {A : Type 0} (read : List ℕ → Option A) (r : Reason) (p : Location) (k : Key) (d : Option Data)
    → needed_in (value_in read r) p k d ≡ (needed_in text_in p k d >>= λ text. found p k r (read text))
in_member read r p k None = refl
in_member read r p k (Some d) = refl

pub value_of_text : {A : Type 0} (read : List ℕ → Option A) (r : Reason) (p : Location) (k : Key) (ms : Members)
    → needed (value_in read r) p k ms ≡ (needed text_in p k ms >>= λ text. found p k r (read text))
value_of_text read r p k ms = in_member read r p k (get_member (spelling k) ms)
