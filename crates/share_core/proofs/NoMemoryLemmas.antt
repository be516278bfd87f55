-- Calls that found no memory.
use Rattle.std.proofs.Common.{◌≡◌, Option, None, Result, Ok, Err, IfErr, inr}
use Rattle.std.specs.Result.{IsErr, IsErrAnd}
use Rattle.share_base.specs.Refusal.{IsRefused}
use Rattle.share_base.specs.declared.refusal.Refusal.{Refusal}
use Rattle.share_base.specs.declared.refusal.Refusal.TheVariants.{NoMemory}

-- if nothing else refuses a call, lack of memory does
pub refused-memory : {T : Type 0} (r : Result T Refusal) (stands : Option Refusal) → stands ≡ None
    → IsErr r × IsErrAnd r (λ e. e ≡ NoMemory) → IfErr r (IsRefused stands)
refused-memory (Ok x) stands none said = tt
refused-memory (Err e) stands none said = inr (none, said.1)
