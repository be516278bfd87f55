-- Each writer does what its `told` says.
use Rattle.std.specs.Prelude.{ℕ, List, Option, Some, None}
use Rattle.std.proofs.Common.{arith, ap, refl}
use Rattle.share_model.specs.declared.writer.Answer.{Answer}
use Rattle.share_model.specs.declared.writer.Answer.TheVariants.{Accepted, Interrupted, Failed}
use Rattle.share_model.specs.io.Scripted.{ScriptedState, ScriptedAnswers}
use Rattle.share_model.specs.io.Told.{Told, WasTold, TapeAnswers, PlainAnswers}

pub tape_tells : (before : Told) (piece : List ℕ) (answer : Answer) (after : Told)
    → TapeAnswers before piece answer after → WasTold (Some before) piece answer (Some after)
tape_tells before piece (Accepted k) after did = (omega (arith, did.0), ap Some did.1)
tape_tells before piece Interrupted after did = absurd did
tape_tells before piece Failed after did = ap Some did

pub scripted_tells : (before : ScriptedState) (piece : List ℕ) (answer : Answer) (after : ScriptedState)
    → ScriptedAnswers before piece answer after → WasTold (Some before.told) piece answer (Some after.told)
scripted_tells before piece (Accepted k) after did = (did.fits, ap Some did.told)
scripted_tells before piece Interrupted after did = ap Some did.told
scripted_tells before piece Failed after did = ap Some did.told

-- a writer of which no counts are known reports nothing
pub plain_tells : (old : Option (List ℕ)) (piece : List ℕ) (answer : Answer) (new : Option (List ℕ))
    → PlainAnswers old piece answer new → WasTold None piece answer None
plain_tells old piece (Accepted k) new did = (did.0, refl)
plain_tells old piece Interrupted new did = refl
plain_tells old piece Failed new did = refl
