-- The state of a link and its writer at the end of a run.
use Rattle.std.specs.Prelude.{◌≡◌, ℕ, List, filter, nat_lt}
use Rattle.share_model.specs.declared.rates.Rate.{Rate}
use Rattle.share_model.specs.io.Told.{Told}
use Rattle.share_model.specs.link.Live.{Live}
use Rattle.share_model.specs.run.Fold.{State, out}
use Rattle.share_model.specs.run.Sound.{SoundState}

-- the link holds what a run left, and the state of the run is sound
pub record IsEndOf (life : ℕ) (rates : List Rate) (s : State) (l : Live) : Type 0 where
  pub live : s.live ≡ l
  pub sound : SoundState life rates s

-- the writer holds the bytes of the run, and the counts that it accepted, zeros left out, are these
pub record TellsRun (s : State) (writes : List ℕ) (t : Told) : Type 0 where
  pub bytes : t.bytes ≡ out s
  pub counts : filter (nat_lt 0) t.counts ≡ writes
