-- The outcome of a queue whose ends are joined to its intake.
use Rattle.std.specs.Prelude.{◌≡◌, ◌≤◌, ◌<◌, ℕ, suc, zero, Bool, true, false, nat_eq, List, [], ◌∷◌, ◌++◌, length}
use Rattle.std.specs.Prelude.{Any, sum}
use Rattle.std.specs.List.{list_any}
use Rattle.share_model.specs.declared.ingress.Offer.{Offer}
use Rattle.share_model.specs.ingress.Queue.{of_worker, has, IsWorker}
use Rattle.share_model.specs.lists.Each.{Each}
use Rattle.share_ingress.specs.Ends.{EndView, IntakeView, IsTake}
use Rattle.share_ingress.specs.declared.ends.gather.WhyNot.{WhyNot}
use Rattle.share_ingress.specs.declared.ends.gather.WhyNot.TheVariants.{Mismatch, LeftOver, NoMemory}

-- one of the ends is that of this worker
abbrev pub has_end : ℕ → List EndView → Bool
has_end w ends = list_any (λ e. nat_eq e.worker w) ends

-- the ends of all workers are there
abbrev pub AllThere : ℕ → List EndView → Type 0
AllThere workers ends = (w : ℕ) → IsWorker workers w → has_end w ends ≡ true

-- the end of some worker is not there
abbrev pub IsMissing : ℕ → List EndView → Type 0
IsMissing workers ends = (w : ℕ) × IsWorker workers w × (has_end w ends ≡ false)

-- at least as many offers were popped of its worker as the end queued
abbrev pub IsTaken : List Offer → EndView → Type 0
IsTaken popped e = length e.pushed ≤ length (of_worker e.worker popped)

-- the end has queued more than was popped of its worker
abbrev pub HasLeft : List Offer → EndView → Type 0
HasLeft popped e = length (of_worker e.worker popped) < length e.pushed

-- the items that were popped of its worker are all that the end pushed
abbrev pub IsWhole : List Offer → EndView → Type 0
IsWhole popped e = e.pushed ≡ of_worker e.worker popped

-- the number of these offers of each worker, in the order of the workers
abbrev pub tallies_of : ℕ → List Offer → List ℕ
tallies_of zero os = []
tallies_of (suc n) os = tallies_of n os ++ length (of_worker (suc n) os) ∷ []

-- The ends were joined to the intake. Their workers are closed: no more offers can be taken. Nothing else of the
-- intake changed.
pub record Gathered (i : IntakeView) (ends : List EndView) (after : IntakeView) (tallies : List ℕ) : Type 0 where
  pub there : AllThere i.workers ends
  pub same : after ≡ record i { closed = after.closed }
  pub closed : (w : ℕ) → IsWorker i.workers w → has w after.closed ≡ true
  pub emptied : (o : Offer) (next : IntakeView) → IsTake after o next → ⊥
  pub whole : Each (IsWhole i.popped) ends
  pub tallies_are : tallies ≡ tallies_of i.workers i.popped
  pub total : sum tallies ≡ length i.popped

-- why the ends were not joined, in the order of the tests
abbrev pub RefusesToGather : WhyNot → IntakeView → List EndView → Type 0
RefusesToGather Mismatch i ends = IsMissing i.workers ends
RefusesToGather LeftOver i ends = AllThere i.workers ends × Any (HasLeft i.popped) ends
RefusesToGather NoMemory i ends = AllThere i.workers ends × Each (IsTaken i.popped) ends
