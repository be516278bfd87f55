-- The outcome of jobs that are run in threads of their own.
use Rattle.std.specs.Prelude.{◌≡◌, ◌≢◌, ◌⊎◌, ⊤, ℕ, List, [], ◌∷◌, Option}
use Rattle.share_model.specs.declared.reader.Got.{Got}
use Rattle.share_ingress.specs.GateCalls.{GateCall}
use Rattle.share_ingress.specs.Gates.{WorkerRanOut}
use Rattle.share_ingress.specs.Reader.{left_of}
use Rattle.share_ingress.specs.Workers.{Worked}
use Rattle.share_ingress.specs.declared.threads.Job.{Job}
use Rattle.share_ingress.specs.declared.workers.Done.{Done}
use Rattle.share_ingress.specs.declared.workers.Why.TheVariants.{NotStarted}

-- the job was not started: its end and its gate come back as they were, and nothing was queued
abbrev pub IsNotStarted : {R G : Type 0} → Job R G → Done G → Type 0
IsNotStarted job done = done ≡ record { end = job.end; gate = job.gate; why = NotStarted; tally = 0 }

-- a worker did the job; the answer is not that it was never started
pub record IsWorkDone {R G : Type 0} (gives : R → List ℕ → Got → R → Type 0) (left : R → Option (List ℕ))
    (told : G → GateCall → G → Type 0) (job : Job R G) (done : Done G) : Type 0 where
  pub started : done.why ≢ NotStarted
  pub worked : Worked (left_of left job.reader) job.end done.end done.tally done.why
  pub ran : WorkerRanOut gives told job.reader job.end job.gate done.tally done.why done.end done.gate

-- some job of which `is` holds was done
pub record IsDoneOfOne {R G : Type 0} (is : Job R G → Type 0) (gives : R → List ℕ → Got → R → Type 0)
    (left : R → Option (List ℕ)) (told : G → GateCall → G → Type 0) (done : Done G) : Type 0 where
  pub job : Job R G
  pub one : is job
  pub work : IsWorkDone gives left told job done

-- `is` holds of x and of nothing else
abbrev pub IsOnly : {X : Type 0} → (X → Type 0) → X → Type 0
IsOnly {X} is x = is x × ((y : X) → is y → y ≡ x)

abbrev pub IsJobDone : {R G : Type 0} → (R → List ℕ → Got → R → Type 0) → (R → Option (List ℕ))
    → (G → GateCall → G → Type 0) → Job R G → Done G → Type 0
IsJobDone gives left told job done = IsWorkDone gives left told job done ⊎ IsNotStarted job done

-- the lists are of one length, and each item matches the item at its place in the other list
abbrev pub Matches : {A B : Type 0} → (A → B → Type 0) → List A → List B → Type 0
Matches P [] [] = ⊤
Matches P [] (y ∷ ys) = ⊥
Matches P (x ∷ xs) [] = ⊥
Matches P (x ∷ xs) (y ∷ ys) = P x y × Matches P xs ys
