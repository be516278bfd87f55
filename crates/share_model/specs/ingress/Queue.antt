-- The rule of the queue from the workers to the link. The end of a worker pushed what the intake popped of it, and then
-- what the queue holds of it.
use Rattle.std.specs.Prelude.{◌≡◌, ◌≤◌, ℕ, suc, Bool, true, false, ◌||◌, nat_eq, List, [], ◌∷◌, ◌++◌, length}
use mathlib.Core.Option.{some}
use lib.ListN.{get_elem?}
use Rattle.share_model.specs.lists.Each.{Each}
use Rattle.share_model.specs.declared.ingress.Offer.{Offer}
use Rattle.share_model.specs.declared.ingress.QueueView.{QueueView}

abbrev pub offer : ℕ → ℕ → List ℕ → List ℕ → Offer
offer worker n name parcel = record { worker = worker; n = n; name = name; parcel = parcel }

abbrev pub keep : Bool → Offer → List Offer → List Offer
keep true o os = o ∷ os
keep false o os = os

-- the offers of one worker
abbrev pub of_worker : ℕ → List Offer → List Offer
of_worker w [] = []
of_worker w (o ∷ os) = keep (nat_eq o.worker w) o (of_worker w os)

-- numbered from k + 1 on, one after the other
abbrev pub Numbered : ℕ → List Offer → Type 0
Numbered k [] = Unit {0}
Numbered k (o ∷ os) = (o.n ≡ suc k) × Numbered (suc k) os

abbrev pub Begins : List Offer → List Offer → Type 0
Begins os front = (rest : List Offer) × (os ≡ front ++ rest)

abbrev pub has : ℕ → List ℕ → Bool
has w [] = false
has w (v ∷ vs) = nat_eq v w || has w vs

-- The views of the intake and the ends

abbrev pub an_end : ℕ → List Offer → QueueView
an_end worker pushed = record {
  gets = false;
  sends = true;
  worker = worker;
  pushed = pushed;
  popped = [];
  ahead = [];
  made = 0;
  closed = [];
}

abbrev pub an_intake : ℕ → List Offer → List Offer → List ℕ → QueueView
an_intake made popped ahead closed = record {
  gets = true;
  sends = false;
  worker = 0;
  pushed = [];
  popped = popped;
  ahead = ahead;
  made = made;
  closed = closed;
}

-- an intake and an end together
abbrev pub a_host : QueueView → QueueView → QueueView
a_host intake end = record {
  gets = true;
  sends = true;
  worker = end.worker;
  pushed = end.pushed;
  popped = intake.popped;
  ahead = intake.ahead;
  made = intake.made;
  closed = intake.closed;
}

abbrev pub a_spent_side : QueueView
a_spent_side = record {
  gets = false;
  sends = false;
  worker = 0;
  pushed = [];
  popped = [];
  ahead = [];
  made = 0;
  closed = [];
}

-- The rule

-- the workers of a queue are numbered from 1
abbrev pub IsWorker : ℕ → ℕ → Type 0
IsWorker workers w = (1 ≤ w) × (w ≤ workers)

-- each worker has one end, which was made and is not closed; what it pushed was popped or is queued
pub record IsEnd (pass_of : ℕ → ℕ) (got items : List Offer) (made : ℕ) (shut : ℕ → Bool) (pass : ℕ) (v : QueueView)
    : Type 0
  where
    pub alone : pass ≡ pass_of v.worker
    pub known : IsWorker made v.worker
    pub still : shut v.worker ≡ false
    pub pushed : v.pushed ≡ of_worker v.worker got ++ of_worker v.worker items

-- there is one intake, which knows all that was popped; what it saw ahead is still in front
pub record IsIntake (reader : ℕ) (got items : List Offer) (made : ℕ) (shut : ℕ → Bool) (pass : ℕ) (v : QueueView)
    : Type 0 where
  pub alone : pass ≡ reader
  pub popped : v.popped ≡ got
  pub made_is : v.made ≡ made
  pub closed : (w : ℕ) → shut w ≡ has w v.closed
  pub ahead : Begins items v.ahead

pub record KeepsOrder (items : List Offer) (views : List QueueView) : Type 0 where
  -- the pass of the intake, and that of each worker's end
  pub reader : ℕ
  pub pass_of : ℕ → ℕ
  pub got : List Offer
  pub made : ℕ
  pub shut : ℕ → Bool
  pub known : Each (λ o. IsWorker made o.worker) (got ++ items)
  pub numbered : (w : ℕ) → Numbered 0 (of_worker w got ++ of_worker w items)
  pub emptied : (w : ℕ) → shut w ≡ true → IsWorker made w × (of_worker w items ≡ [])
  pub ends : (pass : ℕ) (v : QueueView) → get_elem? views pass ≡ some v → v.sends ≡ true
      → IsEnd pass_of got items made shut pass v
  pub intake : (pass : ℕ) (v : QueueView) → get_elem? views pass ≡ some v → v.gets ≡ true
      → IsIntake reader got items made shut pass v

-- The facts that a step gives

-- the end pushed x
abbrev pub Put : QueueView → Offer → QueueView → Type 0
Put v x w = w ≡ an_end v.worker (v.pushed ++ x ∷ [])

-- the items of this worker in the queue are those that its end pushed last
abbrev pub OwnLast : QueueView → List Offer → Type 0
OwnLast v items = (before : List Offer) × (v.pushed ≡ before ++ of_worker v.worker items)

-- the intake popped x: the first of what was ahead, with the next number of a worker whose end is not closed
pub record Taken (v : QueueView) (x : Offer) (w : QueueView) : Type 0 where
  pub view_is : w ≡ an_intake v.made (v.popped ++ x ∷ []) w.ahead v.closed
  pub front : Begins (x ∷ w.ahead) v.ahead
  pub known : IsWorker v.made x.worker
  pub number : x.n ≡ suc (length (of_worker x.worker v.popped))
  pub still : has x.worker v.closed ≡ false

-- the items that were ahead at the last pop are still in front
abbrev pub StillAhead : QueueView → List Offer → Type 0
StillAhead v items = Begins items v.ahead

-- the items that the end beside the intake pushed are those that were popped of it, and then its own in the queue
abbrev pub Behind : QueueView → List Offer → Type 0
Behind v items = v.pushed ≡ of_worker v.worker v.popped ++ of_worker v.worker items
