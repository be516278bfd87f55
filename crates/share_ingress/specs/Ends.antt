-- The view of the two sides of the queue in contracts, and the effects of their calls.
use Rattle.std.specs.Prelude.{◌≡◌, ◌⊎◌, ◌^◌, ℕ, suc, zero, Bool, false, not, ◌&&◌, ◌||◌, nat_le, List, [], ◌∷◌}
use Rattle.std.specs.Prelude.{◌++◌, ◌+◌, ◌-◌, ◌<◌, length, min, slice_index, Option}
use Rattle.crossbeam_queue.specs.Fifo.{Held}
use Rattle.share_base.specs.declared.refusal.Refusal.{Refusal}
use Rattle.share_base.specs.declared.refusal.Refusal.TheVariants.{Range}
use Rattle.share_base.specs.Refusal.{first_refusal}
use Rattle.share_model.specs.declared.ingress.Offer.{Offer}
use Rattle.share_model.specs.ingress.Queue.{offer, of_worker, has, Begins, IsWorker}
use Rattle.share_ingress.specs.Names.{LinkName}
use Rattle.share_ingress.specs.declared.ends.Offered.{Offered}
use Rattle.share_ingress.specs.declared.ends.Offered.TheVariants.{Queued, Full}

-- the name of the queue, the most offers that it holds, the worker, the pushed offers, and the number that a full queue
-- refused
pub record EndView : Type 0 where
  pub link : LinkName
  pub capacity : ℕ
  pub worker : ℕ
  pub pushed : List Offer
  pub refused : ℕ

-- the name of the queue, the most offers that it holds, and the number of its workers. Then come what was popped, and
-- what was queued just after the last pop. Last come the workers whose ends were joined to the intake, and the number
-- of pops that found nothing
pub record IntakeView : Type 0 where
  pub link : LinkName
  pub capacity : ℕ
  pub workers : ℕ
  pub popped : List Offer
  pub ahead : List Offer
  pub closed : List ℕ
  pub missed : ℕ

-- the number of these offers of each of eight workers
abbrev pub CountsByWorker : List ℕ → List Offer → Type 0
CountsByWorker counts os =
    (length counts ≡ 8) × ((w : ℕ) → w < 8 → slice_index counts w ≡ length (of_worker (suc w) os))

-- a count raised by one, up to the greatest number of 64 bits
abbrev pub one_higher : ℕ → ℕ
one_higher n = min (n + 1) (2 ^ 64 - 1)

abbrev pub raises : ℕ → ℕ → ℕ
raises n zero = n
raises n (suc k) = one_higher (raises n k)

-- A new queue

abbrev pub is_out_of_range : ℕ → ℕ → Bool
is_out_of_range most n = not (nat_le 1 n && nat_le n most)

-- why no queue is made, memory aside: it has 1 to 1024 places, and 1 to 8 workers
abbrev pub queue_refusal : ℕ → ℕ → Option Refusal
queue_refusal capacity workers =
    first_refusal ((is_out_of_range 1024 capacity || is_out_of_range 8 workers, Range) ∷ [])

abbrev pub new_end : LinkName → ℕ → ℕ → EndView
new_end link capacity worker = record {
  link = link;
  capacity = capacity;
  worker = worker;
  pushed = [];
  refused = 0;
}

-- the ends of the workers, numbered from 1
abbrev pub new_ends : LinkName → ℕ → ℕ → List EndView
new_ends link capacity zero = []
new_ends link capacity (suc n) = new_ends link capacity n ++ new_end link capacity (suc n) ∷ []

abbrev pub new_intake : LinkName → ℕ → ℕ → IntakeView
new_intake link capacity workers = record {
  link = link;
  capacity = capacity;
  workers = workers;
  popped = [];
  ahead = [];
  closed = [];
  missed = 0;
}

-- The effect of a call

abbrev pub with_offer : EndView → List ℕ → List ℕ → EndView
with_offer e name parcel =
    record e { pushed = e.pushed ++ offer e.worker (suc (length e.pushed)) name parcel ∷ [] }

-- one more offer came back
abbrev pub with_refusal : EndView → EndView
with_refusal e = record e { refused = one_higher e.refused }

-- one more pop found nothing
abbrev pub with_miss : IntakeView → IntakeView
with_miss i = record i { missed = one_higher i.missed }

-- an offer came back. The queue was full at some moment, when its offers of this worker were what this end pushed last,
-- and that is counted. Or the end has pushed 2^40 offers, and the queue was not asked
abbrev pub CameBack : EndView → EndView → Type 0
CameBack old new =
    ((length old.pushed ≡ 2 ^ 40) × (new ≡ old))
    ⊎ ((new ≡ with_refusal old)
    × Held old.capacity (λ items. (before : List Offer) × (old.pushed ≡ before ++ of_worker old.worker items)))

-- it was queued as the next offer of this worker, or came back
abbrev pub OfferCall : EndView → List ℕ → List ℕ → Offered → EndView → Type 0
OfferCall old name parcel (Queued n) new = (n ≡ suc (length old.pushed)) × (new ≡ with_offer old name parcel)
OfferCall old name parcel (Full back) new = (back ≡ parcel) × CameBack old new

-- the first of what was ahead was popped: it has the next number of a worker whose end is not closed
pub record IsTake (old : IntakeView) (o : Offer) (new : IntakeView) : Type 0 where
  pub popped : new ≡ record old { popped = old.popped ++ o ∷ []; ahead = new.ahead }
  pub front : Begins (o ∷ new.ahead) old.ahead
  pub known : IsWorker old.workers o.worker
  pub number : o.n ≡ suc (length (of_worker o.worker old.popped))
  pub still : has o.worker old.closed ≡ false
