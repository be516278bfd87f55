-- The calls that a worker makes of its gate.
use Rattle.std.specs.Prelude.{◌≡◌, ◌⊎◌, ◌^◌, ◌+◌, ℕ, Bool, true, false, List, ◌++◌, length}
use Rattle.std.specs.Prelude.{None, Some}
use Rattle.crossbeam_queue.specs.Fifo.{Held}
use Rattle.share_model.specs.declared.ingress.Ended.{Ended}
use Rattle.share_model.specs.declared.ingress.Ended.TheVariants.{End, Cut, BadRecord, Fault, NoMemory, Bound}
use Rattle.share_model.specs.declared.ingress.Offer.{Offer}
use Rattle.share_model.specs.declared.reader.Got.{Got}
use Rattle.share_model.specs.ingress.Queue.{of_worker}
use Rattle.share_model.specs.io.Calls.{Reads}
use Rattle.share_ingress.specs.Ends.{EndView, with_offer, raises}
use Rattle.share_ingress.specs.GateCalls.{GateCall, item_next, item_queued, queue_full}
use Rattle.share_ingress.specs.Reader.{Reading, EndsBy, EndStands}
use Rattle.share_ingress.specs.declared.workers.Why.{Why}
use Rattle.share_ingress.specs.declared.workers.Why.TheVariants.{Ended as Over, Stopped, NotStarted}

-- the queue was full at some moment of an offer by this end, or the end has pushed 2^40 offers
abbrev pub WasFull : EndView → Type 0
WasFull e =
    (length e.pushed ≡ 2 ^ 40)
    ⊎ Held e.capacity (λ items. (before : List Offer) × (e.pushed ≡ before ++ of_worker e.worker items))

-- Calls: a relation `told` says what a call does to a gate, and what it answers

-- n times in turn the queue was full, and the gate answered that the item is to be offered again
pub data Again {G : Type 0} (told : G → GateCall → G → Type 0) (e : EndView) (first : G) : ℕ → G → Type 0 where
  not_again : Again told e first 0 first
  once_again : (n : ℕ) (before after : G) → Again told e first n before → WasFull e
      → told before (queue_full true) after → Again told e first (n + 1) after

-- the end's count was raised once for each round, unless the end has pushed 2^40 offers and the queue is not asked
abbrev pub CountsRefusals : EndView → ℕ → ℕ → Type 0
CountsRefusals e rounds refused = (length e.pushed ≡ 2 ^ 40) ⊎ (refused ≡ raises e.refused rounds)

-- the same, and each time used up one of these reads, and was counted by the end
pub record Waits {G : Type 0} (told : G → GateCall → G → Type 0) (e : EndView) (reads_left : ℕ) (first : G) (left : ℕ)
    (refused : ℕ) (last : G) : Type 0 where
  pub rounds : ℕ
  pub again : Again told e first rounds last
  pub spent : rounds + left ≡ reads_left
  pub came_back : CountsRefusals e rounds refused

-- the gate stopped the worker; or the item was to be offered again, and no turn was left
abbrev pub MayDrop : Why → Bool → ℕ → Type 0
MayDrop (Over End) again left = ⊥
MayDrop (Over Cut) again left = ⊥
MayDrop (Over BadRecord) again left = ⊥
MayDrop (Over Fault) again left = ⊥
MayDrop (Over NoMemory) again left = ⊥
MayDrop (Over Bound) again left = (again ≡ true) × (left ≡ 0)
MayDrop Stopped again left = again ≡ false
MayDrop NotStarted again left = ⊥

-- an item was offered again for some of these reads, and dropped when the queue was full once more
pub record Drops {G : Type 0} (told : G → GateCall → G → Type 0) (e : EndView) (reads_left : ℕ) (first : G) (left : ℕ)
    (refused : ℕ) (why : Why) (last : G) : Type 0 where
  pub asked : G
  pub earlier : ℕ
  pub waits : Waits told e reads_left first left earlier asked
  pub full : WasFull e
  pub came_back : CountsRefusals e (waits.rounds + 1) refused
  pub again : Bool
  pub answered : told asked (queue_full again) last
  pub reason : MayDrop why again left

-- items were queued one after the other. The gate was called before each was offered and when it was queued, and
-- between these once for each of its offers that came back. The second number counts these calls in all
pub data Queueing {G : Type 0} (told : G → GateCall → G → Type 0) (start : EndView) (first : G)
    : ℕ → ℕ → EndView → G → Type 0 where
  none_queued : Queueing told start first 0 0 start first
  one_queued : (items rounds more refused : ℕ) (e : EndView) (name payload : List ℕ) (before asked waited after : G)
      → Queueing told start first items rounds e before → told before (item_next (items + 1)) asked
      → Again told e asked more waited → CountsRefusals e more refused → told waited (item_queued (items + 1)) after
      → Queueing told start first (items + 1) (rounds + more)
      (record (with_offer e name payload) { refused = refused }) after

-- The work of a worker

-- reads that gave bytes or were interrupted, and rounds on a full queue; each used up a turn
pub record Spends {R : Type 0} (gives : R → List ℕ → Got → R → Type 0) (old : Reading R) (rounds : ℕ) (new : Reading R)
    : Type 0 where
  pub count : ℕ
  pub reads : Reads gives old.reader count new.reader
  pub reads_left : count + rounds + new.reads_left ≡ old.reads_left

-- the reader ended so by its next reads, or had ended so already, and then read no more
abbrev pub EndsNow : {R : Type 0} → (R → List ℕ → Got → R → Type 0) → Reading R → Ended → Reading R → Type 0
EndsNow gives now over left =
    (left.ended ≡ Some over) × EndStands gives left over
    × (((now.ended ≡ None) × EndsBy gives over now left) ⊎ (left ≡ now))

module _ {R G : Type 0} (gives : R → List ℕ → Got → R → Type 0) (told : G → GateCall → G → Type 0) where
  -- the item with this number was the next one, and was dropped; nothing was read after it
  pub record DropsNext (n : ℕ) (e : EndView) (now : Reading R) (why : Why) (first : G) (end : EndView) (last : G)
      (left : Reading R) : Type 0 where
    pub asked : G
    pub next : told first (item_next n) asked
    pub dropped : Drops told e now.reads_left asked left.reads_left end.refused why last
    pub same : end ≡ record e { refused = end.refused }
    pub unread : left ≡ record now { reads_left = left.reads_left }

  -- after the items that were queued the reader ended, and the gate got no more calls; or one more item was dropped
  abbrev pub Finishes : ℕ → EndView → Reading R → G → Why → EndView → G → Reading R → Type 0
  Finishes n e now first (Over over) end last left =
      (EndsNow gives now over left × (end ≡ e) × (last ≡ first))
      ⊎ DropsNext n e now (Over over) first end last left
  Finishes n e now first Stopped end last left = DropsNext n e now Stopped first end last left
  Finishes n e now first NotStarted end last left = ⊥

  -- a worker queued `tally` items, stopped for this reason and left its reader so. Then come the calls of its reader
  -- and of its gate, and the reads that were used up
  pub record WorkerRan (reader : Reading R) (start : EndView) (gate : G) (tally : ℕ) (why : Why) (end : EndView)
      (last : G)
      (left : Reading R) : Type 0 where
    pub rounds : ℕ
    pub now : Reading R
    pub asked : G
    pub before : EndView
    pub queued : Queueing told start gate tally rounds before asked
    pub spent : Spends gives reader rounds now
    pub finished : Finishes (tally + 1) before now asked why end last left

  -- the same of a worker whose reader was then dropped
  abbrev pub WorkerRanOut : Reading R → EndView → G → ℕ → Why → EndView → G → Type 0
  WorkerRanOut reader start gate tally why end last = (left : Reading R)
      × WorkerRan reader start gate tally why end last left
