-- The outcome of the work of a worker.
use Rattle.std.specs.Prelude.{◌≡◌, ℕ, suc, List, [], ◌∷◌, ◌++◌, length, Option, IfSome}
use Rattle.share_model.specs.declared.ingress.Offer.{Offer}
use Rattle.share_model.specs.ingress.Queue.{offer}
use Rattle.share_model.specs.ingress.Records.{Item, Front, IsRecords}
use Rattle.share_ingress.specs.Ends.{EndView}
use Rattle.share_ingress.specs.declared.workers.Why.{Why}
use Rattle.share_ingress.specs.declared.workers.Why.TheVariants.{Ended as Over, Stopped, NotStarted}

-- the items as offers of this worker, numbered from k + 1 on
abbrev pub offers_of : ℕ → ℕ → List Item → List Offer
offers_of worker k [] = []
offers_of worker k (i ∷ is) = offer worker (suc k) i.name i.payload ∷ offers_of worker (suc k) is

-- the items are those at the front of the bytes. They are all of them if the reader ended; not all if the worker was
-- stopped; none if it was not started
abbrev pub Queues : List ℕ → List Item → Why → Type 0
Queues bytes items (Over ended) = IsRecords bytes items ended
Queues bytes items Stopped = (next : Item) × (rest : List ℕ) × Front bytes (items ++ next ∷ []) rest
Queues bytes items NotStarted = items ≡ []

-- the end queued these items, in order, `tally` of them; if the reader gives its bytes, they are those of the bytes
-- that were left
pub record Worked (left : Option (List ℕ)) (before after : EndView) (tally : ℕ) (why : Why) : Type 0 where
  pub items : List Item
  pub counted : tally ≡ length items
  pub queued : after ≡ record before {
    pushed = before.pushed ++ offers_of before.worker (length before.pushed) items;
    refused = after.refused;
  }
  pub told : IfSome left (λ bytes. Queues bytes items why)
