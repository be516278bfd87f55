-- The arrivals of a journal: the packets that workers brought, in order, each with its number at its worker.
use Rattle.std.specs.Prelude.{ℕ, suc, List, [], ◌∷◌, ◌++◌, length}
use Rattle.std.specs.List.{fold}
use Rattle.share_base.specs.declared.command.Event.{Event}
use Rattle.share_base.specs.declared.command.Event.TheVariants.{Commanded, Arrived, Written, Faulted}
use Rattle.share_model.specs.declared.ingress.Offer.{Offer}
use Rattle.share_model.specs.ingress.Queue.{offer, of_worker}
use Rattle.share_journal.specs.declared.entry.Entry.{Entry}
use Rattle.share_journal.specs.declared.entry.Source.{Source}
use Rattle.share_journal.specs.declared.entry.Source.TheVariants.{Clerk, Worker, Link}

-- the next packet of a worker, if these came before it: its number is one more than it brought of them
abbrev pub next_of : List Offer → ℕ → List ℕ → List ℕ → Offer
next_of before worker name body = offer worker (suc (length (of_worker worker before))) name body

abbrev pub with_arrival : List Offer → Source → List ℕ → List ℕ → List Offer
with_arrival before (Clerk n) name body = before
with_arrival before (Worker n) name body = before ++ next_of before n name body ∷ []
with_arrival before Link name body = before

abbrev pub with_event : List Offer → Source → Event → List Offer
with_event before source (Commanded c) = before
with_event before source (Arrived name body) = with_arrival before source name body.payload
with_event before source (Written k) = before
with_event before source Faulted = before

abbrev pub with_entry : List Offer → Entry → List Offer
with_entry before e = with_event before e.source e.event

-- refused ones too
unfoldable pub arrivals : List Entry → List Offer
arrivals entries = fold with_entry [] entries

-- those of one worker
abbrev pub arrivals_of : ℕ → List Entry → List Offer
arrivals_of worker entries = of_worker worker (arrivals entries)
