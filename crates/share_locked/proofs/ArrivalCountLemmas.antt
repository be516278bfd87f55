-- The number of arrivals among entries.
use Rattle.std.specs.Prelude.{◌≡◌, ◌&&◌, ℕ, ◌+◌, List, [], ◌∷◌, length, count_by, if◌then◌else◌}
use Rattle.std.specs.List.{fold}
use Rattle.std.proofs.Common.{arith}
use Rattle.std.proofs.lemmas.List.{length-append}
use Rattle.std.proofs.lemmas.List.Sums.{sum_by-cons}
use Rattle.share_base.specs.declared.command.Event.{Event}
use Rattle.share_base.specs.declared.command.Event.TheVariants.{Commanded, Arrived, Written, Faulted}
use Rattle.share_model.specs.declared.ingress.Offer.{Offer}
use Rattle.share_journal.specs.declared.entry.Entry.{Entry}
use Rattle.share_journal.specs.declared.entry.Source.{Source}
use Rattle.share_journal.specs.declared.entry.Source.TheVariants.{Clerk, Worker, Link}
use Rattle.share_journal.specs.Arrivals.{with_arrival, with_event, with_entry, next_of, arrivals}
use Rattle.share_locked.specs.Receipts.{is_worker, is_arrived, is_arrival}

packet_count : (before : List Offer) (source : Source) (name body : List ℕ)
    → length (with_arrival before source name body) ≡ length before + (if is_worker source then 1 else 0)
packet_count before (Clerk n) name body = omega arith
packet_count before (Worker n) name body =
    let one = length-append before (next_of before n name body ∷ []) in omega (arith, one)
packet_count before Link name body = omega arith

event_count : (before : List Offer) (source : Source) (e : Event)
    → length (with_event before source e) ≡ length before + (if is_arrived e && is_worker source then 1 else 0)
event_count before source (Commanded c) = omega arith
event_count before source (Arrived name body) = packet_count before source name body.payload
event_count before source (Written k) = omega arith
event_count before source Faulted = omega arith

after_count : (before : List Offer) (es : List Entry)
    → length (fold with_entry before es) ≡ length before + count_by is_arrival es
after_count before [] = omega arith
after_count before (e ∷ es) =
    let first = event_count before e.source e.event in
    let rest = after_count (with_entry before e) es in
    let split = sum_by-cons (λ (x : Entry). if is_arrival x then 1 else 0) e es in omega (arith, first, rest, split)

pub arrivals_count : (es : List Entry) → length (arrivals es) ≡ count_by is_arrival es
unfolding arrivals
arrivals_count es = let all = after_count [] es in omega (arith, all)
