-- The arrivals of a journal after one more entry; and their numbers.
use Rattle.std.specs.Prelude.{◌≡◌, ℕ, suc, ◌+◌, Bool, true, false, nat_eq, List, [], ◌∷◌, ◌++◌, length, refl}
use Rattle.std.specs.List.{fold}
use Rattle.std.proofs.Common.{sym, ap, ◌∙◌, subst, arith}
use Rattle.std.proofs.lemmas.Bool.{eqb-true}
use Rattle.std.proofs.lemmas.List.{append-nil}
use Rattle.std.proofs.lemmas.List.Sums.{fold_push}
use Rattle.share_base.specs.declared.command.Command.{Command}
use Rattle.share_base.specs.declared.command.Event.{Event}
use Rattle.share_base.specs.declared.command.Event.TheVariants.{Commanded, Arrived, Written, Faulted}
use Rattle.share_base.specs.declared.command.Reply.{Reply}
use Rattle.share_base.specs.declared.command.Turn.{Turn}
use Rattle.share_base.specs.declared.command.Turn.TheVariants.{Wrote, Torn, Idle, Again, Broken, Spent}
use Rattle.share_model.specs.declared.ingress.Offer.{Offer}
use Rattle.share_model.specs.ingress.Queue.{keep, of_worker, Numbered}
use Rattle.share_journal.specs.declared.entry.Entry.{Entry}
use Rattle.share_journal.specs.declared.entry.Source.{Source}
use Rattle.share_journal.specs.declared.entry.Source.TheVariants.{Clerk, Worker, Link}
use Rattle.share_journal.specs.Arrivals.{next_of, with_arrival, with_event, with_entry, arrivals}
use Rattle.share_journal.specs.Entries.{command_entry, arrival_entry, turn_entries}

-- One more entry

pub arrivals-more : (es : List Entry) (e : Entry) → arrivals (es ++ e ∷ []) ≡ with_entry (arrivals es) e
unfolding arrivals
arrivals-more es e = fold_push with_entry [] es e

-- a command brings no packet
pub arrivals-command : (es : List Entry) (clerk : ℕ) (c : Command) (reply : Reply)
    → arrivals (es ++ command_entry clerk c reply ∷ []) ≡ arrivals es
arrivals-command es clerk c reply = arrivals-more es (command_entry clerk c reply)

-- an arrival is its worker's next
pub arrivals-arrival : (es : List Entry) (worker : ℕ) (name body : List ℕ) (reply : Reply)
    → arrivals (es ++ arrival_entry worker name body reply ∷ [])
    ≡ arrivals es ++ next_of (arrivals es) worker name body ∷ []
arrivals-arrival es worker name body reply = arrivals-more es (arrival_entry worker name body reply)

-- a turn brings none
pub arrivals-turn : (es : List Entry) (turn : Turn) → arrivals (es ++ turn_entries turn) ≡ arrivals es
arrivals-turn es (Wrote flow seq k whole) = arrivals-more es _
arrivals-turn es (Torn flow seq j) = arrivals-more es _
arrivals-turn es Idle = ap arrivals (append-nil es)
arrivals-turn es Again = ap arrivals (append-nil es)
arrivals-turn es Broken = ap arrivals (append-nil es)
arrivals-turn es Spent = ap arrivals (append-nil es)

-- Numbers

keep_snoc : (t : Bool) (o : Offer) (k : ℕ) (os : List Offer) → Numbered k os
    → (t ≡ true → o.n ≡ suc (k + length os)) → Numbered k (os ++ keep t o [])
keep_snoc true o k [] numbered next = let n = next refl in (omega (arith, n), tt)
keep_snoc true o k (p ∷ os) numbered next =
    (numbered.0, keep_snoc true o (suc k) os numbered.1 (λ t. let n = next t in omega (arith, n)))
keep_snoc false o k os numbered next = subst (Numbered k) (sym (append-nil os)) numbered

keep_after : (t : Bool) (o : Offer) (os more : List Offer) → keep t o (os ++ more) ≡ keep t o os ++ more
keep_after true o os more = refl
keep_after false o os more = refl

of_worker-more : (w : ℕ) (os : List Offer) (o : Offer)
    → of_worker w (os ++ o ∷ []) ≡ of_worker w os ++ keep (nat_eq o.worker w) o []
of_worker-more w [] o = refl
of_worker-more w (p ∷ os) o =
    ap (keep (nat_eq p.worker w) p) (of_worker-more w os o)
    ∙ keep_after (nat_eq p.worker w) p (of_worker w os) (keep (nat_eq o.worker w) o [])

-- those of each worker are numbered 1, 2, ..
abbrev AreNumbered : List Offer → Type 0
AreNumbered os = (w : ℕ) → Numbered 0 (of_worker w os)

next_numbered : (before : List Offer) (worker : ℕ) (name body : List ℕ) → AreNumbered before
    → AreNumbered (before ++ next_of before worker name body ∷ [])
next_numbered before worker name body were w =
    subst (Numbered 0) (sym (of_worker-more w before (next_of before worker name body)))
    (keep_snoc (nat_eq worker w) (next_of before worker name body) 0 (of_worker w before) (were w)
    (λ t. ap (λ v. suc (length (of_worker v before))) (eqb-true worker w t) ∙ zero_more (length (of_worker w before))))
  where
    zero_more : (n : ℕ) → suc n ≡ suc (0 + n)
    zero_more n = omega arith

packet_numbered : (before : List Offer) (source : Source) (name body : List ℕ) → AreNumbered before
    → AreNumbered (with_arrival before source name body)
packet_numbered before (Clerk n) name body were = were
packet_numbered before (Worker n) name body were = next_numbered before n name body were
packet_numbered before Link name body were = were

event_numbered : (before : List Offer) (source : Source) (e : Event) → AreNumbered before
    → AreNumbered (with_event before source e)
event_numbered before source (Commanded c) were = were
event_numbered before source (Arrived name body) were = packet_numbered before source name body.payload were
event_numbered before source (Written k) were = were
event_numbered before source Faulted were = were

after_numbered : (before : List Offer) (es : List Entry) → AreNumbered before
    → AreNumbered (fold with_entry before es)
after_numbered before [] were = were
after_numbered before (e ∷ es) were =
    after_numbered (with_entry before e) es (event_numbered before e.source e.event were)

pub arrivals_numbered : (es : List Entry) (w : ℕ) → Numbered 0 (of_worker w (arrivals es))
unfolding arrivals
arrivals_numbered es = after_numbered [] es (λ w. tt)
