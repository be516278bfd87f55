-- The outcome of the calls of a worker, call after call: those of its gate, and the reads that its reader has left.
use Rattle.std.proofs.Common.{◌≡◌, inl, inr, ℕ, suc, ◌+◌, ◌-◌, Bool, true, length, Option, None, Some, IfSome}
use Rattle.std.proofs.Common.{List, arith, refl, sym, ap, ◌∙◌, subst}
use Rattle.std.proofs.lemmas.List.{length-append}
use Rattle.share_model.specs.declared.ingress.Ended.{Ended}
use Rattle.share_model.specs.declared.reader.Got.{Got}
use Rattle.share_model.specs.io.Calls.{Reads, no_reads}
use Rattle.share_model.proofs.lemmas.io.CallLemmas.{reads_more}
use Rattle.share_ingress.specs.Ends.{EndView, with_offer, one_higher, raises, CameBack}
use Rattle.share_ingress.specs.GateCalls.{GateCall, item_next, item_queued, queue_full}
use Rattle.share_ingress.specs.Gates.{WasFull, not_again, once_again, Waits, Drops, Queueing, none_queued, one_queued}
use Rattle.share_ingress.specs.Gates.{Spends, EndsNow, DropsNext, Finishes, WorkerRan, CountsRefusals, MayDrop}
use Rattle.share_ingress.specs.Reader.{Reading, GoesOnReading, EndStands, Answers}
use Rattle.share_ingress.specs.declared.reader.Next.TheVariants.{Ended as Answered}
use Rattle.share_ingress.specs.declared.workers.Why.{Why}
use Rattle.share_ingress.specs.declared.workers.Why.TheVariants.{Ended as Over, Stopped, NotStarted}

-- Rounds on a full queue

-- an offer that came back left its end as it was, but for the count
pub refused_more : (e old new : EndView) → old ≡ record e { refused = old.refused } → CameBack old new
    → new ≡ record e { refused = new.refused }
refused_more e old new same (inl all) =
    all.1 ∙ same ∙ ap (λ n. record e { refused = n }) (sym (ap (λ (d : EndView). d.refused) all.1))
refused_more e old new same (inr full) =
    full.0 ∙ ap (λ (d : EndView). record d { refused = one_higher old.refused }) same
    ∙ ap (λ n. record e { refused = n }) (sym (ap (λ (d : EndView). d.refused) full.0))

pub was_full : (e old new : EndView) → old ≡ record e { refused = old.refused } → CameBack old new → WasFull e
was_full e old new same (inl all) = inl (ap (λ (d : EndView). length d.pushed) (sym same) ∙ all.0)
was_full e old new same (inr full) = subst (λ (d : EndView). WasFull d) same (inr full.1)

-- and was counted
pub came_back : (e old new : EndView) (rounds : ℕ) → old ≡ record e { refused = old.refused }
    → CountsRefusals e rounds old.refused → CameBack old new → CountsRefusals e (rounds + 1) new.refused
came_back e old new rounds same asked (inl all) = inl (ap (λ (d : EndView). length d.pushed) (sym same) ∙ all.0)
came_back e old new rounds same (inl most) (inr full) = inl most
came_back e old new rounds same (inr counted) (inr full) =
    let next : suc rounds ≡ rounds + 1 = omega arith in
    inr (ap (λ (d : EndView). d.refused) full.0 ∙ ap one_higher counted ∙ ap (λ n. raises e.refused n) next)

module _ {G : Type 0} (told : G → GateCall → G → Type 0) where
  pub waits_none : (e : EndView) (reads_left : ℕ) (g : G) → Waits told e reads_left g reads_left e.refused g
  waits_none e reads_left g = record { rounds = 0; again = not_again; spent = omega arith; came_back = inr refl }

  module _ (e old new : EndView) (reads_left left : ℕ) (first before after : G)
      (same : old ≡ record e { refused = old.refused }) (waits : Waits told e reads_left first left old.refused before)
      (back : CameBack old new) where
    pub waits_more : (now : ℕ) → told before (queue_full true) after → now + 1 ≡ left
        → Waits told e reads_left first now new.refused after
    waits_more now asked spent =
        record {
          rounds = waits.rounds + 1;
          again = once_again waits.rounds before after waits.again (was_full e old new same back) asked;
          spent = omega (arith, waits.spent, spent);
          came_back = came_back e old new waits.rounds same waits.came_back back;
        }

    pub drops : (now : ℕ) (why : Why) (again : Bool) → now ≡ left → told before (queue_full again) after
        → MayDrop why again left → Drops told e reads_left first now new.refused why after
    drops now why again turned asked reason =
        subst (λ l. Drops told e reads_left first l new.refused why after) (sym turned)
        (record {
          asked = before;
          earlier = old.refused;
          waits = waits;
          full = was_full e old new same back;
          came_back = came_back e old new waits.rounds same waits.came_back back;
          again = again;
          answered = asked;
          reason = reason;
        })

-- A worker at work: the items that were queued, and what they took

pub record HasQueuedSome {R G : Type 0} (gives : R → List ℕ → Got → R → Type 0) (told : G → GateCall → G → Type 0)
    (reader : Reading R) (start : EndView) (gate : G) (now : Reading R) (e : EndView) (g : G) : Type 0 where
  pub items : ℕ
  pub rounds : ℕ
  pub queued : Queueing told start gate items rounds e g
  pub spent : Spends gives reader rounds now
  pub long : length e.pushed ≡ length start.pushed + items

module _ {R G : Type 0} (gives : R → List ℕ → Got → R → Type 0) (told : G → GateCall → G → Type 0) where
  pub running_none : (reader : Reading R) (start : EndView) (gate : G)
      → HasQueuedSome gives told reader start gate reader start gate
  running_none reader start gate =
      record {
        items = 0;
        rounds = 0;
        queued = none_queued;
        spent = record { count = 0; reads = no_reads; reads_left = omega arith };
        long = omega arith;
      }

  module _ (reader : Reading R) (start : EndView) (gate : G) (now : Reading R) (e : EndView) (g : G)
      (f : HasQueuedSome gives told reader start gate now e g) where
    -- an item was read
    read_more : (new : Reading R) → GoesOnReading gives now new → Spends gives reader f.rounds new
    read_more new calls =
        record {
          count = f.spent.count + calls.count;
          reads = reads_more f.spent.count calls.count f.spent.reads calls.reads;
          reads_left = omega (arith, f.spent.reads_left, calls.reads_left);
        }

    numbered : (n first count : ℕ) → first ≡ length start.pushed → count ≡ length e.pushed → n ≡ count - first + 1
        → n ≡ f.items + 1
    numbered n first count a b c = omega (arith, f.long, a, b, c)

    module _ (new : Reading R) (calls : GoesOnReading gives now new) (n first count : ℕ)
        (first_is : first ≡ length start.pushed) (count_is : count ≡ length e.pushed) (n_is : n ≡ count - first + 1)
        (asked : G) (next : told g (item_next n) asked) where
      n_items : n ≡ f.items + 1
      n_items = numbered n first count first_is count_is n_is

      told_next : told g (item_next (f.items + 1)) asked
      told_next = let P : ℕ → Type 0 = λ i. told g (item_next i) asked in subst P n_items next

      -- and queued
      pub running_more : (after : Reading R) (waited last : G) (done : EndView) (name payload : List ℕ)
          → after ≡ record new { reads_left = after.reads_left }
          → Waits told e new.reads_left asked after.reads_left done.refused waited
          → told waited (item_queued n) last → done ≡ record (with_offer e name payload) { refused = done.refused }
          → HasQueuedSome gives told reader start gate after done last
      running_more after waited last done name payload turned waits queued put =
          let spent = read_more new calls in
          let same : after.reader ≡ new.reader = ap (λ (r : Reading R). r.reader) turned in
          record {
            items = f.items + 1;
            rounds = f.rounds + waits.rounds;
            queued = subst (λ (d : EndView). Queueing told start gate (f.items + 1) (f.rounds + waits.rounds) d last)
                (sym put)
                (one_queued f.items f.rounds waits.rounds done.refused e name payload g asked waited last f.queued
                told_next waits.again waits.came_back
                (let P : ℕ → Type 0 = λ i. told waited (item_queued i) last in subst P n_items queued));
            spent = record {
              count = spent.count;
              reads = subst (λ r. Reads gives reader.reader spent.count r) (sym same) spent.reads;
              reads_left = omega (arith, spent.reads_left, waits.spent);
            };
            long = ap (λ (d : EndView). length d.pushed) put ∙ length-append e.pushed _ ∙ omega (arith, f.long);
          }

      module _ (left : Reading R) (unread : left ≡ record new { reads_left = left.reads_left }) where
        drops_next : (why : Why) (done : EndView) (last : G)
            → Drops told e new.reads_left asked left.reads_left done.refused why last
            → done ≡ record e { refused = done.refused } → DropsNext gives told (f.items + 1) e new why g done last left
        drops_next why done last dropped same =
            record { asked = asked; next = told_next; dropped = dropped; same = same; unread = unread }

        finishes : (why : Why) (done : EndView) (last : G)
            → Drops told e new.reads_left asked left.reads_left done.refused why last
            → done ≡ record e { refused = done.refused } → Finishes gives told (f.items + 1) e new g why done last left
        finishes (Over over) done last dropped same = inr (drops_next (Over over) done last dropped same)
        finishes Stopped done last dropped same = drops_next Stopped done last dropped same
        finishes NotStarted done last dropped same = absurd dropped.reason

        -- and dropped
        pub ran_dropped : (why : Why) (last : G) (done : EndView)
            → Drops told e new.reads_left asked left.reads_left done.refused why last
            → done ≡ record e { refused = done.refused }
            → WorkerRan gives told reader start gate (n - 1) why done last left
        ran_dropped why last done dropped same =
            let one_less : n - 1 ≡ f.items = omega (arith, n_items) in
            rw one_less
            (record {
              rounds = f.rounds;
              now = new;
              asked = g;
              before = e;
              queued = f.queued;
              spent = read_more new calls;
              finished = finishes why done last dropped same;
            })

    ends_by : (o : Option Ended) (new : Reading R) (over : Ended) (left : R → Option (List ℕ)) → now.ended ≡ o
        → IfSome o (λ ended. (Answered over ≡ Answered ended) × (new ≡ now))
        → (now.ended ≡ None → Answers gives left now (Answered over) new) → EndStands gives new over
        → EndsNow gives now over new
    ends_by None new over left e again once stands = let stops = once e in (stops.1, stands, inl (e, stops.0.calls))
    ends_by (Some ended) new over left e again once stands =
        let same : over ≡ ended = cc in
        (ap (λ (r : Reading R). r.ended) again.1 ∙ e ∙ ap Some (sym same), stands, inr again.1)

    -- the reader ended
    pub ran_over : (new : Reading R) (over : Ended) (left : R → Option (List ℕ)) (tally : ℕ)
        → IfSome now.ended (λ ended. (Answered over ≡ Answered ended) × (new ≡ now))
        → (now.ended ≡ None → Answers gives left now (Answered over) new) → EndStands gives new over
        → tally ≡ length e.pushed - length start.pushed
        → WorkerRan gives told reader start gate tally (Over over) e g new
    ran_over new over left tally again once stands counted =
        let items : tally ≡ f.items = omega (arith, f.long, counted) in
        rw items
        (record {
          rounds = f.rounds;
          now = now;
          asked = g;
          before = e;
          queued = f.queued;
          spent = f.spent;
          finished = inl (ends_by now.ended new over left refl again once stands, refl, refl);
        })
