-- The outcome of the steps of a worker.
use Rattle.std.proofs.Common.{◌≡◌, ℕ, suc, ◌+◌, ◌-◌, Bool, List, [], ◌∷◌, ◌++◌, length, Option, None, Some, IfSome}
use Rattle.std.proofs.Common.{arith, refl, sym, ap, ◌∙◌, subst}
use Rattle.std.proofs.lemmas.List.{append_assoc, append-nil, length-append}
use Rattle.std.specs.Io.KnownBytes.{Consumes, Keeps, IsAtEnd, prepend_known}
use Rattle.std.proofs.KnownBytes.{Consumes-nil}
use Rattle.share_model.specs.lists.Each.{Each}
use Rattle.share_model.specs.declared.ingress.Ended.{Ended}
use Rattle.share_model.specs.declared.ingress.Ended.TheVariants.{End, Cut, BadRecord, Fault, NoMemory, Bound}
use Rattle.share_model.specs.declared.reader.Got.{Got}
use Rattle.share_model.specs.io.Given.{Gives}
use Rattle.share_model.specs.ingress.Queue.{offer}
use Rattle.share_model.specs.ingress.Records.{Item, IsItem, record_of, records_of, IsRecords, EndsAs, IsCut}
use Rattle.share_ingress.specs.Ends.{EndView, with_offer}
use Rattle.share_ingress.specs.Gates.{MayDrop}
use Rattle.share_ingress.specs.Reader.{Reading, left_of, EndStands, TakesItem, Answers}
use Rattle.share_ingress.specs.Workers.{offers_of, Queues, Worked}
use Rattle.share_ingress.specs.declared.reader.Next.TheVariants.{Item as Found, Ended as Answered}
use Rattle.share_ingress.specs.declared.workers.Why.{Why}
use Rattle.share_ingress.specs.declared.workers.Why.TheVariants.{Ended as Over, Stopped, NotStarted}
use Rattle.share_ingress.proofs.ReaderLemmas.{keeps_refl, bad_known, any_known}

-- Items as offers and as records

offers_snoc : (worker k : ℕ) (items : List Item) (i : Item) → offers_of worker k (items ++ i ∷ [])
    ≡ offers_of worker k items ++ offer worker (suc (k + length items)) i.name i.payload ∷ []
offers_snoc worker k [] i = let e : suc k ≡ suc (k + 0) = omega arith in
    ap (λ n. offer worker n i.name i.payload ∷ []) e
offers_snoc worker k (j ∷ items) i =
    let e : suc (suc k + length items) ≡ suc (k + suc (length items)) = omega arith in
    ap (λ t. offer worker (suc k) j.name j.payload ∷ t) (offers_snoc worker (suc k) items i
    ∙ ap (λ n. offers_of worker (suc k) items ++ offer worker n i.name i.payload ∷ []) e)

offers_length : (worker k : ℕ) (items : List Item) → length (offers_of worker k items) ≡ length items
offers_length worker k [] = refl
offers_length worker k (i ∷ items) = ap (λ n. suc n) (offers_length worker (suc k) items)

records_snoc : (items : List Item) (i : Item) → records_of (items ++ i ∷ []) ≡ records_of items ++ record_of i
records_snoc [] i = append-nil (record_of i)
records_snoc (j ∷ items) i =
    ap (λ t. record_of j ++ t) (records_snoc items i) ∙ sym (append_assoc (record_of j) (records_of items)
    (record_of i))

each_last : (items : List Item) (i : Item) → Each IsItem items → IsItem i → Each IsItem (items ++ i ∷ [])
each_last [] i all good = (good, tt)
each_last (j ∷ items) i all good = (all.0, each_last items i all.1 good)

abbrev queue_items : EndView → List Item → ℕ → EndView
queue_items e items refused =
    record e { pushed = e.pushed ++ offers_of e.worker (length e.pushed) items; refused = refused }

-- one more item is queued
queue_more : (e : EndView) (items : List Item) (i : Item) (old new : ℕ)
    → record (with_offer (queue_items e items old) i.name i.payload) { refused = new }
    ≡ queue_items e (items ++ i ∷ []) new
queue_more e items i old new =
    let queued = offers_of e.worker (length e.pushed) items in
    let long : length (e.pushed ++ queued) ≡ length e.pushed + length items =
    length-append e.pushed queued ∙ ap (λ n. length e.pushed + n) (offers_length e.worker (length e.pushed) items) in
    ap (λ (p : List _). record e { pushed = p; refused = new })
    (ap (λ n. e.pushed ++ queued ++ offer e.worker (suc n) i.name i.payload ∷ []) long
    ∙ append_assoc e.pushed queued _
    ∙ ap (λ t. e.pushed ++ t) (sym (offers_snoc e.worker (length e.pushed) items i)))

-- Known bytes

consumes_more : (a b c : Option (List ℕ)) (items : List Item) (i : Item) → Consumes a b (records_of items)
    → Consumes b c (record_of i) → Consumes a c (records_of (items ++ i ∷ []))
consumes_more None b c items i f g = tt
consumes_more (Some xs) None c items i f g = absurd f
consumes_more (Some xs) (Some ys) None items i f g = absurd g
consumes_more (Some xs) (Some ys) (Some zs) items i f g =
    f ∙ ap (λ t. records_of items ++ t) g ∙ sym (append_assoc (records_of items) (record_of i) zs)
    ∙ ap (λ t. t ++ zs) (sym (records_snoc items i))

ended_told : (a b c : Option (List ℕ)) (items : List Item) (ended : Ended) → Each IsItem items
    → Consumes a b (records_of items) → Keeps b c → IfSome c (EndsAs ended)
    → IfSome a (λ bytes. IsRecords bytes items ended)
ended_told None b c items ended all f g h = tt
ended_told (Some xs) None c items ended all f g h = absurd f
ended_told (Some xs) (Some ys) None items ended all f g h = absurd g
ended_told (Some xs) (Some ys) (Some zs) items ended all f g h =
    record {
      rest = zs;
      front = record { good = all; bytes = f ∙ ap (λ t. records_of items ++ t) (sym g) };
      ends = h;
    }

bound_told : (a b : Option (List ℕ)) (items : List Item) → Each IsItem items → Consumes a b (records_of items)
    → IfSome a (λ bytes. IsRecords bytes items Bound)
bound_told None b items all f = tt
bound_told (Some xs) None items all f = absurd f
bound_told (Some xs) (Some ys) items all f =
    record { rest = ys; front = record { good = all; bytes = f }; ends = tt }

stopped_told : (a b c : Option (List ℕ)) (items : List Item) (i : Item) → Each IsItem (items ++ i ∷ [])
    → Consumes a b (records_of items) → Consumes b c (record_of i) → IfSome a (λ bytes. Queues bytes items Stopped)
stopped_told None b c items i all f g = tt
stopped_told (Some xs) None c items i all f g = absurd f
stopped_told (Some xs) (Some ys) None items i all f g = absurd g
stopped_told (Some xs) (Some ys) (Some zs) items i all f g =
    (i, zs, record { good = all; bytes = consumes_more (Some xs) (Some ys) (Some zs) items i f g })

at_end_known : (buffered : List ℕ) (a : Option (List ℕ)) (P : List ℕ → Type 0) → IsAtEnd a → P buffered
    → IfSome (prepend_known buffered a) P
at_end_known buffered None P end h = tt
at_end_known buffered (Some xs) P end h = subst P (sym (append-nil buffered) ∙ ap (λ t. buffered ++ t) (sym end)) h

-- A worker at work

-- the items of whole records in front of the stream were queued
pub record Working {R : Type 0} (left : R → Option (List ℕ)) (first now : Reading R) (before after : EndView) : Type 0
  where
    pub items : List Item
    pub good : Each IsItem items
    pub queued : after ≡ record before {
      pushed = before.pushed ++ offers_of before.worker (length before.pushed) items;
      refused = after.refused;
    }
    pub long : length after.pushed ≡ length before.pushed + length items
    pub taken : Consumes (left_of left first) (left_of left now) (records_of items)

module _ {R : Type 0} (gives : R → List ℕ → Got → R → Type 0) (left : R → Option (List ℕ)) where
  pub working_none : (r : Reading R) (e : EndView) → Working left r r e e
  working_none r e =
      record {
        items = [];
        good = tt;
        queued = ap (λ (p : List _). record e { pushed = p }) (sym (append-nil e.pushed));
        long = omega arith;
        taken = Consumes-nil _;
      }

  -- the reader has not ended if it gives an item
  takes_by : (o : Option Ended) (now new : Reading R) (name parcel : List ℕ) → now.ended ≡ o
      → IfSome o (λ ended. (Found name parcel ≡ Answered ended) × (new ≡ now))
      → (now.ended ≡ None → Answers gives left now (Found name parcel) new)
      → TakesItem gives left now (record { name = name; payload = parcel }) new
  takes_by None now new name parcel e again first = first e
  takes_by (Some ended) now new name parcel e again first = let wrong = again.0 in cc

  pub takes : (now new : Reading R) (name parcel : List ℕ)
      → IfSome now.ended (λ ended. (Found name parcel ≡ Answered ended) × (new ≡ now))
      → (now.ended ≡ None → Answers gives left now (Found name parcel) new)
      → TakesItem gives left now (record { name = name; payload = parcel }) new
  takes now new name parcel again first = takes_by now.ended now new name parcel refl again first

  keeps_by : (o : Option Ended) (now new : Reading R) (over : Ended) → now.ended ≡ o
      → IfSome o (λ ended. (Answered over ≡ Answered ended) × (new ≡ now))
      → (now.ended ≡ None → Answers gives left now (Answered over) new) → Keeps (left_of left now) (left_of left new)
  keeps_by None now new over e again first = (first e).0.kept
  keeps_by (Some ended) now new over e again first =
      subst (λ r. Keeps (left_of left now) (left_of left r)) (sym again.1) (keeps_refl _)

  stands_told : ((before : R) (buffer : List ℕ) (got : Got) (after : R) → gives before buffer got after
      → Gives (left before) buffer got (left after)) → (over : Ended) (r : Reading R) → EndStands gives r over
      → IfSome (left_of left r) (EndsAs over)
  stands_told tells End r h = let gave = h.1 in
      at_end_known r.buffered (left r.reader) (λ bs. bs ≡ []) (tells gave.0 gave.1 _ r.reader gave.2).1 h.0
  stands_told tells Cut r h = let gave = h.1 in
      at_end_known r.buffered (left r.reader) (λ bs. IsCut bs) (tells gave.0 gave.1 _ r.reader gave.2).1 h.0
  stands_told tells BadRecord r h = bad_known r.buffered (left r.reader) h
  stands_told tells Fault r h = any_known _
  stands_told tells NoMemory r h = any_known _
  stands_told tells Bound r h = any_known _

  pub worked_over : ((before : R) (buffer : List ℕ) (got : Got) (after : R) → gives before buffer got after
      → Gives (left before) buffer got (left after)) → (first now new : Reading R) (before after : EndView) (over :
      Ended)
      (tally : ℕ) → Working left first now before after
      → IfSome now.ended (λ ended. (Answered over ≡ Answered ended) × (new ≡ now))
      → (now.ended ≡ None → Answers gives left now (Answered over) new) → EndStands gives new over
      → tally ≡ length after.pushed - length before.pushed → Worked (left_of left first) before after tally (Over over)
  worked_over tells first now new before after over tally f again once stands counted =
      record {
        items = f.items;
        counted = omega (arith, f.long, counted);
        queued = f.queued;
        told = ended_told _ _ _ f.items over f.good f.taken (keeps_by now.ended now new over refl again once)
            (stands_told tells over new stands);
      }

  module _ (first now new after_it : Reading R) (before after done : EndView) (item : Item)
      (f : Working left first now before after) (takes : TakesItem gives left now item new)
      (turned : after_it ≡ record new { reads_left = after_it.reads_left }) where
    taken_after : Consumes (left_of left now) (left_of left after_it) (record_of item)
    taken_after = subst (λ (r : Reading R). Consumes (left_of left now) (left_of left r) (record_of item)) (sym
        turned) takes.taken

    pub working_more : done ≡ record (with_offer after item.name item.payload) { refused = done.refused }
        → Working left first after_it before done
    working_more put =
        let all : done ≡ queue_items before (f.items ++ item ∷ []) done.refused =
        put
        ∙ ap (λ e. record (with_offer e item.name item.payload) { refused = done.refused }) f.queued
        ∙ queue_more before f.items item after.refused done.refused in
        record {
          items = f.items ++ item ∷ [];
          good = each_last f.items item f.good takes.good;
          queued = all;
          long = ap (λ (e : EndView). length e.pushed) all
              ∙ length-append before.pushed (offers_of before.worker (length before.pushed) (f.items ++ item ∷ []))
              ∙ ap (λ n. length before.pushed + n) (offers_length before.worker (length before.pushed) (f.items ++
              item ∷ []));
          taken = consumes_more _ _ _ f.items item f.taken taken_after;
        }

    pub worked_dropped : (why : Why) (again : Bool) (reads_left tally : ℕ)
        → done ≡ record after { refused = done.refused } → MayDrop why again reads_left
        → tally ≡ length after.pushed - length before.pushed → Worked (left_of left first) before done tally why
    worked_dropped (Over End) again reads_left tally same dropped counted = absurd dropped
    worked_dropped (Over Cut) again reads_left tally same dropped counted = absurd dropped
    worked_dropped (Over BadRecord) again reads_left tally same dropped counted = absurd dropped
    worked_dropped (Over Fault) again reads_left tally same dropped counted = absurd dropped
    worked_dropped (Over NoMemory) again reads_left tally same dropped counted = absurd dropped
    worked_dropped (Over Bound) again reads_left tally same dropped counted =
        record {
          items = f.items;
          counted = omega (arith, f.long, counted);
          queued = same ∙ ap (λ (e : EndView). record e { refused = done.refused }) f.queued;
          told = bound_told _ _ f.items f.good f.taken;
        }
    worked_dropped Stopped again reads_left tally same dropped counted =
        record {
          items = f.items;
          counted = omega (arith, f.long, counted);
          queued = same ∙ ap (λ (e : EndView). record e { refused = done.refused }) f.queued;
          told = stopped_told _ _ _ f.items item (each_last f.items item f.good takes.good) f.taken takes.taken;
        }
    worked_dropped NotStarted again reads_left tally same dropped counted = absurd dropped
