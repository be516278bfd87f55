-- Carrying and the packets of one tenant: the first ones go to the new book, in order, and the others stay.
use Rattle.std.specs.Prelude.{◌≡◌, ◌⊎◌, ◌<◌, ◌≤◌, ◌+◌, ◌-◌, ℕ, zero, suc, Bool, true, false, List, [], ◌∷◌, ◌++◌}
use Rattle.std.specs.Prelude.{length}
use Rattle.std.specs.Prelude.{map, take, drop, min, find, nat_eq, nat_le, nat_lt, bytes_eq, Option, None, Some}
use Rattle.std.specs.Prelude.{if◌then◌else◌}
use Rattle.std.specs.List.{fold}
use Rattle.std.proofs.Common.{refl, ap, sym, ◌∙◌, subst, arith, inl, inr, append_assoc, length-append}
use Rattle.std.proofs.lemmas.Bool.{cond_both, cond-true, cond-false}
use Rattle.std.proofs.lemmas.Bool.Decides.{nat_tests}
use Rattle.std.proofs.lemmas.List.{append-nil, length-map, length-take, take-map, take-take, drop_all}
use Rattle.std.proofs.lemmas.List.{take-append-drop}
use Rattle.share_base.specs.declared.command.Event.{Event}
use Rattle.share_core.specs.Room.{has_room}
use Rattle.share_model.specs.funding.Graph.{NameBytes}
use Rattle.share_model.specs.link.Arrivals.{accept}
use Rattle.share_model.specs.link.Buffers.{Buffer, buffer_of, pop_in}
use Rattle.share_model.specs.link.Live.{Live}
use Rattle.share_model.proofs.lemmas.lists.SumLemmas.{same_name}
use Rattle.share_base.specs.declared.command.Reply.{Reply}
use Rattle.share_gateway.specs.Plan.{PlanView, TenantView, ascends, flows_of}
use Rattle.share_gateway.specs.PlanChanges.{is_tenant, flow_by, tenant_flow}
use Rattle.share_book.specs.Audited.{Audited, after_event}
use Rattle.share_book.specs.BookHistory.{payload_if, tenant_limit}
use Rattle.share_book.specs.Carry.{packets_by, left_for, places_for, packet_event, due_for, fitting, carried_for}
use Rattle.share_book.specs.Carry.{without_first, Carrying, carry_tenant, carry_next}
use Rattle.share_book.specs.Closed.{ClosedView}
use Rattle.share_book.specs.Texts.{longest_line, line_in, text_room}
use Rattle.share_book.specs.declared.book_text.TextKind.{TextKind}
use Rattle.share_book.proofs.CarryLemmas.{due-length, full-places, places_after, count_packets}
use Rattle.share_book.proofs.LaidOutLemmas.{AreShelved, IsLaidOut, packets_of, packets-pop, buffer-pop_other}
use Rattle.share_book.proofs.LaidOutLemmas.{shelved-pop, laid-accept, packets-accept, none-waits, places-left}
use Rattle.share_book.proofs.TakeLemmas.{accept-is, named_number}
use Rattle.share_book.proofs.TenantLemmas.{flows-apart}

-- ---- The packets carried

fitting-is : (kind : TextKind) (room : ℕ) (es : List Event)
    → fitting kind room es ≡ take (length (fitting kind room es)) es
fitting-is kind room [] = refl
fitting-is kind room (e ∷ es) =
    cond_both (nat_lt room (longest_line kind)) [] (e ∷ fitting kind (room - length (line_in kind e)) es)
    (λ (fs : List Event). fs ≡ take (length fs) (e ∷ es)) (λ _. refl)
    (λ _. ap (λ fs. e ∷ fs) (fitting-is kind (room - length (line_in kind e)) es))

fitting-few : (kind : TextKind) (room : ℕ) (es : List Event) → length (fitting kind room es) ≤ length es
fitting-few kind room [] = omega arith
fitting-few kind room (e ∷ es) =
    cond_both (nat_lt room (longest_line kind)) [] (e ∷ fitting kind (room - length (line_in kind e)) es)
    (λ (fs : List Event). length fs ≤ suc (length es)) (λ _. omega arith)
    (λ _. let few = fitting-few kind (room - length (line_in kind e)) es in omega (arith, few))

-- the events that are made are those of the first packets that are left
record AreFirst (a : Audited) (c : ClosedView) (name : NameBytes) : Type 0 where
  are : carried_for a c name ≡ map (packet_event name) (take (length (carried_for a c name)) (left_for c name))
  places : length (carried_for a c name) ≤ places_for a.link.live name
  few : length (carried_for a c name) ≤ length (left_for c name)

first_of_due : (name : NameBytes) (kind : TextKind) (room events places : ℕ) (left : List (List ℕ)) (fit : List Event)
    → fit ≡ fitting kind room (take events (map (packet_event name) (take places left)))
    → (fit ≡ map (packet_event name) (take (length fit) left)) × (length fit ≤ places) × (length fit ≤ length left)
first_of_due name kind room events places left fit is =
    let due : List Event = map (packet_event name) (take places left) in
    let few : length fit ≤ length (take events due) =
    subst (λ (fs : List Event). length fs ≤ length (take events due)) (sym is)
    (fitting-few kind room (take events due)) in
    let shown : fit ≡ take (length fit) (take events due) =
    subst (λ (fs : List Event). fs ≡ take (length fs) (take events due)) (sym is)
    (fitting-is kind room (take events due)) in
    let one = length-take events due in
    let two = length-map (take places left) (packet_event name) in
    let three = length-take places left in
    let in_events : length fit ≤ events = omega (arith, few, one) in
    let in_places : length fit ≤ places = omega (arith, few, one, two, three) in
    let in_left : length fit ≤ length left = omega (arith, few, one, two, three) in (
      shown
          ∙ take-take (length fit) events due in_events
          ∙ take-map (packet_event name) (length fit) (take places left)
          ∙ ap (map (packet_event name)) (take-take (length fit) places left in_places),
      in_places,
      in_left,
    )

are_first : (a : Audited) (c : ClosedView) (name : NameBytes) → AreFirst a c name
are_first a c name =
    let all = first_of_due name a.kind (text_room a.text) (a.link.life - a.link.live.counts.events)
    (places_for a.link.live name) (left_for c name) (carried_for a c name) refl in
    record { are = all.0; places = all.1; few = all.2 }

-- ---- The new book

abbrev own_of : Bool → List (List ℕ) → List (List ℕ)
own_of own payloads = if own then payloads else []

own_more : (own : Bool) (payload : List ℕ) (payloads : List (List ℕ))
    → payload_if own payload ++ own_of own payloads ≡ own_of own (payload ∷ payloads)
own_more true payload payloads = refl
own_more false payload payloads = refl

own_none : (own : Bool) → own_of own [] ≡ []
own_none true = refl
own_none false = refl

-- the link after packets of a tenant came
record AfterPackets (p : PlanView) (tenant : NameBytes) (payloads : List (List ℕ)) (before after : Live) : Type 0 where
  laid : IsLaidOut p after
  packets : (name : NameBytes) → packets_of p after.buffers name
      ≡ packets_of p before.buffers name ++ own_of (bytes_eq name tenant) payloads

-- there is room if places are left
room_by_places : (l : Live) (name : NameBytes) (b : Bool) → has_room l name ≡ b → 0 < places_for l name → b ≡ true
room_by_places l name true room some = refl
room_by_places l name false full some =
    let none = full-places l name full in absurd (omega (arith, none, some))

come : (p : PlanView) (tenant : NameBytes) (a : Audited) (payloads : List (List ℕ)) → IsLaidOut p a.link.live
    → length payloads ≤ places_for a.link.live tenant
    → AfterPackets p tenant payloads a.link.live (fold after_event a (map (packet_event tenant) payloads)).link.live
come p tenant a [] laid few = record {
  laid = laid;
  packets =
      λ name. sym (append-nil (packets_of p a.link.live.buffers name))
      ∙ ap (λ ps. packets_of p a.link.live.buffers name ++ ps) (sym (own_none (bytes_eq name tenant)));
}
come p tenant a (payload ∷ payloads) laid few =
    let room : has_room a.link.live tenant ≡ true =
    room_by_places a.link.live tenant (has_room a.link.live tenant) refl (omega (arith, few)) in
    let next : Audited = after_event a (packet_event tenant payload) in
    let is : next.link.live ≡ accept a.link.live (named_number a.link.live tenant) payload =
    ap (λ (d : Live × Reply). d.0) (accept-is a.link.live tenant payload room) in
    let laid_next : IsLaidOut p next.link.live =
    subst (IsLaidOut p) (sym is) (laid-accept p a.link.live laid tenant payload room) in
    let fewer : places_for a.link.live tenant ≡ suc (places_for next.link.live tenant) =
    places_after a.link.live tenant payload room ∙ ap (λ l. suc (places_for l tenant)) (sym is) in
    let rest = come p tenant next payloads laid_next (omega (arith, few, fewer)) in
    record {
      laid = rest.laid;
      packets =
          λ name. rest.packets name
          ∙ ap (λ ps. ps ++ own_of (bytes_eq name tenant) payloads)
          (ap (λ (l : Live). packets_of p l.buffers name) is
          ∙ packets-accept p a.link.live laid tenant payload room name)
          ∙ append_assoc (packets_of p a.link.live.buffers name) (payload_if (bytes_eq name tenant) payload)
          (own_of (bytes_eq name tenant) payloads)
          ∙ ap (λ ps. packets_of p a.link.live.buffers name ++ ps)
          (own_more (bytes_eq name tenant) payload payloads);
    }

-- ---- The closed book

drop_one : (n : ℕ) (ps : List (List ℕ)) → drop n (drop 1 ps) ≡ drop (suc n) ps
drop_one zero [] = refl
drop_one (suc n) [] = refl
drop_one n (p ∷ ps) = refl

gone_own : (f n : ℕ) (bs : List Buffer)
    → packets_by (buffer_of (without_first f n bs) f) ≡ drop n (packets_by (buffer_of bs f))
gone_own f zero bs = refl
gone_own f (suc n) bs =
    gone_own f n (pop_in bs f) ∙ ap (drop n) (packets-pop bs f) ∙ drop_one n (packets_by (buffer_of bs f))

gone_other : (f n : ℕ) (bs : List Buffer) (g : ℕ) → nat_eq g f ≡ false
    → buffer_of (without_first f n bs) g ≡ buffer_of bs g
gone_other f zero bs g apart = refl
gone_other f (suc n) bs g apart = gone_other f n (pop_in bs f) g apart ∙ buffer-pop_other bs f g apart

gone_shelved : (q : PlanView) (f n : ℕ) (bs : List Buffer) → AreShelved q bs → AreShelved q (without_first f n bs)
gone_shelved q f zero bs was = was
gone_shelved q f (suc n) bs was = gone_shelved q f n (pop_in bs f) (shelved-pop q bs f was)

module _ (q : PlanView) (rising : ascends 0 (flows_of q.tenants) ≡ true) (bs : List Buffer) (shelved : AreShelved q bs)
    (tenant : NameBytes) (n : ℕ) where
  other_left : (name : NameBytes) → bytes_eq name tenant ≡ false → (o : Option TenantView)
      → find (is_tenant name) q.tenants ≡ o
      → packets_of q (without_first (tenant_flow q tenant) n bs) name ≡ packets_of q bs name
  other_left name apart None absent =
      none-waits q (without_first (tenant_flow q tenant) n bs) rising
      (gone_shelved q (tenant_flow q tenant) n bs shelved) name absent
      ∙ sym (none-waits q bs rising shelved name absent)
  other_left name apart (Some t) found =
      ap packets_by (gone_other (tenant_flow q tenant) n bs (tenant_flow q name)
      (ap (λ o. nat_eq (flow_by o) (tenant_flow q tenant)) found
      ∙ flows-apart q.tenants rising name tenant t found apart))

  left_by : (name : NameBytes) (own : Bool) → bytes_eq name tenant ≡ own
      → packets_of q (without_first (tenant_flow q tenant) n bs) name
      ≡ (if own then drop n (packets_of q bs name) else packets_of q bs name)
  left_by name true test =
      let same : name ≡ tenant = same_name name tenant test in
      ap (packets_of q (without_first (tenant_flow q tenant) n bs)) same
      ∙ gone_own (tenant_flow q tenant) n bs ∙ ap (λ name. drop n (packets_of q bs name)) (sym same)
  left_by name false test = other_left name test (find (is_tenant name) q.tenants) refl

-- ---- All packets of a tenant

-- a new book over a plan and the closed one of another, while packets are carried. Of the tenant of a name, those in
-- the new book, followed by those that are left, are all that waited. The new buffer holds no more than its limit
pub record IsBetween (p q : PlanView) (name : NameBytes) (all : List (List ℕ)) (l : Live)
    (c : ClosedView) : Type 0 where
  pub laid : IsLaidOut p l
  pub plan : c.plan ≡ q
  pub shelved : AreShelved q c.buffers
  pub joined : packets_of p l.buffers name ++ packets_of q c.buffers name ≡ all
  pub within : length (packets_of p l.buffers name) ≤ tenant_limit p name

-- none of them is left, or the buffer is full
abbrev pub IsSettled : PlanView → PlanView → NameBytes → Live → ClosedView → Type 0
IsSettled p q name l c =
    (packets_of q c.buffers name ≡ []) ⊎ (tenant_limit p name ≤ length (packets_of p l.buffers name))

-- n packets went from the ones that are left to the others
record WentOver (p q : PlanView) (name : NameBytes) (n : ℕ) (l m : Live) (c d : ClosedView) : Type 0 where
  here : packets_of p m.buffers name ≡ packets_of p l.buffers name ++ take n (packets_of q c.buffers name)
  left : packets_of q d.buffers name ≡ drop n (packets_of q c.buffers name)

length_taken : (n : ℕ) (xs ys : List (List ℕ)) → n ≤ length ys → length (xs ++ take n ys) ≡ length xs + n
length_taken n xs ys few =
    let all = length-append xs (take n ys) in let some = length-take n ys in omega (arith, few, all, some)

module _ (p q : PlanView) (rising : ascends 0 (flows_of q.tenants) ≡ true) (name : NameBytes)
    (all : List (List ℕ)) where
  module _ (a : Audited) (c : ClosedView) (tenant : NameBytes) (was : IsBetween p q name all a.link.live c) where
    abbrev pub over : Carrying
    over = carry_tenant a c tenant

    left_is : (name : NameBytes) → left_for c name ≡ packets_of q c.buffers name
    left_is name = ap (λ (q : PlanView). packets_by (buffer_of c.buffers (tenant_flow q name))) was.plan

    first : AreFirst a c tenant
    first = are_first a c tenant

    came : AfterPackets p tenant (take (length (carried_for a c tenant)) (left_for c tenant)) a.link.live
        (fold after_event a (map (packet_event tenant)
        (take (length (carried_for a c tenant)) (left_for c tenant)))).link.live
    came =
        let some = length-take (length (carried_for a c tenant)) (left_for c tenant) in
        let few = first.places in
        come p tenant a (take (length (carried_for a c tenant)) (left_for c tenant)) was.laid (omega (arith, some, few))

    book_is : fold after_event a (map (packet_event tenant)
        (take (length (carried_for a c tenant)) (left_for c tenant)))
        ≡ fold after_event a (carried_for a c tenant)
    book_is = ap (fold after_event a) (sym first.are)

    packets_came : (name : NameBytes)
        → packets_of p (fold after_event a (carried_for a c tenant)).link.live.buffers name
        ≡ packets_of p a.link.live.buffers name
        ++ own_of (bytes_eq name tenant) (take (length (carried_for a c tenant)) (packets_of q c.buffers tenant))
    packets_came name =
        ap (λ (b : Audited). packets_of p b.link.live.buffers name) (sym book_is) ∙ came.packets name
        ∙ ap (λ ps. packets_of p a.link.live.buffers name
        ++ own_of (bytes_eq name tenant) (take (length (carried_for a c tenant)) ps)) (left_is tenant)

    flow_is : tenant_flow c.plan tenant ≡ tenant_flow q tenant
    flow_is = ap (λ (q : PlanView). tenant_flow q tenant) was.plan

    packets_left : (name : NameBytes)
        → packets_of q (without_first (tenant_flow c.plan tenant) (length (carried_for a c tenant)) c.buffers) name
        ≡ (if bytes_eq name tenant then drop (length (carried_for a c tenant)) (packets_of q c.buffers name)
        else packets_of q c.buffers name)
    packets_left name =
        ap (λ f. packets_of q (without_first f (length (carried_for a c tenant)) c.buffers) name) flow_is
        ∙ left_by q rising c.buffers was.shelved tenant (length (carried_for a c tenant)) name (bytes_eq name tenant)
        refl

    between_by : (n : ℕ) (m : Live) (d : ClosedView) → IsLaidOut p m → d.plan ≡ q → AreShelved q d.buffers
        → n ≤ length (packets_of q c.buffers name)
        → length (packets_of p a.link.live.buffers name) + n ≤ tenant_limit p name
        → WentOver p q name n a.link.live m c d → IsBetween p q name all m d
    between_by n m d laid plan shelved few fits went = record {
      laid = laid;
      plan = plan;
      shelved = shelved;
      joined =
          ap (λ ps. ps ++ packets_of q d.buffers name) went.here
          ∙ ap (λ ps. (packets_of p a.link.live.buffers name ++ take n (packets_of q c.buffers name)) ++ ps) went.left
          ∙ append_assoc (packets_of p a.link.live.buffers name) (take n (packets_of q c.buffers name))
          (drop n (packets_of q c.buffers name))
          ∙ ap (λ ps. packets_of p a.link.live.buffers name ++ ps) (take-append-drop n (packets_of q c.buffers name))
          ∙ was.joined;
      within =
          let long = ap length went.here
          ∙ length_taken n (packets_of p a.link.live.buffers name) (packets_of q c.buffers name) few in
          omega (arith, long, fits);
    }

    went_by : (own : Bool) → bytes_eq name tenant ≡ own
        → WentOver p q name (if own then length (carried_for a c tenant) else 0) a.link.live over.book.link.live c
        over.closed
    went_by true test =
        let same : name ≡ tenant = same_name name tenant test in
        record {
          here =
              packets_came name
              ∙ ap (λ own. packets_of p a.link.live.buffers name
              ++ own_of own (take (length (carried_for a c tenant)) (packets_of q c.buffers tenant))) test
              ∙ ap (λ n. packets_of p a.link.live.buffers name
              ++ take (length (carried_for a c tenant)) (packets_of q c.buffers n)) (sym same);
          left =
              packets_left name
              ∙ cond-true (bytes_eq name tenant) (drop (length (carried_for a c tenant)) (packets_of q c.buffers name))
              (packets_of q c.buffers name) test;
        }
    went_by false test = record {
      here =
          packets_came name
          ∙ ap (λ own. packets_of p a.link.live.buffers name
          ++ own_of own (take (length (carried_for a c tenant)) (packets_of q c.buffers tenant))) test;
      left =
          packets_left name
          ∙ cond-false (bytes_eq name tenant) (drop (length (carried_for a c tenant)) (packets_of q c.buffers name))
          (packets_of q c.buffers name) test;
    }

    few_by : (own : Bool) → bytes_eq name tenant ≡ own
        → ((if own then length (carried_for a c tenant) else 0) ≤ length (packets_of q c.buffers name))
        × (length (packets_of p a.link.live.buffers name) + (if own then length (carried_for a c tenant) else 0)
        ≤ tenant_limit p name)
    few_by true test =
        let same : name ≡ tenant = same_name name tenant test in
        let left : length (left_for c tenant) ≡ length (packets_of q c.buffers name) =
        ap length (left_is tenant ∙ ap (packets_of q c.buffers) (sym same)) in
        let places : places_for a.link.live tenant
        ≡ tenant_limit p name - length (packets_of p a.link.live.buffers name) =
        ap (places_for a.link.live) (sym same) ∙ places-left p a.link.live was.laid name in
        let few = first.few in let fits = first.places in let within = was.within in (
          omega (arith, few, left),
          omega (arith, fits, places, within),
        )
    few_by false test = let within = was.within in (omega arith, omega (arith, within))

    pub between-tenant : IsBetween p q name all over.book.link.live over.closed
    between-tenant =
        let fits = few_by (bytes_eq name tenant) refl in
        between_by (if bytes_eq name tenant then length (carried_for a c tenant) else 0) over.book.link.live over.closed
        (subst (λ (b : Audited). IsLaidOut p b.link.live) book_is came.laid) was.plan
        (gone_shelved q (tenant_flow c.plan tenant) (length (carried_for a c tenant)) c.buffers was.shelved)
        fits.0 fits.1 (went_by (bytes_eq name tenant) refl)

    -- if it did not stop, all that had room went over
    settled_by : (n m k : ℕ) → m ≡ min k (length (packets_of q c.buffers name)) → m ≤ n
        → k ≡ tenant_limit p name - length (packets_of p a.link.live.buffers name)
        → n ≤ length (packets_of q c.buffers name)
        → WentOver p q name n a.link.live over.book.link.live c over.closed
        → (b : Bool) → nat_le (length (packets_of q c.buffers name)) n ≡ b
        → IsSettled p q name over.book.link.live over.closed
    settled_by n m k due most places few went true test =
        inl (went.left ∙ drop_all n (packets_of q c.buffers name) (grind (arith, nat_tests, test)))
    settled_by n m k due most places few went false test =
        let more : n < length (packets_of q c.buffers name) = grind (arith, nat_tests, test) in
        let long = ap length went.here
        ∙ length_taken n (packets_of p a.link.live.buffers name) (packets_of q c.buffers name) few in
        inr (omega (arith, due, most, places, more, long))

    pub settled-tenant : bytes_eq name tenant ≡ true → over.stopped ≡ false
        → IsSettled p q name over.book.link.live over.closed
    settled-tenant test went =
        let same : name ≡ tenant = same_name name tenant test in
        let n : ℕ = length (carried_for a c tenant) in
        let most : length (due_for a c tenant) ≤ n = grind (arith, nat_tests, went) in
        let due : length (due_for a c tenant)
        ≡ min (places_for a.link.live tenant) (length (packets_of q c.buffers name)) =
        due-length a c tenant
        ∙ ap (min (places_for a.link.live tenant))
        (count_packets (buffer_of c.buffers (tenant_flow c.plan tenant))
        ∙ ap length (left_is tenant ∙ ap (packets_of q c.buffers) (sym same))) in
        let places : places_for a.link.live tenant
        ≡ tenant_limit p name - length (packets_of p a.link.live.buffers name) =
        ap (places_for a.link.live) (sym same) ∙ places-left p a.link.live was.laid name in
        let few = first.few in
        let left : length (left_for c tenant) ≡ length (packets_of q c.buffers name) =
        ap length (left_is tenant ∙ ap (packets_of q c.buffers) (sym same)) in
        settled_by n (length (due_for a c tenant)) (places_for a.link.live tenant) due most places
        (omega (arith, few, left)) (went_by true test)
        (nat_le (length (packets_of q c.buffers name)) n) refl

    settled_stays : WentOver p q name 0 a.link.live over.book.link.live c over.closed
        → IsSettled p q name a.link.live c → IsSettled p q name over.book.link.live over.closed
    settled_stays went (inl none) = inl (went.left ∙ none)
    settled_stays went (inr full) =
        let same = ap length (went.here ∙ append-nil (packets_of p a.link.live.buffers name)) in
        inr (omega (arith, full, same))

    pub settled-other : bytes_eq name tenant ≡ false → IsSettled p q name a.link.live c
        → IsSettled p q name over.book.link.live over.closed
    settled-other test settled = settled_stays (went_by false test) settled

  -- ---- All tenants

  stays_stopped : (x : Carrying) (ts : List TenantView) → x.stopped ≡ true → (fold carry_next x ts).stopped ≡ true
  stays_stopped x [] stopped = stopped
  stays_stopped x (t ∷ ts) stopped =
      stays_stopped (carry_next x t) ts
      (ap (λ (y : Carrying). y.stopped) (cond-true x.stopped x (carry_tenant x.book x.closed t.name) stopped) ∙ stopped)

  abbrev Between : Carrying → Type 0
  Between x = IsBetween p q name all x.book.link.live x.closed

  abbrev Settled : Carrying → Type 0
  Settled x = IsSettled p q name x.book.link.live x.closed

  between_next : (x : Carrying) (t : TenantView) → Between x → Between (carry_next x t)
  between_next x t was =
      cond_both x.stopped x (carry_tenant x.book x.closed t.name) Between (λ _. was)
      (λ _. between-tenant x.book x.closed t.name was)

  pub between-all : (x : Carrying) (ts : List TenantView) → Between x → Between (fold carry_next x ts)
  between-all x [] was = was
  between-all x (t ∷ ts) was = between-all (carry_next x t) ts (between_next x t was)

  -- either the tenant was settled, or it comes
  abbrev IsAhead : Carrying → List TenantView → Type 0
  IsAhead x ts = Settled x ⊎ ((u : TenantView) × (find (is_tenant name) ts ≡ Some u))

  ahead_next : (x : Carrying) (t : TenantView) (ts : List TenantView) → Between x
      → (carry_tenant x.book x.closed t.name).stopped ≡ false → (own : Bool) → bytes_eq name t.name ≡ own
      → IsAhead x (t ∷ ts)
      → IsAhead (carry_tenant x.book x.closed t.name) ts
  ahead_next x t ts was went true test ahead = inl (settled-tenant x.book x.closed t.name was test went)
  ahead_next x t ts was went false test (inl settled) = inl (settled-other x.book x.closed t.name was test settled)
  ahead_next x t ts was went false test (inr found) =
      inr (found.0, sym (cond-false (bytes_eq name t.name) (Some t) (find (is_tenant name) ts) test) ∙ found.1)

  stopped_not : (x : Carrying) (t : TenantView) (ts : List TenantView)
      → carry_next x t ≡ carry_tenant x.book x.closed t.name
      → (fold carry_next (carry_next x t) ts).stopped ≡ false → (b : Bool)
      → (carry_tenant x.book x.closed t.name).stopped ≡ b → (carry_tenant x.book x.closed t.name).stopped ≡ false
  stopped_not x t ts is went false stopped = stopped
  stopped_not x t ts is went true stopped =
      let all = stays_stopped (carry_tenant x.book x.closed t.name) ts stopped in
      let not = ap (λ (y : Carrying). (fold carry_next y ts).stopped) (sym is) ∙ went in cc

  settled_next : (x : Carrying) (t : TenantView) (ts : List TenantView) → Between x
      → (fold carry_next (carry_next x t) ts).stopped ≡ false → IsAhead x (t ∷ ts)
      → (IsAhead (carry_next x t) ts → Settled (fold carry_next (carry_next x t) ts)) → (b : Bool) → x.stopped ≡ b
      → Settled (fold carry_next (carry_next x t) ts)
  settled_next x t ts was went ahead rest true stopped =
      let all = stays_stopped x (t ∷ ts) stopped in cc
  settled_next x t ts was went ahead rest false stopped =
      let is : carry_next x t ≡ carry_tenant x.book x.closed t.name =
      cond-false x.stopped x (carry_tenant x.book x.closed t.name) stopped in
      let on = stopped_not x t ts is went (carry_tenant x.book x.closed t.name).stopped refl in
      rest (subst (λ (y : Carrying). IsAhead y ts) (sym is)
      (ahead_next x t ts was on (bytes_eq name t.name) refl ahead))

  pub settled-all : (x : Carrying) (ts : List TenantView) → Between x → (fold carry_next x ts).stopped ≡ false
      → IsAhead x ts → Settled (fold carry_next x ts)
  settled-all x [] was went (inl settled) = settled
  settled-all x [] was went (inr found) = let none = found.1 in cc
  settled-all x (t ∷ ts) was went ahead =
      settled_next x t ts was went ahead
      (λ more. settled-all (carry_next x t) ts (between_next x t was) went more) x.stopped refl
