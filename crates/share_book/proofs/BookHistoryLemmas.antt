-- Nothing is lost between books: the payloads that were taken of a tenant are those written whole, followed by those
-- that wait.
use Rattle.std.specs.Prelude.{◌≡◌, ◌⊎◌, ◌≤◌, ◌-◌, ℕ, Bool, true, false, not, List, [], ◌∷◌, ◌++◌, length}
use Rattle.std.specs.Prelude.{take, drop, find, nat_le, bytes_eq, Option, None, Some, is_some, MatchOption, MatchBool}
use Rattle.std.specs.Prelude.{MatchResult, Result, Ok, Err}
use Rattle.std.specs.Prelude.{if◌then◌else◌}
use Rattle.std.specs.List.{list_all}
use Rattle.std.proofs.Common.{refl, ap, sym, ◌∙◌, subst, arith, inl, inr, append_assoc, length-append}
use Rattle.std.proofs.lemmas.Bool.{cond-true}
use Rattle.std.proofs.lemmas.Bool.Decides.{nat_tests}
use Rattle.std.proofs.lemmas.List.{append-nil, take_all, drop_all}
use Rattle.std.proofs.Math.Seq.{take-append_seam, drop-append_seam}
use Rattle.share_base.specs.Body.{unstamped, is_payload_length}
use Rattle.share_base.specs.declared.command.Command.{Command}
use Rattle.share_base.specs.declared.command.Command.TheVariants.{Hold, Resume, Amend}
use Rattle.share_base.specs.declared.command.Event.TheVariants.{Arrived, Commanded, Written}
use Rattle.share_base.specs.declared.command.Outcome.{Outcome}
use Rattle.share_base.specs.declared.command.Reply.{Reply}
use Rattle.share_base.specs.declared.command.Reply.TheVariants.{Refused}
use Rattle.share_base.specs.declared.command.Turn.{Turn}
use Rattle.share_base.specs.declared.refusal.Refusal.{Refusal}
use Rattle.share_base.specs.declared.refusal.Refusal.TheVariants.{Spent as SpentRefusal}
use Rattle.share_core.specs.Room.{has_room}
use Rattle.share_model.specs.declared.rates.Rate.{Rate}
use Rattle.share_model.specs.funding.Graph.{NameBytes}
use Rattle.share_model.specs.link.Arrivals.{accept}
use Rattle.share_model.specs.link.Buffers.{buffer_of}
use Rattle.share_model.specs.link.Calls.{is_spent}
use Rattle.share_model.specs.link.Live.{Live}
use Rattle.share_model.specs.link.Turns.{Sending, frame_of, is_whole, whole, sending, wrote_turn}
use Rattle.share_model.specs.link.Step.{live_step}
use Rattle.share_model.proofs.lemmas.link.TurnLemmas.{written-step}
use Rattle.share_gateway.specs.Opened.{first_refused, opened_link}
use Rattle.share_gateway.specs.Outbox.{OutboxView}
use Rattle.share_gateway.specs.Plan.{PlanView, TenantView, IsInLimits, ascends, flows_of}
use Rattle.share_gateway.specs.PlanChanges.{is_tenant, with_hold, with_amount}
use Rattle.share_gateway.specs.GrantTickets.{grant_ticket}
use Rattle.share_gateway.specs.Planned.{HoldsPlan}
use Rattle.share_book.specs.Audited.{Audited, after_event, lacks_text}
use Rattle.share_book.specs.Book.{BookView, first_of, Takes, TakesPacket, Turns, SendsNext}
use Rattle.share_book.specs.BookHistory.{waiting_in, tenant_limit, limit_by, CarriesAll, all_done, then_more}
use Rattle.share_book.specs.BookHistory.{then_drained, IsCut}
use Rattle.share_book.specs.BookHistory.{payload_if, next_payload, without_last, drained_by}
use Rattle.share_book.specs.BookHistory.{History, opened, took, sent, held, resumed, amended, drained, carried}
use Rattle.share_book.specs.Carry.{Carrying, carry_all, Carries, left_for, left_in, packets_by}
use Rattle.share_book.specs.Changes.{Changes, Amends, IsChange, is_done, plan_after}
use Rattle.share_book.specs.Closed.{ClosedView, closed_of}
use Rattle.share_book.specs.OpenBook.{IsOpenBook}
use Rattle.share_book.specs.Sends.{lacks_room}
use Rattle.share_book.specs.declared.book.Taken.TheVariants.{Packet, Range, Spent, NoText, NoRoom, NoMemory}
use Rattle.share_book.specs.declared.book.Turned.TheVariants.{
  NoText as TurnNoText,
  NoRoom as TurnNoRoom,
  Spent as TurnSpent,
  Idle,
  Wrote,
}
use Rattle.share_book.specs.declared.book_text.TextKind.{TextKind}
use Rattle.share_book.specs.declared.book.carrying.Carried.{Carried}
use Rattle.share_book.specs.declared.book.carrying.Carried.TheVariants.{More, Spent as CarrySpent, Done}
use Rattle.share_book.proofs.CarriedLemmas.{IsBetween, IsSettled, between-all, settled-all}
use Rattle.share_book.proofs.LaidOutLemmas.{IsLaidOut, StaysLaid, packets_of, laid-accept, packets-accept, laid-whole}
use Rattle.share_book.proofs.LaidOutLemmas.{packets-whole, is_control, stays-control, KeepsTenants, keeps-held}
use Rattle.share_book.proofs.LaidOutLemmas.{keeps-amount, laid-kept, flow-kept, laid-opened, empty-opened}
use Rattle.share_book.proofs.OpenLemmas.{open-whole}
use Rattle.share_book.proofs.SendLemmas.{sending-new}
use Rattle.share_book.proofs.TakeLemmas.{accept-is, named_number}
use Rattle.share_book.proofs.TenantLemmas.{both_true}

-- ---- The effect of each call

-- a packet that was taken is an event, and there was room for it
record Took (a : Audited) (name payload : List ℕ) (new : Audited) : Type 0 where
  event : new ≡ after_event a (Arrived name (unstamped payload))
  room : has_room a.link.live name ≡ true

took_by : (a : Audited) (name payload : List ℕ) (seq : ℕ) (new : Audited) (short spent lacks room : Bool)
    → has_room a.link.live name ≡ room
    → MatchOption (first_of ((short, Range) ∷ (spent, Spent) ∷ (lacks, NoText) ∷ (not room, NoRoom) ∷ []))
    (TakesPacket a name payload (Packet seq) new ⊎ ((Packet seq ≡ NoMemory) × (new ≡ a)))
    (λ why. (Packet seq ≡ why) × (new ≡ a))
    → Took a name payload new
took_by a name payload seq new true spent lacks room test did = let not = did.0 in cc
took_by a name payload seq new false true lacks room test did = let not = did.0 in cc
took_by a name payload seq new false false true room test did = let not = did.0 in cc
took_by a name payload seq new false false false false test did = let not = did.0 in cc
took_by a name payload seq new false false false true test (inl did) = record { event = did.event; room = test }
took_by a name payload seq new false false false true test (inr did) = let not = did.0 in cc

took_is : (a : Audited) (name payload : List ℕ) (seq : ℕ) (new : Audited) → Takes a name payload (Packet seq) new
    → Took a name payload new
took_is a name payload seq new did =
    took_by a name payload seq new (not (is_payload_length (length payload))) (is_spent a.link) (lacks_text a)
    (has_room a.link.live name) refl did

-- a turn that wrote is the event of a whole frame
record WroteWhole (a : Audited) (new : Audited) : Type 0 where
  frame : Sending
  is : sending a.link.live ≡ Some frame
  event : new ≡ after_event a (Written (length (frame_of frame)))

wrote_by : (a : Audited) (before : OutboxView) (flow seq count : ℕ) (new : Audited) (after : OutboxView)
    (lacks full spent : Bool) (o : Option Sending) → sending a.link.live ≡ o
    → MatchOption
    (first_of ((lacks, TurnNoText) ∷ (full, TurnNoRoom) ∷ (spent, TurnSpent) ∷ (not (is_some o), Idle) ∷ []))
    (SendsNext a before o (Wrote flow seq count) new after)
    (λ why. (Wrote flow seq count ≡ why) × (new ≡ a) × (after ≡ before))
    → WroteWhole a new
wrote_by a before flow seq count new after true full spent o is did = let not = did.0 in cc
wrote_by a before flow seq count new after false true spent o is did = let not = did.0 in cc
wrote_by a before flow seq count new after false false true o is did = let not = did.0 in cc
wrote_by a before flow seq count new after false false false None is did = let not = did.0 in cc
wrote_by a before flow seq count new after false false false (Some s) is did =
    record { frame = s; is = is; event = did.event }

wrote_is : (a : Audited) (before : OutboxView) (flow seq count : ℕ) (new : Audited) (after : OutboxView)
    → Turns a before (Wrote flow seq count) new after → WroteWhole a new
wrote_is a before flow seq count new after did =
    wrote_by a before flow seq count new after (lacks_text a) (lacks_room before) (is_spent a.link)
    (sending a.link.live) refl did

whole_step : (rates : List Rate) (l : Live) (s : Sending) → l.part ≡ None → sending l ≡ Some s
    → (live_step rates l (Written (length (frame_of s)))).0 ≡ whole rates l s (length (frame_of s))
whole_step rates l s unparted is =
    let new = sending-new l s unparted is in
    let all : is_whole s (length (frame_of s)) ≡ true = grind (arith, nat_tests, new) in
    ap (λ (d : Live × Outcome). d.0) (written-step rates l (length (frame_of s)) s is)
    ∙ ap (λ (d : Live × Turn). d.0)
    (cond-true (is_whole s (length (frame_of s)))
    (whole rates l s (length (frame_of s)), wrote_turn s (length (frame_of s)) true)
    _ all)

-- ---- One book

-- the flows are laid out, and the payloads taken are those written whole, followed by those that wait
pub record IsInOrder (name : NameBytes) (taken written : List (List ℕ)) (b : BookView) : Type 0 where
  pub laid : IsLaidOut b.plan b.audited.link.live
  pub order : taken ≡ written ++ waiting_in b name

order_took : (name : NameBytes) (taken written : List (List ℕ)) (b : BookView) (tenant payload : List ℕ) (seq : ℕ)
    (new : Audited) → IsInOrder name taken written b → Takes b.audited tenant payload (Packet seq) new
    → IsInOrder name (taken ++ payload_if (bytes_eq name tenant) payload) written (record b { audited = new })
order_took name taken written b tenant payload seq new was did =
    let came = took_is b.audited tenant payload seq new did in
    let l : Live = b.audited.link.live in
    let more : List (List ℕ) = payload_if (bytes_eq name tenant) payload in
    let is : new.link.live ≡ accept l (named_number l tenant) payload =
    ap (λ (a : Audited). a.link.live) came.event
    ∙ ap (λ (d : Live × Reply). d.0) (accept-is l tenant payload came.room) in
    record {
      laid = subst (IsLaidOut b.plan) (sym is) (laid-accept b.plan l was.laid tenant payload came.room);
      order =
          ap (λ ps. ps ++ more) was.order ∙ append_assoc written (packets_of b.plan l.buffers name) more
          ∙ ap (λ ps. written ++ ps)
          (sym (ap (λ (l : Live). packets_of b.plan l.buffers name) is
          ∙ packets-accept b.plan l was.laid tenant payload came.room name));
    }

order_sent : (name : NameBytes) (taken written : List (List ℕ)) (b : BookView) (before : OutboxView)
    (flow seq count : ℕ) (new : Audited) (after : OutboxView) → IsInOrder name taken written b
    → Turns b.audited before (Wrote flow seq count) new after
    → IsInOrder name taken (written ++ next_payload b.plan name (sending b.audited.link.live))
    (record b { audited = new })
order_sent name taken written b before flow seq count new after was did =
    let wrote = wrote_is b.audited before flow seq count new after did in
    let l : Live = b.audited.link.live in
    let s : Sending = wrote.frame in
    let rates : List Rate = b.audited.link.rates in
    let is : new.link.live ≡ whole rates l s (length (frame_of s)) =
    ap (λ (a : Audited). a.link.live) wrote.event ∙ whole_step rates l s was.laid.unparted wrote.is in
    let rest : List (List ℕ) = packets_of b.plan new.link.live.buffers name in
    record {
      laid = subst (IsLaidOut b.plan) (sym is) (laid-whole rates b.plan l was.laid s wrote.is (length (frame_of s)));
      order =
          was.order
          ∙ ap (λ ps. written ++ ps)
          (packets-whole rates b.plan l was.laid s wrote.is name (length (frame_of s))
          ∙ ap (λ (l : Live). next_payload b.plan name (Some s) ++ packets_of b.plan l.buffers name) (sym is)
          ∙ ap (λ o. next_payload b.plan name o ++ rest) (sym wrote.is))
          ∙ sym (append_assoc written (next_payload b.plan name (sending l)) rest);
    }

-- the plan is the one before, or one with the same tenants
order_planned : (name : NameBytes) (taken written : List (List ℕ)) (b : BookView) (plan : PlanView) (a : Audited)
    → KeepsTenants b.plan plan → IsInOrder name taken written b
    → StaysLaid b.plan b.audited.link.live a.link.live → (k : Bool)
    → IsInOrder name taken written (record { audited = a; plan = if k then plan else b.plan })
order_planned name taken written b plan a keeps was stays true = record {
  laid = laid-kept b.plan plan keeps a.link.live stays.laid;
  order =
      was.order
      ∙ ap (λ ps. written ++ ps)
      (ap (λ bs. packets_of b.plan bs name) (sym stays.buffers)
      ∙ ap (λ f. packets_by (buffer_of a.link.live.buffers f)) (sym (flow-kept b.plan plan keeps name)));
}
order_planned name taken written b plan a keeps was stays false = record {
  laid = stays.laid;
  order = was.order ∙ ap (λ bs. written ++ packets_of b.plan bs name) (sym stays.buffers);
}

module _ (name : NameBytes) (taken written : List (List ℕ)) (b : BookView) (reply : Reply) (new : BookView)
    (was : IsInOrder name taken written b) where
  order_change : (c : Command) (plan : PlanView) → is_control c ≡ true → KeepsTenants b.plan plan
      → IsChange b c plan reply new → IsInOrder name taken written new
  order_change c plan control keeps did =
      subst (λ (p : PlanView). IsInOrder name taken written (record { audited = new.audited; plan = p })) (sym did.plan)
      (subst (λ (a : Audited). IsInOrder name taken written
      (record { audited = a; plan = plan_after reply b.plan plan }))
      (sym did.audited)
      (order_planned name taken written b plan (after_event b.audited (Commanded c)) keeps was
      (stays-control b.plan b.audited.link.live was.laid b.audited.link.rates c control) (is_done reply)))

  order_changed : (c : Command) (plan : PlanView) → is_control c ≡ true → KeepsTenants b.plan plan → (spent : Bool)
      → MatchBool spent ((reply ≡ Refused SpentRefusal) × (new ≡ b)) (IsChange b c plan reply new)
      → IsInOrder name taken written new
  order_changed c plan control keeps true did = subst (IsInOrder name taken written) (sym did.1) was
  order_changed c plan control keeps false did = order_change c plan control keeps did

  order_amended_by : (grantee : NameBytes) (number amount : ℕ) (spent : Bool) (ticket : Result ℕ Refusal)
      → MatchBool spent ((reply ≡ Refused SpentRefusal) × (new ≡ b))
      (MatchResult ticket
      (λ ticket. IsChange b (Amend ticket amount) (with_amount grantee (number - 1) amount b.plan) reply new)
      (λ why. (reply ≡ Refused why) × (new ≡ b)))
      → IsInOrder name taken written new
  order_amended_by grantee number amount true ticket did = subst (IsInOrder name taken written) (sym did.1) was
  order_amended_by grantee number amount false (Err why) did = subst (IsInOrder name taken written) (sym did.1) was
  order_amended_by grantee number amount false (Ok ticket) did =
      order_change (Amend ticket amount) (with_amount grantee (number - 1) amount b.plan) refl
      (keeps-amount grantee (number - 1) amount b.plan) did

  order_held : (tenant : NameBytes) → Changes b (Hold tenant) (with_hold tenant true b.plan) reply new
      → IsInOrder name taken written new
  order_held tenant did =
      order_changed (Hold tenant) (with_hold tenant true b.plan) refl (keeps-held tenant true b.plan)
      (is_spent b.audited.link) did

  order_resumed : (tenant : NameBytes) → Changes b (Resume tenant) (with_hold tenant false b.plan) reply new
      → IsInOrder name taken written new
  order_resumed tenant did =
      order_changed (Resume tenant) (with_hold tenant false b.plan) refl (keeps-held tenant false b.plan)
      (is_spent b.audited.link) did

  order_amended : (grantee : NameBytes) (number amount : ℕ) → Amends b grantee number amount reply new
      → IsInOrder name taken written new
  order_amended grantee number amount did =
      order_amended_by grantee number amount (is_spent b.audited.link) (grant_ticket b.plan grantee number) did

-- ---- One book after another

rising_of : (p : PlanView) → IsInLimits p → ascends 0 (flows_of p.tenants) ≡ true
rising_of p limits =
    (both_true (ascends 0 (flows_of p.tenants)) (list_all (λ n. nat_le n 1024) (flows_of p.tenants)) limits.flows).0

cut_by : (limit : ℕ) (here left all : List (List ℕ)) → here ++ left ≡ all → length here ≤ limit
    → (left ≡ []) ⊎ (limit ≤ length here) → (here ≡ take limit all) × (left ≡ drop limit all)
cut_by limit here left all joined within (inl none) =
    let same : here ≡ all = sym (append-nil here) ∙ ap (λ ps. here ++ ps) (sym none) ∙ joined in
    let few : length all ≤ limit = subst (λ ps. length ps ≤ limit) same within in
    (same ∙ sym (take_all limit all few), none ∙ sym (drop_all limit all few))
cut_by limit here left all joined within (inr full) =
    let long : length here ≡ limit = omega (arith, within, full) in (
      sym (take-append_seam here left) ∙ (λ k. take (long k) (joined k)),
      sym (drop-append_seam here left) ∙ (λ k. drop (long k) (joined k)),
    )

between_carried : (p q : PlanView) (rising : ascends 0 (flows_of q.tenants) ≡ true) (name : NameBytes)
    (all : List (List ℕ)) (old : Audited) (tenants : List TenantView) (before : ClosedView) (answer : Carried)
    (new : Audited) (after : ClosedView) → IsBetween p q name all old.link.live before
    → Carries old tenants before answer new after → IsBetween p q name all new.link.live after
between_carried p q rising name all old tenants before answer new after was did =
    subst (λ (a : Audited). IsBetween p q name all a.link.live after) (sym did.book)
    (subst (λ (c : ClosedView). IsBetween p q name all (carry_all old before tenants).book.link.live c) (sym did.closed)
    (between-all p q rising name all (record { book = old; closed = before; stopped = false }) tenants was))

-- only what did not stop is done
done_by : (stopped spent : Bool) (left dropped : ℕ)
    → Done dropped ≡ (if stopped then (if spent then CarrySpent else More) else Done left) → stopped ≡ false
done_by true true left dropped is = cc
done_by true false left dropped is = cc
done_by false spent left dropped is = refl

module _ (p q : PlanView) (rising : ascends 0 (flows_of q.tenants) ≡ true) (name : NameBytes)
    (all : List (List ℕ)) where
  between_drained : (old : Audited) (n : ℕ) (before : ClosedView) → IsBetween p q name all old.link.live before
      → IsBetween p q name all (drained_by old n).link.live before
  between_drained old n before was = record {
    laid = was.laid;
    plan = was.plan;
    shelved = was.shelved;
    joined = was.joined;
    within = was.within;
  }

  between-carried : (old : Audited) (tenants : List TenantView) (before : ClosedView) (new : Audited)
      (after : ClosedView) → CarriesAll old tenants before new after → IsBetween p q name all old.link.live before
      → IsBetween p q name all new.link.live after
  between-carried _ _ _ _ _ (all_done old tenants before dropped new after did) was =
      between_carried p q rising name all old tenants before (Done dropped) new after was did
  between-carried _ _ _ _ _ (then_more old tenants before between left new after did rest) was =
      between-carried between tenants left new after rest
      (between_carried p q rising name all old tenants before More between left was did)
  between-carried _ _ _ _ _ (then_drained old tenants before n new after rest) was =
      between-carried (drained_by old n) tenants before new after rest (between_drained old n before was)

  settled-carried : (old : Audited) (tenants : List TenantView) (before : ClosedView) (new : Audited)
      (after : ClosedView) → CarriesAll old tenants before new after → IsBetween p q name all old.link.live before
      → (u : TenantView) → find (is_tenant name) tenants ≡ Some u
      → IsSettled p q name new.link.live after
  settled-carried _ _ _ _ _ (all_done old tenants before dropped new after did) was u found =
      let x : Carrying = record { book = old; closed = before; stopped = false } in
      let went : (carry_all old before tenants).stopped ≡ false =
      done_by (carry_all old before tenants).stopped (is_spent (carry_all old before tenants).book.link)
      (left_in (carry_all old before tenants).closed) dropped did.answer_is in
      subst (λ (a : Audited). IsSettled p q name a.link.live after) (sym did.book)
      (subst (λ (c : ClosedView). IsSettled p q name (carry_all old before tenants).book.link.live c) (sym did.closed)
      (settled-all p q rising name all x tenants was went (inr (u, found))))
  settled-carried _ _ _ _ _ (then_more old tenants before between left new after did rest) was u found =
      settled-carried between tenants left new after rest
      (between_carried p q rising name all old tenants before More between left was did) u found
  settled-carried _ _ _ _ _ (then_drained old tenants before n new after rest) was u found =
      settled-carried (drained_by old n) tenants before new after rest (between_drained old n before was) u found

module _ (planned : (rates : List Rate) (p : PlanView) → IsInLimits p → first_refused rates p ≡ None
    → HoldsPlan p (opened_link rates p)) where
  module _ (rates : List Rate) (p : PlanView) (events : ℕ) (kind : TextKind) (b : BookView) (limits : IsInLimits p)
      (begun : IsOpenBook rates p events kind b) where
    holds : HoldsPlan p b.audited.link.live
    holds = subst (HoldsPlan p) (sym begun.link.live) (planned rates p limits begun.link.sound)

    open_laid : IsLaidOut p b.audited.link.live
    open_laid =
        laid-opened p b.audited.link.live holds (rising_of p limits)
        (open-whole rates p events b.audited.link begun.link).unparted

    open_order : (name : NameBytes) → IsInOrder name [] [] b
    open_order name = record {
      laid = subst (λ (p : PlanView). IsLaidOut p b.audited.link.live) (sym begun.plan) open_laid;
      order =
          sym (ap (λ (p : PlanView). packets_of p b.audited.link.live.buffers name) begun.plan
          ∙ empty-opened p b.audited.link.live holds name);
    }

    module _ (name : NameBytes) (old : BookView) (was : IsLaidOut old.plan old.audited.link.live) (new : Audited)
        (after : ClosedView) (did : CarriesAll b.audited p.tenants (closed_of old) new after) where
      before : IsBetween p old.plan name (waiting_in old name) b.audited.link.live (closed_of old)
      before =
          let none = empty-opened p b.audited.link.live holds name in
          record {
            laid = open_laid;
            plan = refl;
            shelved = was.buffers;
            joined = ap (λ ps. ps ++ waiting_in old name) none;
            within = let few = ap length none in omega (arith, few);
          }

      all_over : IsBetween p old.plan name (waiting_in old name) new.link.live after
      all_over =
          between-carried p old.plan was.rising name (waiting_in old name) b.audited p.tenants (closed_of old) new
          after did before

      settled : (o : Option TenantView) → find (is_tenant name) p.tenants ≡ o
          → IsSettled p old.plan name new.link.live after
      settled (Some u) found =
          settled-carried p old.plan was.rising name (waiting_in old name) b.audited p.tenants (closed_of old) new
          after did before u found
      settled None absent =
          let no_limit : tenant_limit p name ≡ 0 = ap limit_by absent in inr (omega (arith, no_limit))

      here_is : waiting_in (record b { audited = new }) name ≡ packets_of p new.link.live.buffers name
      here_is = ap (λ (p : PlanView). packets_of p new.link.live.buffers name) begun.plan

      left_is : left_for after name ≡ packets_of old.plan after.buffers name
      left_is = ap (λ (q : PlanView). packets_of q after.buffers name) all_over.plan

      pub carried-cut : IsCut name (tenant_limit p name) old (record b { audited = new }) after
      carried-cut =
          let cut = cut_by (tenant_limit p name) (packets_of p new.link.live.buffers name)
          (packets_of old.plan after.buffers name) (waiting_in old name) all_over.joined all_over.within
          (settled (find (is_tenant name) p.tenants) refl) in
          record { carried = here_is ∙ cut.0; dropped = left_is ∙ cut.1 }

      pub carried-order : (taken written : List (List ℕ)) → taken ≡ written ++ waiting_in old name
          → IsInOrder name (without_last (length (left_for after name)) taken) written (record b { audited = new })
      carried-order taken written order =
          let here : List (List ℕ) = waiting_in (record b { audited = new }) name in
          let left : List (List ℕ) = left_for after name in
          let all : taken ≡ (written ++ here) ++ left =
          order
          ∙ ap (λ ps. written ++ ps) (sym ((λ k. here_is k ++ left_is k) ∙ all_over.joined))
          ∙ sym (append_assoc written here left) in
          let long = ap length all ∙ length-append (written ++ here) left in
          let kept : length taken - length left ≡ length (written ++ here) = omega (arith, long) in
          record {
            laid = subst (λ (p : PlanView). IsLaidOut p new.link.live) (sym begun.plan) all_over.laid;
            order = (λ k. take (kept k) (all k)) ∙ take-append_seam (written ++ here) left;
          }

  -- ---- Books that follow one another

  in_order : (name : NameBytes) (taken written : List (List ℕ)) (b : BookView) → History name taken written b
      → IsInOrder name taken written b
  in_order name _ _ _ (opened rates p events kind b limits begun) = open_order rates p events kind b limits begun name
  in_order name _ _ _ (took taken written b tenant payload seq new was did) =
      order_took name taken written b tenant payload seq new (in_order name taken written b was) did
  in_order name _ _ _ (sent taken written b before flow seq count new after was did) =
      order_sent name taken written b before flow seq count new after (in_order name taken written b was) did
  in_order name _ _ _ (held taken written b tenant reply new was did) =
      order_held name taken written b reply new (in_order name taken written b was) tenant did
  in_order name _ _ _ (resumed taken written b tenant reply new was did) =
      order_resumed name taken written b reply new (in_order name taken written b was) tenant did
  in_order name _ _ _ (amended taken written b grantee number amount reply new was did) =
      order_amended name taken written b reply new (in_order name taken written b was) grantee number amount did
  in_order name _ _ _ (drained taken written b n was) =
      let before = in_order name taken written b was in record { laid = before.laid; order = before.order }
  in_order name _ _ _ (carried taken written old rates p events kind b new after was limits begun did) =
      let before = in_order name taken written old was in
      carried-order rates p events kind b limits begun name old before.laid new after did taken written before.order

  pub books-in_order : (name : NameBytes) (taken written : List (List ℕ)) (b : BookView) → History name taken written b
      → taken ≡ written ++ waiting_in b name
  books-in_order name taken written b history = (in_order name taken written b history).order

  pub books-cut : (name : NameBytes) (taken written : List (List ℕ)) (old : BookView) (rates : List Rate) (p : PlanView)
      (events : ℕ) (kind : TextKind) (b : BookView) (new : Audited) (after : ClosedView)
      → History name taken written old → IsInLimits p → IsOpenBook rates p events kind b
      → CarriesAll b.audited p.tenants (closed_of old) new after
      → IsCut name (tenant_limit p name) old (record b { audited = new }) after
  books-cut name taken written old rates p events kind b new after history limits begun did =
      carried-cut rates p events kind b limits begun name old (in_order name taken written old history).laid new after
      did
