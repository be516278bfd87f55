-- The sums that a bill adds up line by line are those over the packets of the whole run.
use Rattle.std.specs.Prelude.{◌≡◌, ◌+◌, ◌==◌, ℕ, Bool, true, false, List, [], ◌∷◌, ◌++◌, length, map, find}
use Rattle.std.specs.Prelude.{nat_eq, sum_by, Option, None, Some, is_some, option_map, option_and_then}
use Rattle.std.specs.Prelude.{Result, Ok, Err, if◌then◌else◌}
use mathlib.Core.List.{append_assoc}
use Rattle.std.proofs.Common.{refl, ap, sym, ◌∙◌, subst, arith}
use Rattle.std.proofs.lemmas.Bool.{eqb-true, eq-eqb}
use Rattle.std.proofs.lemmas.List.{append-nil, length-append}
use Rattle.std.proofs.Math.Nat.{zero-add}
use Rattle.std.proofs.lemmas.List.Elements.{filter-append}
use Rattle.std.proofs.lemmas.List.Sums.{sum_by-append}
use Rattle.std.proofs.lemmas.Option.{same_Some}
use Rattle.share_base.specs.Body.{BodyView}
use Rattle.share_base.specs.declared.command.Command.TheVariants.{OpenFlow}
use Rattle.share_base.specs.declared.command.Event.{Event}
use Rattle.share_base.specs.declared.command.Event.TheVariants.{Commanded, Arrived, Written}
use Rattle.share_base.specs.declared.command.Outcome.{Outcome}
use Rattle.share_base.specs.declared.command.Outcome.TheVariants.{Replied}
use Rattle.share_base.specs.declared.command.Reply.{Reply}
use Rattle.share_base.specs.declared.command.Reply.TheVariants.{Done, Ticket, Flow, Closed, Packet as PacketReply}
use Rattle.share_base.specs.declared.command.Reply.TheVariants.{Refused}
use Rattle.share_base.specs.declared.version.Version.{Version}
use Rattle.share_base.specs.declared.version.Version.TheVariants.{Two}
use Rattle.share_model.specs.declared.line.Line.{Line}
use Rattle.share_model.specs.declared.line.Line.TheVariants.{Change, Send, Turn, Torn, Report, Audit}
use Rattle.share_model.specs.declared.link.Book.{Book}
use Rattle.share_model.specs.declared.rates.Rate.{Rate}
use Rattle.share_model.specs.lists.Rises.{has_number}
use Rattle.share_model.specs.link.Arrivals.{arrive_step}
use Rattle.share_model.specs.link.Books.{is_book_of, account_in, account_of, tariff_in, tariff_of, units_by, units_due}
use Rattle.share_model.specs.link.Books.{with_units}
use Rattle.share_model.specs.link.Buffers.{head_of}
use Rattle.share_model.specs.link.Frame.{Packet}
use Rattle.share_model.specs.link.Live.{Live, empty_link, life_is_spent}
use Rattle.share_model.specs.link.Step.{live_step, turn_outcome}
use Rattle.share_model.specs.link.Tariff.{AreInRange, rate_of, units_of}
use Rattle.share_model.specs.link.Turns.{Sending, sending, sending_at, sending_by, rest_of, frame_of, is_whole, whole}
use Rattle.share_model.specs.link.Turns.{in_part, wrote_turn}
use Rattle.share_model.specs.stride.Moves.{next}
use Rattle.share_model.specs.run.Events.{MayCome, MayRun, MayFollow}
use Rattle.share_model.specs.run.Fold.{State, Sent, TornFrame, empty_state, step, outcome, run, state_after, sent_frame}
use Rattle.share_model.specs.run.Fold.{sent_by_event, finished_by, torn_after}
use Rattle.share_model.specs.run.History.{sent_by, sent_cost, torn_cost, cost_of, bill}
use Rattle.share_model.specs.run.Sound.{Sound, SoundState, max_life}
use Rattle.share_model.proofs.lemmas.link.TurnLemmas.{written-step}
use Rattle.share_model.proofs.lemmas.lists.FirstItemLemmas.{is_some-find_number, map-change_first}
use Rattle.share_model.proofs.lemmas.run.BillLemmas.{run-billed}
use Rattle.share_model.proofs.lemmas.run.ByteLemmas.{keeps-commanded, keeps-arrived, frame_of-sending, sent_of}
use Rattle.share_model.proofs.lemmas.run.EventLemmas.{state-after, state-empty, state_after-last, may_follow-append}
use Rattle.share_model.proofs.lemmas.run.EventLemmas.{may_follow-one}
use Rattle.share_model.proofs.lemmas.run.SoundLinkLemmas.{rest-short, head-stands, sending-head, sending-tariff}
use Rattle.share_bill.specs.declared.bill.kind.Kind.{Kind}
use Rattle.share_bill.specs.declared.bill.line.Wrong.TheVariants.{Spent as SpentLine, Sent as SentLine}
use Rattle.share_bill.specs.declared.bill.making.Made.{Made}
use Rattle.share_bill.specs.declared.bill.making.Made.TheVariants.{Opened, Sent as SentMade, Other}
use Rattle.share_bill.specs.declared.bill.running.TenantFlow.{TenantFlow}
use Rattle.share_bill.specs.declared.bill.sums.Sums.{Sums}
use Rattle.share_bill.specs.Bills.{AreEvents, tenants_in, opened_by, sums_of, row_with, row_of, rows_of}
use Rattle.share_bill.specs.BookLines.{event_of, event_by, next_event, taken_by, written_by}
use Rattle.share_bill.specs.Makings.{BillView, IsBookLink, IsKept, IsSentFrame, KeepsMade, TakesLine}
use Rattle.share_bill.specs.Runs.{IsBillOf}
use Rattle.share_bill.specs.Sums.{one_more, sums_at}
use Rattle.share_bill.proofs.MakingLemmas.{clock-written}

-- ---- Lists of lines

events-more : (kind : Kind) (rates : List Rate) (s : State) (lines : List (List ℕ)) (events : List Event)
    (line : List ℕ) (e : Event) → AreEvents kind rates s lines events
    → next_event kind (state_after rates s events).live line ≡ Ok e
    → AreEvents kind rates s (lines ++ line ∷ []) (events ++ e ∷ [])
unfolding AreEvents state_after
events-more kind rates s [] [] line e are next = (next, tt)
events-more kind rates s [] (f ∷ events) line e are next = absurd are
events-more kind rates s (l ∷ lines) [] line e are next = absurd are
events-more kind rates s (l ∷ lines) (f ∷ events) line e are next =
    (are.0, events-more kind rates (step rates s f) lines events line e are.1 next)

tenants-more : (rates : List Rate) (s : State) (events : List Event) (e : Event)
    → tenants_in rates s (events ++ e ∷ [])
    ≡ tenants_in rates s events ++ opened_by e (outcome rates (state_after rates s events) e)
unfolding tenants_in state_after
tenants-more rates s [] e = append-nil (opened_by e (outcome rates s e))
tenants-more rates s (f ∷ events) e =
    ap (λ ts. opened_by f (outcome rates s f) ++ ts) (tenants-more rates (step rates s f) events e)
    ∙ sym (append_assoc (opened_by f (outcome rates s f)) (tenants_in rates (step rates s f) events)
    (opened_by e (outcome rates (state_after rates (step rates s f) events) e)))

-- ---- Sums over packets

-- the units that a frame is charged
abbrev units_in : List Rate → Version → Sent → ℕ
units_in rates version d = units_of (rate_of rates d.tariff) (length (sent_frame version d))

abbrev bytes_in : Version → Sent → ℕ
bytes_in version d = length (sent_frame version d)

abbrev four_sums : ℕ → ℕ → ℕ → ℕ → Sums
four_sums p b u a = record { packets = p; bytes = b; units = u; amount = a }

-- the sums of a flow, by the packets that it sent
abbrev sums_in : List Rate → Version → Option TornFrame → ℕ → List Sent → Sums
sums_in rates version torn flow ds =
    four_sums (length ds) (sum_by (bytes_in version) ds) (sum_by (units_in rates version) ds)
    (sum_by (sent_cost version rates) ds + torn_cost rates (nat_eq flow) torn)

same_sums : (p b u p' b' u' a : ℕ) → p ≡ p' → b ≡ b' → u ≡ u' → four_sums p b u a ≡ four_sums p' b' u' a
same_sums p b u p' b' u' a same_p same_b same_u =
    ap (λ n. four_sums n b u a) same_p
    ∙ (ap (λ n. four_sums p' n u a) same_b ∙ ap (λ n. four_sums p' b' n a) same_u)

sent_more : (flow : ℕ) (done : List Sent) (d : Sent) (b : Bool) → nat_eq flow d.head.flow ≡ b
    → sent_by flow (done ++ d ∷ []) ≡ sent_by flow done ++ (if b then d ∷ [] else [])
sent_more flow done d b test =
    filter-append (λ (x : Sent). nat_eq flow x.head.flow) done (d ∷ [])
    ∙ ap (λ t. sent_by flow done ++ (if t then d ∷ [] else [])) test

sum_last : (f : Sent → ℕ) (ds : List Sent) (d : Sent) → sum_by f (ds ++ d ∷ []) ≡ sum_by f ds + f d
sum_last f ds d = sum_by-append f ds (d ∷ []) ∙ ap (λ n. sum_by f ds + n) (zero-add (f d))

-- one more frame of this flow, of that many bytes and units, and the cost of all
sums_own : (rates : List Rate) (version : Version) (done : List Sent) (torn : Option TornFrame) (d : Sent)
    (bytes units amount : ℕ) → bytes_in version d ≡ bytes → units_in rates version d ≡ units
    → cost_of version rates (nat_eq d.head.flow) (done ++ d ∷ []) torn ≡ amount
    → sums_in rates version torn d.head.flow (sent_by d.head.flow (done ++ d ∷ []))
    ≡ one_more (sums_in rates version torn d.head.flow (sent_by d.head.flow done)) bytes units amount
sums_own rates version done torn d bytes units amount bytes_are units_are costs =
    let flow = d.head.flow in
    let ds = sent_by flow done in
    let more : sent_by flow (done ++ d ∷ []) ≡ ds ++ d ∷ [] = sent_more flow done d true (eq-eqb flow flow refl) in
    ap (λ a. four_sums (length (sent_by flow (done ++ d ∷ [])))
    (sum_by (bytes_in version) (sent_by flow (done ++ d ∷ [])))
    (sum_by (units_in rates version) (sent_by flow (done ++ d ∷ []))) a) costs
    ∙ same_sums (length (sent_by flow (done ++ d ∷ []))) (sum_by (bytes_in version) (sent_by flow (done ++ d ∷ [])))
    (sum_by (units_in rates version) (sent_by flow (done ++ d ∷ []))) (length ds + 1)
    (sum_by (bytes_in version) ds + bytes) (sum_by (units_in rates version) ds + units) amount
    (ap length more ∙ length-append ds (d ∷ []))
    (ap (sum_by (bytes_in version)) more
    ∙ (sum_last (bytes_in version) ds d ∙ ap (λ n. sum_by (bytes_in version) ds + n) bytes_are))
    (ap (sum_by (units_in rates version)) more
    ∙ (sum_last (units_in rates version) ds d ∙ ap (λ n. sum_by (units_in rates version) ds + n) units_are))

-- nothing changes of another flow
sums_other : (rates : List Rate) (version : Version) (done : List Sent) (torn : Option TornFrame) (d : Sent)
    (flow : ℕ) → nat_eq flow d.head.flow ≡ false
    → sums_in rates version torn flow (sent_by flow (done ++ d ∷ []))
    ≡ sums_in rates version torn flow (sent_by flow done)
sums_other rates version done torn d flow test =
    ap (sums_in rates version torn flow) (sent_more flow done d false test ∙ append-nil (sent_by flow done))

-- ---- Books of flows

units_booked : (rates : List Rate) (n : ℕ) (o : Option Book) → is_some o ≡ true
    → units_by rates n o ≡ units_of (rate_of rates (tariff_in o)) n
units_booked rates n None there = cc
units_booked rates n (Some b) there = refl

account_booked : (o : Option Book) (due : ℕ) → is_some o ≡ true → ((b : Book) → o ≡ Some b → b.account ≡ due)
    → account_in o ≡ due
account_booked None due there was = cc
account_booked (Some b) due there was = was b refl

-- ---- Events of lines

found_in : {A E : Type 0} (spent : Bool) (why : E) (found : Result A E) (e : A)
    → (if spent then Err why else found) ≡ Ok e → found ≡ Ok e
found_in true why found e is = cc
found_in false why found e is = is

taken_event : (flow : List ℕ) (body : BodyView) (reply : Reply) (e : Event) → taken_by flow body reply ≡ Ok e
    → e ≡ Arrived flow body
taken_event flow body (PacketReply number seq) e is = cc
taken_event flow body (Refused why) e is = cc
taken_event flow body Done e is = cc
taken_event flow body (Ticket number) e is = cc
taken_event flow body (Flow number) e is = cc
taken_event flow body (Closed number dropped account) e is = cc

-- a turn of a whole frame
record IsWhole (l : Live) (e : Event) : Type 0 where
  frame : Sending
  sends : sending l ≡ Some frame
  is : e ≡ Written (length (rest_of frame))

whole_event : (l : Live) (count : ℕ) (o : Option Sending) (e : Event) → sending l ≡ o → written_by count o ≡ Ok e
    → IsWhole l e
whole_event l count None e sends is = cc
whole_event l count (Some frame) e sends is = by (length (rest_of frame) == count) refl is
  where
    by : (b : Bool) → (length (rest_of frame) == count) ≡ b
        → (if b then Ok (Written count) else Err (SentLine (length (rest_of frame)))) ≡ Ok e → IsWhole l e
    by true test is = record {
      frame = frame;
      sends = sends;
      is = let same : e ≡ Written count = cc in
          same ∙ ap Written (sym (eqb-true (length (rest_of frame)) count test));
    }
    by false test is = cc

-- the step of a whole frame
whole_live : (life : ℕ) (rates : List Rate) (l : Live) (s : Sending) → Sound life rates l → sending l ≡ Some s
    → (live_step rates l (Written (length (rest_of s)))).0 ≡ whole rates l s (length (rest_of s))
whole_live life rates l s sound sends =
    let k = length (rest_of s) in
    let last : is_whole s k ≡ true =
    let fits = rest-short sound sends in eq-eqb (s.out + k) (length (frame_of s)) (omega (arith, fits)) in
    ap (λ (d : Live × Outcome). d.0)
    (written-step rates l k s sends
    ∙ ap (λ b. turn_outcome (if b then (whole rates l s k, wrote_turn s k true)
    else (in_part l s k, wrote_turn s k false))) last)

-- no event of a line leaves a frame in part
part_after : (life : ℕ) (rates : List Rate) (l : Live) (line : Line) (e : Event) → Sound life rates l
    → l.part ≡ None → event_of l line ≡ Ok e → (live_step rates l e).0.part ≡ None
part_after life rates l (Change c) e sound none is =
    let same : e ≡ Commanded c = let found =
    found_in (life_is_spent max_life l) SpentLine (Ok (Commanded c)) e is in cc in
    ap (λ (f : Event). (live_step rates l f).0.part) same ∙ ((keeps-commanded sound c).part ∙ none)
part_after life rates l (Send flow body) e sound none is =
    let same : e ≡ Arrived flow body =
    taken_event flow body (arrive_step l flow body.payload).1 e
    (found_in (life_is_spent max_life l) SpentLine (taken_by flow body (arrive_step l flow body.payload).1) e is) in
    ap (λ (f : Event). (live_step rates l f).0.part) same
    ∙ ((keeps-arrived sound flow body.payload).part ∙ none)
part_after life rates l (Turn count) e sound none is =
    let w = whole_event l count (sending l) e refl
    (found_in (life_is_spent max_life l) SpentLine (written_by count (sending l)) e is) in
    ap (λ (f : Event). (live_step rates l f).0.part) w.is
    ∙ ap (λ (m : Live). m.part) (whole_live life rates l w.frame sound w.sends)
part_after life rates l Torn e sound none is = cc
part_after life rates l Report e sound none is = cc
part_after life rates l (Audit version) e sound none is = cc

new_out : (l : Live) (o : Option Packet) (s : Sending) → option_map (sending_at l 0) o ≡ Some s → s.out ≡ 0
new_out l None s is = cc
new_out l (Some h) s is = ap (λ (x : Sending). x.out) (sym (same_Some (sending_at l 0 h) s is))

-- a frame that is sent when none is in part is sent from its beginning
frame_new : (l : Live) (s : Sending) → l.part ≡ None → sending l ≡ Some s → s.out ≡ 0
unfolding sending
frame_new l s none is =
    new_out l (option_and_then (head_of l.buffers) (next l.queue.clients)) s
    (sym (ap (sending_by l) none) ∙ is)

-- ---- A line more

-- of a bill of the lines so far, which takes one more
module _ {W : Type 0} (rates : List Rate) (range : AreInRange rates) (lines : List (List ℕ)) (events : List Event)
    (old new : BillView W) (was : IsBillOf rates lines events old) (line : List ℕ) (takes : TakesLine old line new)
    (book : IsBookLink new.link) where
  abbrev s : State
  s = run Two rates events

  abbrev made : Made
  made = takes.obeys.made

  abbrev e : Event
  e = takes.obeys.makes.event

  sound : SoundState max_life rates s
  sound = state-after max_life rates (empty_state Two) events range (state-empty Two max_life rates) was.may

  last : run Two rates (events ++ e ∷ []) ≡ step rates s e
  last = state_after-last rates (empty_state Two) events e

  live_is : new.link.live ≡ (step rates s e).live
  live_is =
      takes.obeys.makes.makes.live
      ∙ (ap (λ (r : List Rate). (live_step r old.link.live e).0) was.rates_are
      ∙ ap (λ (l : Live). (live_step rates l e).0) was.live)

  outcome_is : takes.obeys.makes.outcome ≡ outcome rates s e
  outcome_is =
      takes.obeys.makes.makes.outcome_is
      ∙ (ap (λ (r : List Rate). (live_step r old.link.live e).1) was.rates_are
      ∙ ap (λ (l : Live). (live_step rates l e).1) was.live)

  event_is : event_of s.live takes.line ≡ Ok e
  event_is = sym (ap (λ (l : Live). event_of l takes.line) was.live) ∙ takes.obeys.makes.is

  next_is : next_event old.kind s.live line ≡ Ok e
  unfolding next_event
  next_is = ap (event_by s.live) takes.reads ∙ event_is

  may_more : MayRun Two max_life rates (events ++ e ∷ [])
  may_more =
      let below = takes.obeys.makes.makes.below in
      let life = was.link.life in
      let events_are = ap (λ (l : Live). l.counts.events) was.live in
      may_follow-append max_life rates (empty_state Two) events (e ∷ []) was.may
      (may_follow-one max_life rates s e (omega (arith, below, life, events_are))
      (subst (λ (l : Live). MayCome l e) was.live takes.obeys.makes.makes.may))

  version_is : s.live.version ≡ Two
  version_is = sym (ap (λ (l : Live). l.version) was.live) ∙ was.link.version

  version_same : (step rates s e).live.version ≡ s.live.version
  version_same = sym (ap (λ (l : Live). l.version) live_is) ∙ (book.version ∙ sym version_is)

  -- an event that sends nothing
  sums_kept : sent_by_event s.live e ≡ [] → torn_after s.live e s.torn ≡ s.torn → (flow : ℕ)
      → sums_of rates (step rates s e) flow ≡ sums_of rates s flow
  sums_kept none torn flow =
      ap (λ (v : Version). sums_in rates v (step rates s e).torn flow (sent_by flow (step rates s e).done)) version_same
      ∙ (ap (λ (t : Option TornFrame). sums_in rates s.live.version t flow (sent_by flow (step rates s e).done)) torn
      ∙ ap (λ (ds : List Sent). sums_in rates s.live.version s.torn flow (sent_by flow ds))
      (ap (λ (ds : List Sent). s.done ++ ds) none ∙ append-nil s.done))

  -- a whole frame that was sent
  module _ (flow bytes units amount : ℕ)
      (kept : IsSentFrame old.link.live flow bytes units amount e new.link.live) where
    abbrev frame : Sending
    frame = kept.frame

    sends : sending s.live ≡ Some frame
    sends = sym (ap sending was.live) ∙ kept.sends

    length_is : length (frame_of frame) ≡ bytes
    length_is =
        let fits = rest-short sound.live sends in
        let out = frame_new s.live frame was.whole sends in
        let all = kept.whole in
        omega (arith, fits, out, all)

    event_whole : e ≡ Written (length (rest_of frame))
    event_whole = kept.is ∙ ap Written (sym kept.whole)

    step_whole : (step rates s e).live ≡ whole rates s.live frame (length (rest_of frame))
    step_whole =
        ap (λ (f : Event). (live_step rates s.live f).0) event_whole
        ∙ whole_live max_life rates s.live frame sound.live sends

    done_more : (step rates s e).done ≡ s.done ++ sent_of frame ∷ []
    done_more =
        let fits = rest-short sound.live sends in
        let last : is_whole frame (length (rest_of frame)) ≡ true =
        eq-eqb (frame.out + length (rest_of frame)) (length (frame_of frame)) (omega (arith, fits)) in
        ap (λ (f : Event). s.done ++ sent_by_event s.live f) event_whole
        ∙ (ap (λ (o : Option Sending). s.done ++ finished_by (length (rest_of frame)) o) sends
        ∙ ap (λ b. s.done ++ (if b then sent_of frame ∷ [] else [])) last)

    torn_same : (step rates s e).torn ≡ s.torn
    torn_same = ap (λ (f : Event). torn_after s.live f s.torn) event_whole

    head_flow : frame.head.flow ≡ flow
    head_flow = kept.flow_is

    -- the flow has a book, before the event and after it
    booked : (books : List Book) → map (λ (b : Book). b.flow) books ≡ map (λ (b : Book). b.flow) s.live.books
        → is_some (find (is_book_of frame.head.flow) books) ≡ true
    booked books same =
        is_some-find_number (λ (b : Book). b.flow) frame.head.flow books
        ∙ (ap (has_number frame.head.flow) (same ∙ sound.live.flows.booked)
        ∙ head-stands sound.live frame.head.flow (sending-head sound.live sends))

    abbrev due : ℕ
    due = units_due rates s.live.books frame.head.flow (length (frame_of frame))

    books_same : map (λ (b : Book). b.flow) (step rates s e).live.books ≡ map (λ (b : Book). b.flow) s.live.books
    books_same =
        ap (λ (l : Live). map (λ (b : Book). b.flow) l.books) step_whole
        ∙ map-change_first (λ (b : Book). b.flow) (is_book_of frame.head.flow) (with_units rates due) (λ b. refl)
        s.live.books

    frame_bytes_are : bytes_in s.live.version (sent_of frame) ≡ bytes
    frame_bytes_are = ap length (frame_of-sending sound.live sends) ∙ length_is

    units_are : units_in rates s.live.version (sent_of frame) ≡ units
    units_are =
        let clock = clock-written rates s.live frame (length (rest_of frame)) in
        let now = ap (λ (l : Live). l.queue.clock) (live_is ∙ step_whole) in
        let before = ap (λ (l : Live). l.queue.clock) was.live in
        let charged = kept.charged in
        let due_is : due ≡ units = omega (arith, clock, now, before, charged) in
        ap (λ t. units_of (rate_of rates t) (bytes_in s.live.version (sent_of frame))) (sending-tariff sound.live sends)
        ∙ (ap (λ n. units_of (rate_of rates (tariff_of s.live.books frame.head.flow)) n)
        (ap length (frame_of-sending sound.live sends))
        ∙ (sym (units_booked rates (length (frame_of frame)) (find (is_book_of frame.head.flow) s.live.books)
        (booked s.live.books refl))
        ∙ due_is))

    amount_is : cost_of s.live.version rates (nat_eq frame.head.flow) (s.done ++ sent_of frame ∷ []) s.torn ≡ amount
    amount_is =
        let account : account_of (step rates s e).live.books frame.head.flow
        ≡ bill rates (step rates s e) frame.head.flow =
        account_booked (find (is_book_of frame.head.flow) (step rates s e).live.books)
        (bill rates (step rates s e) frame.head.flow) (booked (step rates s e).live.books books_same)
        (λ b found. run-billed_last frame.head.flow b found) in
        sym (ap (λ (v : Version). cost_of v rates (nat_eq frame.head.flow) (s.done ++ sent_of frame ∷ []) s.torn)
        version_same)
        ∙ (sym (ap (λ (t : Option TornFrame). cost_of (step rates s e).live.version rates (nat_eq frame.head.flow)
        (s.done ++ sent_of frame ∷ []) t) torn_same)
        ∙ (sym (ap (λ (ds : List Sent). cost_of (step rates s e).live.version rates (nat_eq frame.head.flow) ds
        (step rates s e).torn) done_more)
        ∙ (sym account
        ∙ (ap (λ n. account_of (step rates s e).live.books n) head_flow
        ∙ (sym (ap (λ (l : Live). account_of l.books flow) live_is) ∙ kept.costs)))))
      where
        run-billed_last : (f : ℕ) (b : Book) → find (is_book_of f) (step rates s e).live.books ≡ Some b
            → b.account ≡ bill rates (step rates s e) f
        run-billed_last f b found =
            run-billed Two max_life rates (events ++ e ∷ []) range may_more f b
            (ap (λ (t : State). find (is_book_of f) t.live.books) last ∙ found)
            ∙ ap (λ (t : State). bill rates t f) last

    sums_now : (other : ℕ) → sums_of rates (step rates s e) other
        ≡ sums_in rates s.live.version s.torn other (sent_by other (s.done ++ sent_of frame ∷ []))
    sums_now other =
        ap (λ (v : Version). sums_in rates v (step rates s e).torn other (sent_by other (step rates s e).done))
        version_same
        ∙ (ap (λ (t : Option TornFrame). sums_in rates s.live.version t other (sent_by other (step rates s e).done))
        torn_same
        ∙ ap (λ (ds : List Sent). sums_in rates s.live.version s.torn other (sent_by other ds)) done_more)

    sums_more : (other : ℕ) → sums_of rates (step rates s e) other
        ≡ (if nat_eq other flow then one_more (sums_of rates s flow) bytes units amount else sums_of rates s other)
    sums_more other = sums_now other ∙ by (nat_eq other flow) refl
      where
        by : (b : Bool) → nat_eq other flow ≡ b
            → sums_in rates s.live.version s.torn other (sent_by other (s.done ++ sent_of frame ∷ []))
            ≡ (if b then one_more (sums_of rates s flow) bytes units amount else sums_of rates s other)
        by true test =
            ap (λ n. sums_in rates s.live.version s.torn n (sent_by n (s.done ++ sent_of frame ∷ [])))
            (eqb-true other flow test ∙ sym head_flow)
            ∙ (sums_own rates s.live.version s.done s.torn (sent_of frame) bytes units amount frame_bytes_are units_are
            amount_is
            ∙ ap (λ n. one_more (sums_of rates s n) bytes units amount) head_flow)
        by false test =
            sums_other rates s.live.version s.done s.torn (sent_of frame) other
            (ap (nat_eq other) head_flow ∙ test)

    opens_none : opened_by e (outcome rates s e) ≡ []
    opens_none = ap (λ (f : Event). opened_by f (outcome rates s e)) event_whole

  -- the flows of tenants, and the sums, after what the line made
  kept_by : (m : Made) → IsKept m old.link.live e takes.obeys.makes.outcome new.link.live
      → KeepsMade m old.tenants old.sent new.tenants new.sent
      → (new.tenants ≡ old.tenants ++ opened_by e (outcome rates s e))
      × ((flow : ℕ) → sums_at new.sent flow ≡ sums_of rates (step rates s e) flow)
  kept_by (Opened name flow) kept keeps =
      let event : e ≡ Commanded (OpenFlow name kept.0 kept.1) = kept.2 in
      let out : outcome rates s e ≡ Replied (Flow flow) = sym outcome_is ∙ kept.3 in (
        keeps.0
            ∙ ap (λ ts. old.tenants ++ ts)
            (sym (ap (λ (f : Event). opened_by f (outcome rates s e)) event
            ∙ ap (λ (o : Outcome). opened_by (Commanded (OpenFlow name kept.0 kept.1)) o) out)),
        λ f.
            ap (λ (ss : List Sums). sums_at ss f) keeps.1
            ∙ (was.sent f
            ∙ sym (sums_kept (ap (λ (g : Event). sent_by_event s.live g) event)
            (ap (λ (g : Event). torn_after s.live g s.torn) event) f)),
      )
  kept_by (SentMade flow bytes units amount) kept keeps = (
    keeps.0
        ∙ (sym (append-nil old.tenants)
        ∙ ap (λ ts. old.tenants ++ ts) (sym (opens_none flow bytes units amount kept))),
    λ other.
        keeps.1 other
        ∙ (ap (λ (x : Sums). if nat_eq other flow then one_more x bytes units amount else sums_at old.sent other)
        (was.sent flow)
        ∙ (ap (λ (x : Sums). if nat_eq other flow then one_more (sums_of rates s flow) bytes units amount else x)
        (was.sent other)
        ∙ sym (sums_more flow bytes units amount kept other))),
  )
  kept_by Other kept keeps = (
    keeps.0
        ∙ (sym (append-nil old.tenants)
        ∙ ap (λ ts. old.tenants ++ ts)
        (sym (ap (λ (o : Outcome). opened_by e o) (sym outcome_is) ∙ kept.0))),
    λ f.
        ap (λ (ss : List Sums). sums_at ss f) keeps.1
        ∙ (was.sent f
        ∙ sym (sums_kept (sym (ap (λ (l : Live). sent_by_event l e) was.live) ∙ kept.1)
        (sym (ap (λ (l : Live). torn_after l e s.torn) was.live) ∙ kept.2 s.torn) f)),
  )

  pub bill-more : IsBillOf rates (lines ++ line ∷ []) (events ++ e ∷ []) new
  bill-more =
      let kept = kept_by made takes.obeys.makes.kept takes.obeys.keeps in
      record {
        are = subst (λ (k : Kind). AreEvents k rates (empty_state Two) (lines ++ line ∷ []) (events ++ e ∷ []))
            (sym takes.kind) (events-more old.kind rates (empty_state Two) lines events line e was.are next_is);
        may = may_more;
        link = book;
        rates_are = takes.obeys.makes.makes.rates ∙ was.rates_are;
        live = live_is ∙ sym (ap (λ (t : State). t.live) last);
        whole = ap (λ (t : State). t.live.part) last
            ∙ part_after max_life rates s.live takes.line e sound.live was.whole event_is;
        tenants = kept.0
            ∙ (ap (λ ts. ts ++ opened_by e (outcome rates s e)) was.tenants
            ∙ sym (tenants-more rates (empty_state Two) events e));
        sent = λ flow. kept.1 flow ∙ sym (ap (λ (t : State). sums_of rates t flow) last);
      }

-- ---- The first line, and the rows

pub bill-empty : {W : Type 0} (rates : List Rate) (new : BillView W) → IsBookLink new.link → new.link.rates ≡ rates
    → new.link.live ≡ empty_link Two → new.tenants ≡ [] → new.sent ≡ [] → IsBillOf rates [] [] new
unfolding AreEvents MayFollow state_after tenants_in
bill-empty rates new book rates_are live tenants sent = record {
  are = tt;
  may = tt;
  link = book;
  rates_are = rates_are;
  live = live;
  whole = refl;
  tenants = tenants;
  sent = λ flow. ap (λ (ss : List Sums). sums_at ss flow) sent ∙ nothing_at flow;
}
  where
    nothing_at : (flow : ℕ) → sums_at [] flow ≡ sums_of rates (empty_state Two) flow
    nothing_at flow = refl

rows_same : (tenants : List TenantFlow) (sent : ℕ → Sums) (sums : ℕ → Sums) → ((flow : ℕ) → sent flow ≡ sums flow)
    → map (λ (t : TenantFlow). row_with t (sent t.flow)) tenants
    ≡ map (λ (t : TenantFlow). row_with t (sums t.flow)) tenants
rows_same [] sent sums same = refl
rows_same (t ∷ ts) sent sums same =
    ap (λ (x : Sums). row_with t x ∷ map (λ (u : TenantFlow). row_with u (sent u.flow)) ts) (same t.flow)
    ∙ ap (λ l. row_with t (sums t.flow) ∷ l) (rows_same ts sent sums same)

pub rows-are : {W : Type 0} (rates : List Rate) (lines : List (List ℕ)) (events : List Event) (b : BillView W)
    → IsBillOf rates lines events b
    → map (λ (t : TenantFlow). row_with t (sums_at b.sent t.flow)) b.tenants ≡ rows_of rates events
rows-are rates lines events b is =
    rows_same b.tenants (sums_at b.sent) (λ flow. sums_of rates (run Two rates events) flow) is.sent
    ∙ ap (map (row_of rates (run Two rates events))) is.tenants
