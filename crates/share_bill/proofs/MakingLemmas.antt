-- The effect of a line on the link of a bill.
use Rattle.std.specs.Prelude.{◌≡◌, ◌≢◌, ◌<◌, ◌≤◌, ◌+◌, ◌==◌, ◌^◌, ◌&&◌, not, ℕ, Bool, true, false, List, length, take}
use Rattle.std.specs.Prelude.{Option, None, Some, Result, Ok, Err, MatchBool, MatchOption, if◌then◌else◌}
use Rattle.std.proofs.Common.{refl, ap, sym, ◌∙◌, subst, arith, inl, inr, length-take}
use Rattle.std.proofs.lemmas.Bool.Decides.{nat_tests}
use Rattle.std.proofs.lemmas.Bool.{eq-eqb, ne_eqb}
use Rattle.share_base.specs.Body.{BodyView, IsUnstamped}
use Rattle.share_base.specs.declared.command.Command.{Command}
use Rattle.share_base.specs.declared.command.Command.TheVariants.{MakeCurrency, RemoveCurrency, MakeTicket}
use Rattle.share_base.specs.declared.command.Command.TheVariants.{RemoveTicket, FundCurrency, FundFlow, Unfund}
use Rattle.share_base.specs.declared.command.Command.TheVariants.{OpenFlow, CloseFlow, Hold, Resume, Amend}
use Rattle.share_base.specs.declared.command.Event.{Event}
use Rattle.share_base.specs.declared.command.Event.TheVariants.{Commanded, Arrived, Written}
use Rattle.share_base.specs.declared.command.Outcome.{Outcome}
use Rattle.share_base.specs.declared.command.Outcome.TheVariants.{Replied}
use Rattle.share_base.specs.declared.command.Turn.{Turn}
use Rattle.share_base.specs.declared.command.Turn.TheVariants.{Broken, Spent}
use Rattle.share_base.specs.declared.command.Reply.{Reply}
use Rattle.share_base.specs.declared.command.Reply.TheVariants.{Done, Ticket, Flow, Closed, Packet, Refused}
use Rattle.share_base.specs.declared.refusal.Refusal.TheVariants.{Spent as SpentRefusal}
use Rattle.share_model.specs.declared.line.Line.TheVariants.{Change, Send, Turn as TurnLine}
use Rattle.share_model.specs.declared.rates.Rate.{Rate}
use Rattle.share_model.specs.declared.writer.Answer.{Answer}
use Rattle.share_model.specs.declared.writer.Answer.TheVariants.{Accepted, Interrupted, Failed}
use Rattle.share_model.specs.funding.Graph.{NameBytes}
use Rattle.share_model.specs.link.Arrivals.{arrive_step}
use Rattle.share_model.specs.funding.Changes.{set_active}
use Rattle.share_model.specs.link.Books.{account_of, units_due, is_held}
use Rattle.share_model.specs.link.Buffers.{is_busy, pop_in}
use Rattle.share_model.specs.link.Calls.{is_spent, Stepped, Steps, CommandCall, TurnCall, OffersSome, step_by_answer}
use Rattle.share_model.specs.link.Commands.{command_step}
use Rattle.share_model.specs.link.Fields.{IsName, IsBody, HasCommandFields}
use Rattle.share_model.specs.link.Live.{Live, life_is_spent, tickets_of_all}
use Rattle.share_model.specs.link.Step.{live_step, turn_outcome}
use Rattle.share_model.specs.link.Turns.{Sending, sending, rest_of, frame_of, is_whole, in_part, whole, wrote_turn}
use Rattle.share_model.specs.link.Turns.{write_step, fault_step}
use Rattle.share_model.specs.link.View.{LinkView}
use Rattle.share_model.specs.stride.Moves.{charge}
use Rattle.share_model.specs.run.Sound.{Sound, max_life}
use Rattle.share_model.proofs.lemmas.link.TurnLemmas.{events-below, written-step}
use Rattle.share_model.proofs.lemmas.stride.LevellingLemmas.{clock-level_all}
use Rattle.share_model.proofs.lemmas.run.SoundLinkLemmas.{rest-short, sending-short}
use Rattle.share_model.proofs.lemmas.text.OfferLemmas.{rest-some}
use Rattle.share_model.proofs.lemmas.run.ByteLemmas.{KeepsFrames, keeps-commanded, keeps-arrived}
use Rattle.share_bill.specs.declared.bill.line.Wrong.{Wrong}
use Rattle.share_bill.specs.declared.bill.line.Wrong.TheVariants.{Spent as SpentLine, Idle as IdleLine}
use Rattle.share_bill.specs.declared.bill.line.Wrong.TheVariants.{Sent as SentLine}
use Rattle.share_bill.specs.declared.bill.making.Frame.{Frame}
use Rattle.share_bill.specs.declared.bill.making.Made.TheVariants.{Sent}
use Rattle.share_bill.specs.BookLines.{event_of, taken_by, written_by}
use Rattle.share_bill.specs.Discard.{TakesWhole}
use Rattle.share_bill.specs.Makings.{IsBookLink, MakesLine, MakesOrNot, IsKept, is_lack, made_as, made_by, taken_as}
use Rattle.share_bill.specs.Makings.{WritesFrame, frame_in}

-- The life

module _ {W : Type 0} (old : LinkView W) (book : IsBookLink old) where
  pub spent-too : (b : Bool) → is_spent old ≡ b → life_is_spent max_life old.live ≡ b
  spent-too b is = subst (λ n. life_is_spent n old.live ≡ b) book.life is

  pub none-left : (found : Result Event Wrong) → is_spent old ≡ true
      → (if life_is_spent max_life old.live then Err SpentLine else found) ≡ Err SpentLine
  none-left found spent = ap (λ b. if b then Err SpentLine else found) (spent-too true spent)

  pub some-left : (found : Result Event Wrong) → is_spent old ≡ false
      → (if life_is_spent max_life old.live then Err SpentLine else found) ≡ found
  some-left found living = ap (λ b. if b then Err SpentLine else found) (spent-too false living)

  -- frames go on as before
  pub book-kept : (new : LinkView W) (next : Live) → KeepsFrames old.live next → new.live ≡ next → new.life ≡ old.life
      → IsBookLink new
  book-kept new next keeps live life = record {
    life = life ∙ book.life;
    version = ap (λ (l : Live). l.version) live ∙ (keeps.version ∙ book.version);
    unbroken = ap (λ (l : Live). l.broken) live ∙ (keeps.broken ∙ book.unbroken);
  }

  pub book-same : (new : LinkView W) → new ≡ old → IsBookLink new
  book-same new same = subst (λ (s : LinkView W). IsBookLink s) (sym same) book

-- Commands

as_kept : (flow : ℕ) (c : Command) (old new : Live)
    → IsKept (made_as flow c) old (Commanded c) (Replied (Flow flow)) new
as_kept flow (MakeCurrency name) old new = (refl, refl, λ t. refl)
as_kept flow (RemoveCurrency name) old new = (refl, refl, λ t. refl)
as_kept flow (MakeTicket amount currency) old new = (refl, refl, λ t. refl)
as_kept flow (RemoveTicket ticket) old new = (refl, refl, λ t. refl)
as_kept flow (FundCurrency ticket currency) old new = (refl, refl, λ t. refl)
as_kept flow (FundFlow ticket funded) old new = (refl, refl, λ t. refl)
as_kept flow (Unfund ticket) old new = (refl, refl, λ t. refl)
as_kept flow (OpenFlow name limit tariff) old new = (limit, tariff, refl, refl)
as_kept flow (CloseFlow name) old new = (refl, refl, λ t. refl)
as_kept flow (Hold name) old new = (refl, refl, λ t. refl)
as_kept flow (Resume name) old new = (refl, refl, λ t. refl)
as_kept flow (Amend ticket amount) old new = (refl, refl, λ t. refl)

command_kept : (c : Command) (reply : Reply) (old new : Live)
    → IsKept (made_by c reply) old (Commanded c) (Replied reply) new
command_kept c Done old new = (refl, refl, λ t. refl)
command_kept c (Ticket number) old new = (refl, refl, λ t. refl)
command_kept c (Flow flow) old new = as_kept flow c old new
command_kept c (Closed flow dropped account) old new = (refl, refl, λ t. refl)
command_kept c (Packet flow seq) old new = (refl, refl, λ t. refl)
command_kept c (Refused why) old new = (refl, refl, λ t. refl)

module _ {W : Type 0} (old new : LinkView W) (book : IsBookLink old) (sound : Sound old.life old.rates old.live)
    (living : is_spent old ≡ false) (c : Command) (reply : Reply) (did : CommandCall old c reply new) where
  command_stepped : (none : is_lack reply ≡ false) → Stepped (command_step old.rates old.live c) old reply new
  command_stepped none = elim did [
    | inl found ↦ let lack : is_lack reply ≡ true = ap is_lack found.reply_is in cc
    | inr stepped ↦ subst (λ b. MatchBool b ((reply ≡ Refused SpentRefusal) × (new ≡ old))
        (Stepped (command_step old.rates old.live c) old reply new)) living stepped
  ]

  pub command-made : HasCommandFields c → is_lack reply ≡ false → MakesLine old (Change c) (made_by c reply) new
  command-made fields none =
      let stepped = command_stepped none in
      record {
        event = Commanded c;
        outcome = Replied reply;
        is = some-left old book (Ok (Commanded c)) living;
        makes = record {
          below = events-below old sound living;
          may = fields;
          live = stepped.live;
          outcome_is = ap Replied stepped.answer_is;
          life = stepped.rest.life;
          rates = stepped.rest.rates;
        };
        kept = command_kept c reply old.live new.live;
      }

  book_stepped : Stepped (command_step old.rates old.live c) old reply new → IsBookLink new
  book_stepped stepped =
      book-kept old book new (command_step old.rates old.live c).0 (keeps-commanded sound c) stepped.live
      stepped.rest.life

  pub command-book : IsBookLink new
  command-book = elim did [
    | inl found ↦ book-same old book new found.unchanged
    | inr stepped ↦ book_stepped
        (subst (λ b. MatchBool b ((reply ≡ Refused SpentRefusal) × (new ≡ old))
        (Stepped (command_step old.rates old.live c) old reply new)) living stepped)
  ]

  pub command-rates : new.rates ≡ old.rates
  command-rates = elim did [
    | inl found ↦ ap (λ (s : LinkView W). s.rates) found.unchanged
    | inr stepped ↦
        (subst (λ b. MatchBool b ((reply ≡ Refused SpentRefusal) × (new ≡ old))
        (Stepped (command_step old.rates old.live c) old reply new)) living stepped).rest.rates
  ]

-- Packets

module _ {W : Type 0} (old new : LinkView W) (book : IsBookLink old) (sound : Sound old.life old.rates old.live)
    (living : is_spent old ≡ false) (flow : NameBytes) (body : BodyView) (reply : Reply)
    (did : Steps (λ _ l. arrive_step l flow body.payload) old reply new) where
  arrival_stepped : Stepped (arrive_step old.live flow body.payload) old reply new
  arrival_stepped =
      subst (λ b. MatchBool b ((reply ≡ Refused SpentRefusal) × (new ≡ old))
      (Stepped (arrive_step old.live flow body.payload) old reply new)) living did

  arrival_is : event_of old.live (Send flow body) ≡ taken_by flow body reply
  arrival_is =
      some-left old book (taken_by flow body (arrive_step old.live flow body.payload).1) living
      ∙ ap (taken_by flow body) (sym arrival_stepped.answer_is)

  module _ (name : IsName flow) (fits : IsBody old.live.version body.payload) (unstamped : IsUnstamped body) where
    arrival_made : (given : Reply) → reply ≡ given → MakesOrNot old (Send flow body) (taken_as given) new
    arrival_made (Packet number seq) is = record {
      event = Arrived flow body;
      outcome = Replied reply;
      is = arrival_is ∙ ap (taken_by flow body) is;
      makes = record {
        below = events-below old sound living;
        may = (name, fits, unstamped);
        live = arrival_stepped.live;
        outcome_is = ap Replied arrival_stepped.answer_is;
        life = arrival_stepped.rest.life;
        rates = arrival_stepped.rest.rates;
      };
      kept = (refl, refl, λ t. refl);
    }
    arrival_made (Refused why) is = arrival_is ∙ ap (taken_by flow body) is
    arrival_made Done is = arrival_is ∙ ap (taken_by flow body) is
    arrival_made (Ticket number) is = arrival_is ∙ ap (taken_by flow body) is
    arrival_made (Flow number) is = arrival_is ∙ ap (taken_by flow body) is
    arrival_made (Closed number dropped account) is = arrival_is ∙ ap (taken_by flow body) is

    pub arrival-made : MakesOrNot old (Send flow body) (taken_as reply) new
    arrival-made = arrival_made reply refl

  pub arrival-book : IsBookLink new
  arrival-book =
      book-kept old book new (arrive_step old.live flow body.payload).0 (keeps-arrived sound flow body.payload)
      arrival_stepped.live arrival_stepped.rest.life

  pub arrival-rates : new.rates ≡ old.rates
  arrival-rates = arrival_stepped.rest.rates

-- Turns

wrote_whole : {W : Type 0} (old new : LinkView W) (turn : Turn) (s : Sending) (k : ℕ) → sending old.live ≡ Some s
    → k ≡ length (rest_of s) → 0 < length (rest_of s) → length (rest_of s) + s.out ≡ length (frame_of s)
    → new.live ≡ (step_by_answer old.rates old.live s (Accepted k)).0
    → turn ≡ (step_by_answer old.rates old.live s (Accepted k)).1 → new.life ≡ old.life → new.rates ≡ old.rates
    → MatchOption (frame_in turn) ((sending old.live ≡ None) × (new ≡ old)) (λ w. WritesFrame old w new)
wrote_whole old new turn s k is all some fits live turn_is life rates =
    let more : (k == 0) ≡ false = grind (arith, nat_tests) in
    let last : is_whole s k ≡ true = eq-eqb (s.out + k) (length (frame_of s)) (omega arith) in
    let step : step_by_answer old.rates old.live s (Accepted k) ≡ (whole old.rates old.live s k, wrote_turn s k true) =
    ap (λ b. if b then fault_step old.rates old.live s else write_step old.rates old.live s k) more
    ∙ ap (λ b. if b then (whole old.rates old.live s k, wrote_turn s k true)
    else (in_part old.live s k, wrote_turn s k false)) last in
    let now : turn ≡ wrote_turn s k true = turn_is ∙ ap (λ (d : Live × Turn). d.1) step in
    subst (λ (t : Turn). MatchOption (frame_in t) ((sending old.live ≡ None) × (new ≡ old))
    (λ w. WritesFrame old w new)) (sym now) (record {
      frame = s;
      sends = is;
      flow = refl;
      bytes = all;
      live = live ∙ (ap (λ (d : Live × Turn). d.0) step ∙ ap (whole old.rates old.live s) all);
      life = life;
      rates = rates;
    })

module _ {W : Type 0} (answers : W → List ℕ → Answer → W → Type 0)
    (takes : (before : W) (piece : List ℕ) (answer : Answer) (after : W) → answers before piece answer after
    → TakesWhole piece answer) (old new : LinkView W) (turn : Turn) (sound : Sound old.life old.rates old.live) where
  answered_whole : (s : Sending) (answer : Answer) → sending old.live ≡ Some s
      → TakesWhole (take 65535 (rest_of s)) answer
      → new.live ≡ (step_by_answer old.rates old.live s answer).0
      → turn ≡ (step_by_answer old.rates old.live s answer).1 → new.life ≡ old.life → new.rates ≡ old.rates
      → MatchOption (frame_in turn) ((sending old.live ≡ None) × (new ≡ old)) (λ w. WritesFrame old w new)
  answered_whole s (Accepted k) is did live turn_is life rates =
      let fits = rest-short sound is in
      let short = sending-short sound is in
      let all : k ≡ length (rest_of s) = omega (arith, did, length-take 65535 (rest_of s), fits, short) in
      wrote_whole old new turn s k is all (rest-some s sound is) fits live turn_is life rates
  answered_whole s Interrupted is did live turn_is life rates = absurd did
  answered_whole s Failed is did live turn_is life rates = absurd did

  offered_whole : (o : Option Sending) → sending old.live ≡ o → OffersSome answers old 65535 o turn new
      → MatchOption (frame_in turn) ((sending old.live ≡ None) × (new ≡ old)) (λ w. WritesFrame old w new)
  offered_whole None is did =
      subst (λ (t : Turn). MatchOption (frame_in t) ((sending old.live ≡ None) × (new ≡ old))
      (λ w. WritesFrame old w new)) (sym did.0) (is, did.1)
  offered_whole (Some s) is did =
      answered_whole s did.answer is (takes old.writer (take 65535 (rest_of s)) did.answer new.writer did.answered)
      did.live did.turn_is did.life did.rates

  pub frame-written : is_spent old ≡ false → old.live.broken ≡ false → TurnCall answers old 65535 turn new
      → MatchOption (frame_in turn) ((sending old.live ≡ None) × (new ≡ old)) (λ w. WritesFrame old w new)
  frame-written living unbroken did =
      offered_whole (sending old.live) refl
      (subst (λ b. MatchBool b ((turn ≡ Broken) × (new ≡ old))
      (OffersSome answers old 65535 (sending old.live) turn new))
      unbroken
      (subst (λ b. MatchBool b ((turn ≡ Spent) × (new ≡ old)) (MatchBool old.live.broken ((turn ≡ Broken) × (new ≡ old))
      (OffersSome answers old 65535 (sending old.live) turn new))) living did))

-- the clock goes on by the units of the whole frame
pub clock-written : (rates : List Rate) (l : Live) (s : Sending) (k : ℕ)
    → (whole rates l s k).queue.clock
    ≡ l.queue.clock + units_due rates l.books s.head.flow (length (frame_of s))
clock-written rates l s k =
    clock-level_all (charge l.queue s.head.flow (units_due rates l.books s.head.flow (length (frame_of s))))
    (tickets_of_all (set_active l.graph s.head.flow
    (is_busy (pop_in l.buffers s.head.flow) s.head.flow && not (is_held l.books s.head.flow))))

module _ {W : Type 0} (old new : LinkView W) (book : IsBookLink old) (sound : Sound old.life old.rates old.live)
    (living : is_spent old ≡ false) (count : ℕ) where
  pub turn-idle : sending old.live ≡ None → event_of old.live (TurnLine count) ≡ Err (IdleLine)
  turn-idle none =
      some-left old book (written_by count (sending old.live)) living ∙ ap (written_by count) none

  module _ (written : Frame) (did : WritesFrame old written new) where
    turn_read : event_of old.live (TurnLine count) ≡ written_by count (Some did.frame)
    turn_read = some-left old book (written_by count (sending old.live)) living ∙ ap (written_by count) did.sends

    pub turn-other : written.bytes ≢ count → event_of old.live (TurnLine count) ≡ Err (SentLine written.bytes)
    turn-other other =
        turn_read
        ∙ (ap (λ b. if b then Ok (Written count) else Err (SentLine (length (rest_of did.frame))))
        (ne_eqb (length (rest_of did.frame)) count (λ same. other (did.bytes ∙ same)))
        ∙ ap (λ n. Err (SentLine n)) (sym did.bytes))

    pub turn-later : old.live.queue.clock ≤ new.live.queue.clock
    turn-later =
        let more = clock-written old.rates old.live did.frame (length (rest_of did.frame)) in
        let now = ap (λ (l : Live). l.queue.clock) did.live in
        omega (arith, more, now)

    pub turn-book : IsBookLink new
    turn-book = record {
      life = did.life ∙ book.life;
      version = ap (λ (l : Live). l.version) did.live ∙ book.version;
      unbroken = ap (λ (l : Live). l.broken) did.live ∙ book.unbroken;
    }

    turn_step : live_step old.rates old.live (Written (length (rest_of did.frame)))
        ≡ turn_outcome (
          whole old.rates old.live did.frame (length (rest_of did.frame)),
          wrote_turn did.frame (length (rest_of did.frame)) true,
        )
    turn_step =
        let s = did.frame in
        let k = length (rest_of s) in
        let fits = rest-short sound did.sends in
        let last : is_whole s k ≡ true = eq-eqb (s.out + k) (length (frame_of s)) (omega (arith, fits)) in
        written-step old.rates old.live k s did.sends
        ∙ ap (λ b. turn_outcome (if b then (whole old.rates old.live s k, wrote_turn s k true)
        else (in_part old.live s k, wrote_turn s k false))) last

    pub turn-made : written.bytes ≡ count → (units amount : ℕ) → new.live.queue.clock ≡ old.live.queue.clock + units
        → units ≤ 2 ^ 38 → account_of new.live.books written.flow ≡ amount
        → MakesLine old (TurnLine count) (Sent written.flow written.bytes units amount) new
    turn-made same units amount charged few costs =
        let s = did.frame in
        let all : length (rest_of s) ≡ count = sym did.bytes ∙ same in
        record {
          event = Written count;
          outcome = (live_step old.rates old.live (Written count)).1;
          is = turn_read ∙ ap (λ b. if b then Ok (Written count) else Err (SentLine (length (rest_of s))))
              (eq-eqb (length (rest_of s)) count all);
          makes = record {
            below = events-below old sound living;
            may = record {
              frame = s;
              sends = record { unbroken = book.unbroken; is = did.sends };
              some = let some = rest-some s sound did.sends in omega (arith, some, all);
              fits = omega (arith, all);
            };
            live =
                did.live
                ∙ (sym (ap (λ (d : Live × Outcome). d.0) turn_step)
                ∙ ap (λ n. (live_step old.rates old.live (Written n)).0) all);
            outcome_is = refl;
            life = did.life;
            rates = did.rates;
          };
          kept = record {
            is = ap Written (sym same);
            frame = s;
            sends = did.sends;
            flow_is = sym did.flow;
            whole = sym did.bytes;
            charged = charged;
            few = few;
            costs = costs;
          };
        }
