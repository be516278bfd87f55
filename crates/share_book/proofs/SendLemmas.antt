-- A turn of an engine that is lent an outbox: the frame goes into it as a whole.
use Rattle.std.specs.Prelude.{◌≡◌, ◌==◌, ◌<◌, ◌≤◌, ℕ, Bool, true, false, List, [], ◌∷◌, length, take, drop}
use Rattle.std.specs.Prelude.{Option, None, Some, IsSome, option_map, option_and_then}
use Rattle.std.proofs.Common.{refl, ap, sym, ◌∙◌, subst, arith}
use Rattle.std.proofs.lemmas.Bool.{cond-true, cond-false}
use Rattle.std.proofs.lemmas.Bool.Decides.{nat_tests}
use Rattle.std.proofs.lemmas.List.{take_all}
use Rattle.std.proofs.lemmas.Option.{same_Some}
use Rattle.share_base.specs.declared.command.Event.TheVariants.{Written}
use Rattle.share_base.specs.declared.command.Outcome.{Outcome}
use Rattle.share_base.specs.declared.command.Outcome.TheVariants.{Turned}
use Rattle.share_base.specs.declared.command.Turn.{Turn}
use Rattle.share_base.specs.declared.command.Turn.TheVariants.{Idle, Wrote}
use Rattle.share_model.specs.declared.rates.Rate.{Rate}
use Rattle.share_model.specs.declared.writer.Answer.{Answer}
use Rattle.share_model.specs.declared.writer.Answer.TheVariants.{Accepted, Interrupted, Failed}
use Rattle.share_model.specs.io.Told.{WasTold}
use Rattle.share_model.specs.link.Buffers.{head_of}
use Rattle.share_model.specs.link.Calls.{is_spent, step_by_answer, OffersSome, OfferDecided, TurnCall}
use Rattle.share_model.specs.link.Frame.{Packet}
use Rattle.share_model.specs.link.Live.{Live}
use Rattle.share_model.specs.link.Tariff.{AreInRange}
use Rattle.share_model.specs.link.Step.{live_step}
use Rattle.share_model.specs.link.Turns.{Sending, frame_of, sending_at, sending_by, sending, rest_of, is_whole, whole}
use Rattle.share_model.specs.link.Turns.{wrote_turn, write_step}
use Rattle.share_model.specs.link.View.{LinkView}
use Rattle.share_model.specs.run.Sound.{Sound}
use Rattle.share_model.specs.stride.Moves.{next}
use Rattle.share_model.proofs.lemmas.link.TurnLemmas.{turn-went, written-step}
use Rattle.share_model.proofs.lemmas.run.CallLemmas.{Ran, turn-ran, turn_events, turn_outcomes}
use Rattle.share_model.proofs.lemmas.run.SoundLinkLemmas.{sending-few, sending-short}
use Rattle.share_core.specs.Lent.{lent}
use Rattle.share_journal.proofs.RunLemmas.{run-sound}
use Rattle.share_book.specs.Audited.{Audited, SendsWhole}
use Rattle.share_book.specs.Sends.{SentNext, SentWhole}
use Rattle.share_gateway.specs.Outbox.{OutboxView, OutboxAnswers, room_of, takes, with_frame}
use Rattle.share_book.specs.Texts.{line_in, with_bytes, TextView}
use Rattle.share_book.specs.declared.book_text.TextKind.{TextKind}
use Rattle.share_book.specs.declared.book_text.TextKind.TheVariants.{Whole, Lengths}
use Rattle.share_model.specs.declared.line.Line.TheVariants.{Turn as TurnLine}
use Rattle.share_model.specs.text.Audit.{written_line}
use Rattle.share_book.proofs.RunTextLemmas.{of_living, link-is, nothing_told, run-more, IsKept, with_link}

-- ---- The outbox

nothing_tells : (before : OutboxView) (piece : List ℕ) (answer : Answer) (after : OutboxView)
    → OutboxAnswers before piece answer after → WasTold (nothing_told before) piece answer (nothing_told after)
nothing_tells before piece (Accepted k) after did = let same = did.0 in (omega (arith, same), refl)
nothing_tells before piece Interrupted after did = refl
nothing_tells before piece Failed after did = absurd did

-- a frame has room if the longest one has
pub takes-short : (o : OutboxView) (n : ℕ) → 9017 ≤ room_of o → n ≤ 9017 → takes o n ≡ true
takes-short o n room few = grind (arith, nat_tests)

-- ---- The frame that is sent

begins_new : (o : Option Packet) (l : Live) (s : Sending) → option_map (sending_at l 0) o ≡ Some s → s.out ≡ 0
begins_new None l s is = cc
begins_new (Some h) l s is = ap (λ (s : Sending). s.out) (sym (same_Some (sending_at l 0 h) s is))

-- of no frame in part a byte is out
pub sending-new : (l : Live) (s : Sending) → l.part ≡ None → sending l ≡ Some s → s.out ≡ 0
unfolding sending
sending-new l s unparted is =
    begins_new (option_and_then (head_of l.buffers) (next l.queue.clients)) l s
    (sym (ap (sending_by l) unparted) ∙ is)

piece_is : (most : ℕ) (s : Sending) → s.out ≡ 0 → length (frame_of s) ≤ most → take most (rest_of s) ≡ frame_of s
piece_is most s new short =
    ap (λ n. take most (drop n (frame_of s))) new ∙ take_all most (frame_of s) short

-- ---- The link after the outbox's answer

pub record IsWhole (old : LinkView (Unit {0})) (before : OutboxView) (s : Sending) (turn : Turn) (now : Live)
    (after : OutboxView) : Type 0 where
  pub live : now ≡ whole old.rates old.live s (length (frame_of s))
  pub turn_is : turn ≡ Wrote s.head.flow s.head.seq (length (frame_of s)) true
  pub outbox : after ≡ with_frame before (frame_of s)

-- it is the last of the frame, and the first
is_whole_all : (s : Sending) → s.out ≡ 0 → is_whole s (length (frame_of s)) ≡ true
is_whole_all s new = grind (arith, nat_tests)

some_bytes : (s : Sending) → s.out < length (frame_of s) → (length (frame_of s) == 0) ≡ false
some_bytes s few = grind (arith, nat_tests)

wrote_all : (rates : List Rate) (l : Live) (s : Sending) → s.out ≡ 0
    → write_step rates l s (length (frame_of s))
    ≡ (whole rates l s (length (frame_of s)), wrote_turn s (length (frame_of s)) true)
wrote_all rates l s new = cond-true (is_whole s (length (frame_of s))) _ _ (is_whole_all s new)

accepted_all : (rates : List Rate) (l : Live) (s : Sending) (k : ℕ) → s.out ≡ 0 → s.out < length (frame_of s)
    → k ≡ length (frame_of s)
    → step_by_answer rates l s (Accepted k)
    ≡ (whole rates l s (length (frame_of s)), wrote_turn s (length (frame_of s)) true)
accepted_all rates l s k new few all =
    ap (λ k. step_by_answer rates l s (Accepted k)) all
    ∙ cond-false (length (frame_of s) == 0) _ _ (some_bytes s few) ∙ wrote_all rates l s new

module _ (old new : LinkView (Unit {0})) (before after : OutboxView) (s : Sending) (turn : Turn)
    (sound : Sound old.life old.rates old.live) (unparted : old.live.part ≡ None) (is : sending old.live ≡ Some s)
    (room : 9017 ≤ room_of before) where
  by_answer : (answer : Answer) → OutboxAnswers before (frame_of s) answer after
      → new.live ≡ (step_by_answer old.rates old.live s answer).0
      → turn ≡ (step_by_answer old.rates old.live s answer).1 → IsWhole old before s turn new.live after
  by_answer (Accepted k) answered live turn_is =
      let next = accepted_all old.rates old.live s k (sending-new old.live s unparted is) (sending-few sound is)
      answered.0 in
      record {
        live = live ∙ ap (λ (d : Live × Turn). d.0) next;
        turn_is = turn_is ∙ ap (λ (d : Live × Turn). d.1) next;
        outbox = answered.2;
      }
  by_answer Interrupted answered live turn_is =
      let fits = takes-short before (length (frame_of s)) room (sending-short sound is) in
      let not = answered.0 in cc
  by_answer Failed answered live turn_is = absurd answered

  by_offer : OfferDecided OutboxAnswers (lent old before) 9017 s turn (lent new after)
      → IsWhole old before s turn new.live after
  by_offer did =
      by_answer did.answer
      (subst (λ piece. OutboxAnswers before piece did.answer after)
      (piece_is 9017 s (sending-new old.live s unparted is) (sending-short sound is)) did.answered) did.live did.turn_is

  module _ (living : is_spent old ≡ false) (unbroken : old.live.broken ≡ false)
      (did : TurnCall OutboxAnswers (lent old before) 9017 turn (lent new after)) where
    decided : OfferDecided OutboxAnswers (lent old before) 9017 s turn (lent new after)
    decided =
        subst (λ o. OffersSome OutboxAnswers (lent old before) 9017 o turn (lent new after)) is
        (of_living old.live.broken _ _ unbroken (of_living (is_spent old) _ _ living did))

    pub sent-whole : IsWhole old before s turn new.live after
    sent-whole = by_offer decided

    sent_life : new.life ≡ old.life
    sent_life = decided.life

    sent_rates : new.rates ≡ old.rates
    sent_rates = decided.rates

    -- the step of the event
    step_is : (live_step old.rates old.live (Written (length (frame_of s)))).0
        ≡ whole old.rates old.live s (length (frame_of s))
    step_is =
        ap (λ (d : Live × Outcome). d.0) (written-step old.rates old.live (length (frame_of s)) s is)
        ∙ ap (λ (d : Live × Turn). d.0) (wrote_all old.rates old.live s (sending-new old.live s unparted is))

    pub sent-link : new ≡ record old { live = (live_step old.rates old.live (Written (length (frame_of s)))).0 }
    sent-link =
        link-is old new (live_step old.rates old.live (Written (length (frame_of s)))).0 (sent-whole.live ∙ sym step_is)
        sent_life sent_rates

    sent_ran : AreInRange old.rates
        → Ran nothing_told (lent old before) (Written (length (frame_of s)) ∷ [])
        (Turned (Wrote s.head.flow s.head.seq (length (frame_of s)) true) ∷ []) (lent new after)
    sent_ran range =
        let went = turn-went nothing_told OutboxAnswers nothing_tells (lent old before) 9017 turn (lent new after) sound
        did in
        let P : Turn → Type 0 = λ t. Ran nothing_told (lent old before) (turn_events t) (turn_outcomes t)
        (lent new after)
        in subst P sent-whole.turn_is (turn-ran nothing_told (lent old before) (lent new after) range 9017 turn went)

-- ---- The invariant between calls

whole_whole : (rates : List Rate) (l : Live) (s : Sending) (k : ℕ) → SendsWhole l → SendsWhole (whole rates l s k)
whole_whole rates l s k was = record { version = was.version; unparted = refl; unbroken = was.unbroken }

module _ (old : Audited) (link : LinkView (Unit {0})) (before after : OutboxView) (s : Sending) (turn : Turn)
    (was : IsKept old) (is : sending old.link.live ≡ Some s) (room : 9017 ≤ room_of before)
    (living : is_spent old.link ≡ false)
    (did : TurnCall OutboxAnswers (lent old.link before) 9017 turn (lent link after)) where
  sent_all : IsWhole old.link before s turn link.live after
  sent_all =
      sent-whole old.link link before after s turn (run-sound was.0.run) was.1.unparted is room living was.1.unbroken
      did

  pub send-kept : IsKept (with_link old link (Written (length (frame_of s))))
  send-kept = (
    run-more old (with_link old link (Written (length (frame_of s)))) before after (Written (length (frame_of s)))
        (Turned (Wrote s.head.flow s.head.seq (length (frame_of s)) true)) was.0
        (record {
          frame = s;
          sends = is;
          unbegun = sending-new old.link.live s was.1.unparted is;
          whole = refl;
        })
        (sent_ran old.link link before after s turn (run-sound was.0.run) was.1.unparted is room living was.1.unbroken
        did was.0.run.range) refl refl,
    subst SendsWhole (sym sent_all.live)
        (whole_whole old.link.rates old.link.live s (length (frame_of s)) was.1),
  )

  pub send-did : SentWhole old before s turn (with_link old link (Written (length (frame_of s)))) after
  send-did = record {
    turn_is = sent_all.turn_is;
    event =
        ap (λ l. with_link old l (Written (length (frame_of s))))
        (sent-link old.link link before after s turn (run-sound was.0.run) was.1.unparted is room living
        was.1.unbroken did);
    outbox = sent_all.outbox;
  }

-- ---- With the line of the turn

-- the link without its writer
abbrev own_link : LinkView OutboxView → LinkView (Unit {0})
own_link v = record { life = v.life; rates = v.rates; live = v.live; writer = tt }

-- the number of bytes that a turn wrote
abbrev wrote_count : Turn → ℕ
wrote_count (Wrote flow seq k whole) = k
wrote_count _ = 0

abbrev pub is_wrote : Turn → Bool
is_wrote (Wrote flow seq k whole) = true
is_wrote _ = false

not_wrote : {t : Turn} {flow seq k : ℕ} {all : Bool} → t ≡ Wrote flow seq k all → is_wrote t ≡ false → ⊥
not_wrote is not = let own = ap is_wrote is in cc

line_written : (kind : TextKind) (k : ℕ) → line_in kind (Written k) ≡ written_line (TurnLine k)
line_written Whole k = refl
line_written Lengths k = refl

module _ (old : Audited) (link : LinkView (Unit {0})) (before after : OutboxView) (turn : Turn) (was : IsKept old)
    (living : is_spent old.link ≡ false) (room : 9017 ≤ room_of before)
    (did : TurnCall OutboxAnswers (lent old.link before) 9017 turn (lent link after)) where
  offered : OffersSome OutboxAnswers (lent old.link before) 9017 (sending old.link.live) turn (lent link after)
  offered = of_living old.link.live.broken _ _ was.1.unbroken (of_living (is_spent old.link) _ _ living did)

  -- a turn that wrote sent a frame
  wrote_some : (o : Option Sending) → OffersSome OutboxAnswers (lent old.link before) 9017 o turn (lent link after)
      → (flow seq k : ℕ) (all : Bool) → turn ≡ Wrote flow seq k all → IsSome o
  wrote_some None offers flow seq k all is = let idle = offers.0 in cc
  wrote_some (Some s) offers flow seq k all is = refl

  sent_text : (s : Sending) → sending old.link.live ≡ Some s → (flow seq k : ℕ) (all : Bool)
      → turn ≡ Wrote flow seq k all
      → with_bytes old.text (written_line (TurnLine k))
      ≡ with_bytes old.text (line_in old.kind (Written (length (frame_of s))))
  sent_text s is flow seq k all wrote =
      ap (λ t. with_bytes old.text (written_line (TurnLine (wrote_count t))))
      (sym wrote ∙ (send-did old link before after s turn was is room living did).turn_is)
      ∙ ap (with_bytes old.text) (sym (line_written old.kind (length (frame_of s))))

  module _ (flow seq k : ℕ) (all : Bool) (wrote : turn ≡ Wrote flow seq k all) (text : TextView)
      (text_is : text ≡ with_bytes old.text (written_line (TurnLine k))) where
    kept_some : (o : Option Sending) → sending old.link.live ≡ o → IsSome o
        → IsKept (record { link = link; kind = old.kind; text = text })
    kept_some None is some = cc
    kept_some (Some s) is some =
        subst (λ t. IsKept (record { link = link; kind = old.kind; text = t }))
        (sym (text_is ∙ sent_text s is flow seq k all wrote))
        (send-kept old link before after s turn was is room living did)

    pub sent-kept : IsKept (record { link = link; kind = old.kind; text = text })
    sent-kept =
        kept_some (sending old.link.live) refl (wrote_some (sending old.link.live) offered flow seq k all wrote)

    did_some : (o : Option Sending) → sending old.link.live ≡ o → IsSome o
        → SentNext old before o turn (record { link = link; kind = old.kind; text = text }) after
    did_some None is some = cc
    did_some (Some s) is some =
        subst (λ t. SentWhole old before s turn (record { link = link; kind = old.kind; text = t }) after)
        (sym (text_is ∙ sent_text s is flow seq k all wrote))
        (send-did old link before after s turn was is room living did)

    pub sent-did : SentNext old before (sending old.link.live) turn
        (record { link = link; kind = old.kind; text = text }) after
    sent-did =
        did_some (sending old.link.live) refl (wrote_some (sending old.link.live) offered flow seq k all wrote)

  -- a turn that wrote none found none
  module _ (unwritten : is_wrote turn ≡ false) where
    idle_by : (o : Option Sending) → sending old.link.live ≡ o
        → OffersSome OutboxAnswers (lent old.link before) 9017 o turn (lent link after)
        → (turn ≡ Idle) × (link ≡ old.link) × (after ≡ before) × (o ≡ None)
    idle_by None is offers =
        (offers.0, ap own_link offers.1, ap (λ (v : LinkView OutboxView). v.writer) offers.1, refl)
    idle_by (Some s) is offers =
        absurd (not_wrote (send-did old link before after s turn was is room living did).turn_is unwritten)

    nothing_sent : (turn ≡ Idle) × (link ≡ old.link) × (after ≡ before) × (sending old.link.live ≡ None)
    nothing_sent = idle_by (sending old.link.live) refl offered

    pub idle-kept : IsKept (record { link = link; kind = old.kind; text = old.text })
    idle-kept =
        subst (λ l. IsKept (record { link = l; kind = old.kind; text = old.text })) (sym nothing_sent.1) was

    pub idle-did : SentNext old before (sending old.link.live) turn
        (record { link = link; kind = old.kind; text = old.text }) after
    idle-did =
        subst (λ o. SentNext old before o turn (record { link = link; kind = old.kind; text = old.text }) after)
        (sym nothing_sent.3) (
          nothing_sent.0,
          ap (λ l. record { link = l; kind = old.kind; text = old.text }) nothing_sent.1,
          nothing_sent.2,
        )

-- no answer of the form is no write
pub unwritten : (t : Turn) → ((flow seq k : ℕ) → (all : Bool) → t ≡ Wrote flow seq k all → ⊥) → is_wrote t ≡ false
unwritten (Wrote flow seq k all) not = absurd (not flow seq k all refl)
unwritten t not = refl
