-- The sentence holds of every run of a link.
use Rattle.std.specs.Prelude.{◌≡◌, ◌≤◌, ℕ, true, false, List, [], ◌∷◌, ◌++◌, Option, None, Some, IfSome}
use Rattle.std.specs.Prelude.{find, filter, nat_lt, option_map, option_and_then}
use Rattle.std.proofs.Common.{refl, ap, sym, ◌∙◌, subst, arith}
use Rattle.std.proofs.lemmas.Option.{same_Some}
use Rattle.share_base.specs.declared.command.Event.{Event}
use Rattle.share_base.specs.declared.command.Event.TheVariants.{Commanded, Arrived, Written, Faulted}
use Rattle.share_base.specs.declared.command.Outcome.{Outcome}
use Rattle.share_base.specs.declared.version.Version.{Version}
use Rattle.share_model.specs.declared.link.Part.{Part}
use Rattle.share_model.specs.declared.rates.Rate.{Rate}
use Rattle.share_model.specs.io.Told.{Told}
use Rattle.share_model.proofs.lemmas.link.BufferLemmas.{head_of-flow}
use Rattle.share_model.specs.link.Buffers.{head_of}
use Rattle.share_model.specs.link.Frame.{Packet}
use Rattle.share_model.specs.link.Live.{Live, tickets_of_all}
use Rattle.share_model.specs.link.Turns.{Sending, sending, sending_at, sending_by}
use Rattle.share_model.specs.link.Books.{is_book_of, tariff_of}
use Rattle.share_model.specs.link.Tariff.{AreInRange}
use Rattle.share_model.proofs.lemmas.run.BillLemmas.{run-billed, run-past}
use Rattle.share_model.proofs.lemmas.run.BoundLemmas.{run-level}
use Rattle.share_model.proofs.lemmas.run.ByteLemmas.{keeps-arrived, keeps-commanded, out-arrived, out-commanded}
use Rattle.share_model.proofs.lemmas.run.ByteLemmas.{out-failed}
use Rattle.share_model.proofs.lemmas.run.ByteLemmas.{step-failed}
use Rattle.share_model.specs.run.Events.{MayFollow, IsWrite, bytes_by, writes_in}
use Rattle.share_model.specs.run.Fold.{State, empty_state, step, state_after, outcomes, run, out}
use Rattle.share_model.proofs.lemmas.run.EventLemmas.{may_follow-append, may_follow-back, may_follow-front}
use Rattle.share_model.proofs.lemmas.run.EventLemmas.{may_follow-head}
use Rattle.share_model.proofs.lemmas.run.EventLemmas.{may_follow-one, run-bytes, run-sound, state-step}
use Rattle.share_model.proofs.lemmas.run.EventLemmas.{state_after-append}
use Rattle.share_model.proofs.lemmas.run.HistoryLemmas.{run-frames}
use Rattle.share_model.specs.run.Sound.{Sound, SoundState, max_life}
use Rattle.share_model.proofs.lemmas.run.SoundLinkLemmas.{sending-head}
use Rattle.share_model.specs.stride.Level.{IsLevel}
use Rattle.share_model.specs.stride.Moves.{IsNext, next}
use Rattle.share_model.proofs.lemmas.stride.NextFlowLemmas.{IsNext-next}
use Rattle.share_model.specs.Promise.{CarriesHead, IsBegun, IsNextFrame, Writes, Fails, Promise}

-- The frame that is sent is the next frame

-- the frame that is sent is one of the link's version, of this flow under its tariff, of which `at` bytes are out
record IsMade (l : Live) (f at : ℕ) (s : Sending) : Type 0 where
  flow : s.head.flow ≡ f
  version : s.version ≡ l.version
  tariff : s.tariff ≡ tariff_of l.books s.head.flow
  after : s.out ≡ at

made_from : (l : Live) (f at : ℕ) (o : Option Packet) (s : Sending) → head_of l.buffers f ≡ o
    → option_map (sending_at l at) o ≡ Some s → IsMade l f at s
made_from l f at None s found is = cc
made_from l f at (Some h) s found is =
    let same : sending_at l at h ≡ s = same_Some (sending_at l at h) s is in
    record {
      flow = ap (λ (s : Sending). s.head.flow) (sym same) ∙ head_of-flow l.buffers f h found;
      version = ap (λ (s : Sending). s.version) (sym same);
      tariff =
          ap (λ (s : Sending). s.tariff) (sym same) ∙ ap (λ (s : Sending). tariff_of l.books s.head.flow) same;
      after = ap (λ (s : Sending). s.out) (sym same);
    }

carries : (l : Live) (f at : ℕ) (s : Sending) → head_of l.buffers s.head.flow ≡ Some s.head → IsMade l f at s
    → CarriesHead l s
carries l f at s head made = record { version = made.version; tariff = made.tariff; head = head }

begun_by : (l : Live) (s : Sending) → head_of l.buffers s.head.flow ≡ Some s.head → (o : Option ℕ)
    → next l.queue.clients ≡ o → option_map (sending_at l 0) (option_and_then (head_of l.buffers) o) ≡ Some s
    → IsBegun l s
begun_by l s head None found is = cc
begun_by l s head (Some f) found is =
    let made : IsMade l f 0 s = made_from l f 0 (head_of l.buffers f) s refl is in
    record {
      least =
          subst (λ o. IsNext l.queue.clients o) (found ∙ ap Some (sym made.flow)) (IsNext-next l.queue.clients);
      carries = carries l f 0 s head made;
      first = made.after;
    }

next_by : (l : Live) (s : Sending) → head_of l.buffers s.head.flow ≡ Some s.head → (o : Option Part)
    → sending_by l o ≡ Some s → IsNextFrame l o s
next_by l s head None is = begun_by l s head (next l.queue.clients) refl is
next_by l s head (Some p) is =
    let made : IsMade l p.flow p.out s = made_from l p.flow p.out (head_of l.buffers p.flow) s refl is in
    record { flow = made.flow; carries = carries l p.flow p.out s head made; after = made.after }

sending-next : {life : ℕ} {rates : List Rate} {l : Live} {s : Sending} → Sound life rates l → sending l ≡ Some s
    → IsNextFrame l l.part s
unfolding sending
sending-next {l = l} {s = s} sound is = next_by l s (sending-head sound is) l.part is

-- The events that may follow at a moment of a run

-- the rest of a run may come at each of its moments, whose state is sound
record IsMoment (version : Version) (life : ℕ) (rates : List Rate) (before after : List Event) : Type 0 where
  sound : SoundState life rates (run version rates before)
  may : MayFollow life rates (run version rates before) after

moment : (version : Version) (life : ℕ) (rates : List Rate) (events before after : List Event) → AreInRange rates
    → MayFollow life rates (empty_state version) events → events ≡ before ++ after
    → IsMoment version life rates before after
moment version life rates events before after range may parts =
    let all : MayFollow life rates (empty_state version) (before ++ after) =
    subst (λ es. MayFollow life rates (empty_state version) es) parts may in
    record {
      sound = run-sound version life rates before range
          (may_follow-front life rates (empty_state version) before after all);
      may = may_follow-back life rates (empty_state version) before after all;
    }

front_may : (version : Version) (life : ℕ) (rates : List Rate) (events before after : List Event)
    → MayFollow life rates (empty_state version) events
    → events ≡ before ++ after → MayFollow life rates (empty_state version) before
front_may version life rates events before after may parts =
    may_follow-front life rates (empty_state version) before after
    (subst (λ es. MayFollow life rates (empty_state version) es) parts may)

-- A write

writes_by : (version : Version) (life : ℕ) (rates : List Rate) (before : List Event) (k : ℕ) → AreInRange rates
    → SoundState life rates (run version rates before)
    → MayFollow life rates (empty_state version) (before ++ Written k ∷ [])
    → IsWrite (run version rates before).live k
    → Writes (run version rates before) (run version rates (before ++ Written k ∷ [])) k
writes_by version life rates before k range sound may write = record {
  frame = write.frame;
  next = sending-next sound.live write.sends.is;
  some = write.some;
  fits = write.fits;
  bytes =
      run-bytes version life rates before (Written k) range may
      ∙ ap (λ o. out (run version rates before) ++ bytes_by k o) write.sends.is;
}

run-writes : (version : Version) (life : ℕ) (rates : List Rate) (events before after : List Event) (k : ℕ)
    → AreInRange rates
    → MayFollow life rates (empty_state version) events → events ≡ before ++ Written k ∷ after
    → Writes (run version rates before) (run version rates (before ++ Written k ∷ [])) k
run-writes version life rates events before after k range may parts =
    let at = moment version life rates events before (Written k ∷ after) range may parts in
    let came = may_follow-head life rates (run version rates before) (Written k) after at.may in
    writes_by version life rates before k range at.sound
    (may_follow-append life rates (empty_state version) before (Written k ∷ [])
    (front_may version life rates events before (Written k ∷ after) may parts)
    (may_follow-one life rates (run version rates before) (Written k) came.0 came.1)) came.1

-- A fault

-- a broken link stays broken, and no further byte is written
broken_bytes : (life : ℕ) (rates : List Rate) (s : State) (es : List Event) → AreInRange rates
    → SoundState life rates s → s.live.broken ≡ true → MayFollow life rates s es
    → out (state_after rates s es) ≡ out s
unfolding MayFollow state_after
broken_bytes life rates s [] range was broken may = refl
broken_bytes life rates s (Commanded c ∷ es) range was broken may =
    broken_bytes life rates (step rates s (Commanded c)) es range (state-step range was may.0 (Commanded c) may.1)
    ((keeps-commanded was.live c).broken ∙ broken) may.2
    ∙ out-commanded was c
broken_bytes life rates s (Arrived name body ∷ es) range was broken may =
    broken_bytes life rates (step rates s (Arrived name body)) es range
    (state-step range was may.0 (Arrived name body) may.1)
    ((keeps-arrived was.live name body.payload).broken ∙ broken) may.2
    ∙ out-arrived was name body
broken_bytes life rates s (Written k ∷ es) range was broken may =
    let both : true ≡ false = sym broken ∙ may.1.sends.unbroken in cc
broken_bytes life rates s (Faulted ∷ es) range was broken may =
    let both : true ≡ false = sym broken ∙ may.1.sends.unbroken in cc

fails_by : (life : ℕ) (rates : List Rate) (s : State) (after : List Event) → AreInRange rates
    → SoundState life rates s → MayFollow life rates s (Faulted ∷ after)
    → Fails s (state_after rates s (Faulted ∷ after))
unfolding MayFollow state_after
fails_by life rates s after range was may =
    let failed = may.1 in record {
      frame = failed.frame;
      next = sending-next was.live failed.sends.is;
      bytes =
          broken_bytes life rates (step rates s Faulted) after range (state-step range was may.0 Faulted failed)
          (ap (λ (s : State). s.live.broken) (step-failed rates s failed.frame failed.sends.is)) may.2
          ∙ out-failed was failed.sends.unbroken failed.sends.is;
    }

run-fails : (version : Version) (life : ℕ) (rates : List Rate) (events before after : List Event) → AreInRange rates
    → MayFollow life rates (empty_state version) events → events ≡ before ++ Faulted ∷ after
    → Fails (run version rates before) (run version rates events)
run-fails version life rates events before after range may parts =
    let at = moment version life rates events before (Faulted ∷ after) range may parts in
    subst (Fails (run version rates before))
    (sym (ap (run version rates) parts ∙ state_after-append rates (empty_state version) before (Faulted ∷ after)))
    (fails_by life rates (run version rates before) after range at.sound at.may)

-- The sentence

run-tickets : (version : Version) (life : ℕ) (rates : List Rate) (events before after : List Event) → AreInRange rates
    → MayFollow life rates (empty_state version) events → events ≡ before ++ after
    → IsLevel (run version rates before).live.queue (tickets_of_all (run version rates before).live.graph)
run-tickets version life rates events before after range may parts =
    run-level version life rates before range (front_may version life rates events before after may parts)

-- for every list of events that a link may make, whatever it answered and holds as the fold says
pub promise : (version : Version) (life : ℕ) (rates : List Rate) (events : List Event) (replies : List Outcome)
    (l : Live)
    (told : Option Told) → life ≤ max_life → AreInRange rates → MayFollow life rates (empty_state version) events
    → replies ≡ outcomes rates (empty_state version) events → l ≡ (run version rates events).live
    → IfSome told (λ t. t.bytes ≡ out (run version rates events))
    → IfSome told (λ t. filter (nat_lt 0) t.counts ≡ writes_in events)
    → Promise version life rates events replies l told
promise version life rates events replies l told few range may replies_are holds bytes counts = record {
  follow = may;
  replies_are = replies_are;
  holds = holds;
  accounts =
      λ flow book found. run-billed version life rates events range may flow book
      (ap (λ (l : Live). find (is_book_of flow) l.books) (sym holds) ∙ found);
  past = ap (λ (l : Live). l.counts.past) holds ∙ run-past version life rates events range may;
  bytes = bytes;
  counts = counts;
  frames = run-frames version life rates events (omega (arith, few)) range may;
  writes = λ before after k parts. run-writes version life rates events before after k range may parts;
  fault = λ before after parts. run-fails version life rates events before after range may parts;
  tickets = λ before after parts. run-tickets version life rates events before after range may parts;
}
