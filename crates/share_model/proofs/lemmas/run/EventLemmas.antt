-- Each event keeps what holds of every run, is counted, and adds its bytes.
use Rattle.std.specs.Prelude.{◌≡◌, ◌<◌, ◌≤◌, ◌+◌, ℕ, suc, Bool, true, false, List, [], ◌∷◌, ◌++◌, length, take, Option}
use Rattle.std.specs.Prelude.{None, Some}
use Rattle.std.proofs.Common.{inl, refl, ap, sym, ◌∙◌, arith, length-append}
use Rattle.std.proofs.lemmas.Bool.{cond_both}
use Rattle.std.proofs.lemmas.List.{append-nil, length-take-le}
use Rattle.share_base.specs.Body.{BodyView}
use Rattle.share_base.specs.declared.refusal.Refusal.TheVariants.{BufferFull}
use Rattle.share_base.specs.declared.command.Command.{Command}
use Rattle.share_base.specs.declared.command.Reply.{Reply}
use Rattle.share_base.specs.declared.command.Reply.TheVariants.{Packet as PacketReply, Refused}
use Rattle.share_base.specs.declared.command.Event.{Event}
use Rattle.share_base.specs.declared.command.Event.TheVariants.{Commanded, Arrived, Written, Faulted}
use Rattle.share_base.specs.declared.command.Turn.{Turn}
use Rattle.share_base.specs.declared.command.Turn.TheVariants.{Wrote}
use Rattle.share_base.specs.declared.version.Version.{Version}
use Rattle.share_model.specs.declared.rates.Rate.{Rate}
use Rattle.share_model.specs.declared.funding.OpenFlow.{OpenFlow as FlowEntry}
use Rattle.share_model.specs.link.Fields.{IsBody}
use Rattle.share_model.specs.link.Tariff.{AreInRange}
use Rattle.share_model.specs.link.Buffers.{Buffer, buffer_of, is_full}
use Rattle.share_model.specs.funding.Graph.{NameBytes}
use Rattle.share_model.specs.funding.Changes.{flow_named}
use Rattle.share_model.proofs.lemmas.link.CommandLemmas.{command-cases}
use Rattle.share_model.specs.link.Live.{Live, with_one_event}
use Rattle.share_model.specs.link.Turns.{Sending, sending, rest_of}
use Rattle.share_model.specs.link.Commands.{command_step}
use Rattle.share_model.specs.link.Arrivals.{accept, arrive_in, arrive_by, arrive_step}
use Rattle.share_model.specs.link.Turns.{is_whole}
use Rattle.share_model.specs.link.Turns.{in_part, whole, write_step}
use Rattle.share_model.specs.run.Events.{MayCome, MayFollow, bytes_by, event_bytes}
use Rattle.share_model.specs.run.Fold.{Sent, TornFrame, State, empty_state, step, outcome, state_after, outcomes, run}
use Rattle.share_model.specs.run.Fold.{out}
use Rattle.share_model.specs.run.Sound.{Sound, TornIsTold, SoundState}
use Rattle.share_model.proofs.lemmas.run.SoundLinkLemmas.{sending-head, head-given}
use Rattle.share_model.proofs.lemmas.run.TornPacketLemmas.{torn-commanded, torn-arrived}
use Rattle.share_model.proofs.lemmas.run.SoundCommandLemmas.{sound-empty, sound-arrived}
use Rattle.share_model.proofs.lemmas.run.SoundClosingLemmas.{sound-commanded}
use Rattle.share_model.proofs.lemmas.run.SoundWriteLemmas.{sound-written, sound-failed}
use Rattle.share_model.proofs.lemmas.run.ByteLemmas.{KeepsFrames, keeps-arrived, keeps-commanded, kept_bytes}
use Rattle.share_model.proofs.lemmas.run.ByteLemmas.{out-arrived}
use Rattle.share_model.proofs.lemmas.run.ByteLemmas.{out-commanded, out-failed, out-written, sent_of, step-failed}
use Rattle.share_model.proofs.lemmas.run.ByteLemmas.{step-written, written_as}

-- Each event keeps what holds of every run

done_kept : (done : List Sent) (n m : ℕ) → length done ≡ n → m ≡ n → length (done ++ []) ≡ m
done_kept done n m was same = rw (append-nil done) (was ∙ sym same)

pub state-empty : (version : Version) (life : ℕ) (rates : List Rate) → SoundState life rates (empty_state version)
unfolding out sending
state-empty version life rates =
    record { live = sound-empty version life rates; done = refl; sent = refl; torn = (refl, refl) }

state_kept : (life : ℕ) (rates : List Rate) (s : State) (l' : Live) → SoundState life rates s → KeepsFrames s.live l'
    → Sound life rates l' → TornIsTold l' s.torn
    → SoundState life rates (record { live = l'; done = s.done ++ []; torn = s.torn })
state_kept life rates s l' was kept sound torn = record {
  live = sound;
  done = done_kept s.done s.live.counts.written l'.counts.written was.done kept.written;
  sent = ap length (kept_bytes s.done s.torn s.live l' kept) ∙ (was.sent ∙ sym kept.sent);
  torn = torn;
}

pub state-commanded : {life : ℕ} {rates : List Rate} {s : State} → SoundState life rates s → s.live.counts.events < life
    → (c : Command) → SoundState life rates (step rates s (Commanded c))
state-commanded {life = life} {rates = rates} {s = s} was few c =
    state_kept life rates s (command_step rates s.live c).0 was (keeps-commanded was.live c)
    (sound-commanded was.live few c) (torn-commanded was.live c s.torn was.torn)

pub state-arrived : {life : ℕ} {rates : List Rate} {s : State} → SoundState life rates s → s.live.counts.events < life
    → (name : NameBytes) (body : BodyView) → IsBody s.live.version body.payload
    → SoundState life rates (step rates s (Arrived name body))
state-arrived {life = life} {rates = rates} {s = s} was few name body short =
    state_kept life rates s (arrive_step s.live name body.payload).0 was (keeps-arrived was.live name body.payload)
    (sound-arrived was.live few name body.payload short) (torn-arrived s.live name body.payload s.torn was.torn)

sent_count : (rates : List Rate) (l : Live) (s : Sending) (k : ℕ)
    → (write_step rates l s k).0.counts.sent ≡ l.counts.sent + k
sent_count rates l s k =
    cond_both (is_whole s k) (whole rates l s k, Wrote s.head.flow s.head.seq k true)
    (in_part l s k, Wrote s.head.flow s.head.seq k false) (λ (d : Live × Turn). d.0.counts.sent ≡ l.counts.sent + k)
    (λ _. refl) (λ _. refl)

-- a link that is whole still is
write_torn : (rates : List Rate) (l : Live) (s : Sending) (k : ℕ) (o : Option TornFrame) → l.broken ≡ false
    → TornIsTold l o → TornIsTold (write_step rates l s k).0 o
write_torn rates l s k (Some t) unbroken was = let b : true ≡ false = sym was.broken ∙ unbroken in cc
write_torn rates l s k None unbroken was =
    cond_both (is_whole s k) (whole rates l s k, Wrote s.head.flow s.head.seq k true)
    (in_part l s k, Wrote s.head.flow s.head.seq k false) (λ (d : Live × Turn). TornIsTold d.0 None) (λ _. was)
    (λ _. was)

done_count : (rates : List Rate) (s : State) (snd : Sending) (k : ℕ) → length s.done ≡ s.live.counts.written
    → (b : Bool) → length (written_as rates s snd k b).done ≡ (written_as rates s snd k b).live.counts.written
done_count rates s snd k was true = rw (length-append s.done (sent_of snd ∷ [])) (omega arith)
done_count rates s snd k was false = done_kept s.done s.live.counts.written s.live.counts.written was refl

written_length : (bytes rest : List ℕ) (sent sent' k : ℕ) → length bytes ≡ sent → k ≤ length rest → sent' ≡ sent + k
    → length (bytes ++ take k rest) ≡ sent'
written_length bytes rest sent sent' k was fits now =
    rw (length-append bytes (take k rest), length-take-le k rest fits) (omega arith)

pub state-written : {life : ℕ} {rates : List Rate} {s : State} {snd : Sending} → AreInRange rates
    → SoundState life rates s → s.live.counts.events < life → s.live.broken ≡ false → sending s.live ≡ Some snd
    → (k : ℕ) → 0 < k → k ≤ length (rest_of snd) → SoundState life rates (step rates s (Written k))
state-written {life = life} {rates = rates} {s = s} {snd = snd} range was few unbroken is k some fits =
    rw (step-written rates s k snd is) (record {
      live = sound-written range was.live few unbroken is k some fits;
      done = done_count rates s snd k was.done (is_whole snd k);
      sent =
          ap length (ap out (sym (step-written rates s k snd is)) ∙ out-written was unbroken is k fits)
          ∙ written_length (out s) (rest_of snd) s.live.counts.sent
          (write_step rates s.live snd k).0.counts.sent k was.sent fits (sent_count rates s.live snd k);
      torn = write_torn rates s.live snd k s.torn unbroken was.torn;
    })

pub state-failed : {life : ℕ} {rates : List Rate} {s : State} {snd : Sending} → AreInRange rates
    → SoundState life rates s → s.live.counts.events < life → s.live.broken ≡ false → sending s.live ≡ Some snd
    → SoundState life rates (step rates s Faulted)
state-failed {life = life} {rates = rates} {s = s} {snd = snd} range was few unbroken is =
    rw (step-failed rates s snd is) (record {
      live = sound-failed range was.live few unbroken is;
      done = done_kept s.done s.live.counts.written s.live.counts.written was.done refl;
      sent = ap length (ap out (sym (step-failed rates s snd is)) ∙ out-failed was unbroken is) ∙ was.sent;
      torn = record {
        broken = refl;
        given = head-given was.live snd.head.flow (sending-head was.live is);
        place = inl (record { named = refl; head = sending-head was.live is });
      };
    })

-- an event that a link may make
pub state-step : {life : ℕ} {rates : List Rate} {s : State} → AreInRange rates → SoundState life rates s
    → s.live.counts.events < life → (e : Event) → MayCome s.live e → SoundState life rates (step rates s e)
state-step range was few (Commanded c) may = state-commanded was few c
state-step range was few (Arrived name body) may = state-arrived was few name body may.1
state-step range was few (Written k) may =
    state-written range was few may.sends.unbroken may.sends.is k may.some may.fits
state-step range was few Faulted may = state-failed range was few may.sends.unbroken may.sends.is

-- Lists of events

pub state_after-append : (rates : List Rate) (s : State) (es fs : List Event)
    → state_after rates s (es ++ fs) ≡ state_after rates (state_after rates s es) fs
unfolding state_after
state_after-append rates s [] fs = refl
state_after-append rates s (e ∷ es) fs = state_after-append rates (step rates s e) es fs

pub state_after-one : (rates : List Rate) (s : State) (e : Event) → state_after rates s (e ∷ []) ≡ step rates s e
unfolding state_after
state_after-one rates s e = refl

-- one more event
pub state_after-last : (rates : List Rate) (s : State) (es : List Event) (e : Event)
    → state_after rates s (es ++ e ∷ []) ≡ step rates (state_after rates s es) e
state_after-last rates s es e =
    state_after-append rates s es (e ∷ []) ∙ state_after-one rates (state_after rates s es) e

pub outcomes-append : (rates : List Rate) (s : State) (es fs : List Event)
    → outcomes rates s (es ++ fs) ≡ outcomes rates s es ++ outcomes rates (state_after rates s es) fs
unfolding state_after outcomes
outcomes-append rates s [] fs = refl
outcomes-append rates s (e ∷ es) fs = ap (λ os. outcome rates s e ∷ os) (outcomes-append rates (step rates s e) es fs)

-- each event has one outcome
pub length-outcomes : (rates : List Rate) (s : State) (es : List Event) → length (outcomes rates s es) ≡ length es
unfolding outcomes
length-outcomes rates s [] = refl
length-outcomes rates s (e ∷ es) = ap suc (length-outcomes rates (step rates s e) es)

pub may_follow-append : (life : ℕ) (rates : List Rate) (s : State) (es fs : List Event) → MayFollow life rates s es
    → MayFollow life rates (state_after rates s es) fs → MayFollow life rates s (es ++ fs)
unfolding MayFollow state_after
may_follow-append life rates s [] fs front back = back
may_follow-append life rates s (e ∷ es) fs front back =
    (front.0, front.1, may_follow-append life rates (step rates s e) es fs front.2 back)

pub may_follow-one : (life : ℕ) (rates : List Rate) (s : State) (e : Event) → s.live.counts.events < life
    → MayCome s.live e → MayFollow life rates s (e ∷ [])
unfolding MayFollow
may_follow-one life rates s e few may = (few, may, tt)

-- the invariant of every run holds after any events that a link may make
pub state-after : (life : ℕ) (rates : List Rate) (s : State) (es : List Event) → AreInRange rates
    → SoundState life rates s → MayFollow life rates s es → SoundState life rates (state_after rates s es)
unfolding MayFollow state_after
state-after life rates s [] range was may = was
state-after life rates s (e ∷ es) range was may =
    state-after life rates (step rates s e) es range (state-step range was may.0 e may.1) may.2

-- Each event is counted

arrive_in_count : (l : Live) (f : ℕ) (body : List ℕ) (o : Option Buffer)
    → (arrive_in l f body o).0.counts.events ≡ l.counts.events + 1
arrive_in_count l f body None = refl
arrive_in_count l f body (Some b) =
    cond_both (is_full b) (with_one_event l, Refused BufferFull) (accept l f body, PacketReply f b.next)
    (λ (d : Live × Reply). d.0.counts.events ≡ l.counts.events + 1) (λ _. refl) (λ _. refl)

arrive_by_count : (l : Live) (body : List ℕ) (o : Option FlowEntry)
    → (arrive_by l body o).0.counts.events ≡ l.counts.events + 1
arrive_by_count l body None = refl
arrive_by_count l body (Some e) = arrive_in_count l e.number body (buffer_of l.buffers e.number)

pub events-commanded : (rates : List Rate) (l : Live) (c : Command)
    → (command_step rates l c).0.counts.events ≡ l.counts.events + 1
events-commanded rates l c =
    command-cases (λ (l' : Live). l'.counts.events ≡ l.counts.events + 1) rates l c refl (λ g funded. refl)
    (λ name limit tariff allowed. refl) (λ f may. refl) (λ f held stands. refl)

pub events-arrived : (l : Live) (name : NameBytes) (body : List ℕ)
    → (arrive_step l name body).0.counts.events ≡ l.counts.events + 1
events-arrived l name body = arrive_by_count l body (flow_named l.graph name)

pub events-written : (rates : List Rate) (l : Live) (s : Sending) (k : ℕ)
    → (write_step rates l s k).0.counts.events ≡ l.counts.events + 1
events-written rates l s k =
    cond_both (is_whole s k) (whole rates l s k, Wrote s.head.flow s.head.seq k true)
    (in_part l s k, Wrote s.head.flow s.head.seq k false) (λ (d : Live × Turn). d.0.counts.events ≡ l.counts.events + 1)
    (λ _. refl) (λ _. refl)

pub events-step : (rates : List Rate) (s : State) (e : Event) → MayCome s.live e
    → (step rates s e).live.counts.events ≡ s.live.counts.events + 1
events-step rates s (Commanded c) may = events-commanded rates s.live c
events-step rates s (Arrived name body) may = events-arrived s.live name body.payload
events-step rates s (Written k) may =
    ap (λ (s : State). s.live.counts.events) (step-written rates s k may.frame may.sends.is)
    ∙ events-written rates s.live may.frame k
events-step rates s Faulted may = ap (λ (s : State). s.live.counts.events) (step-failed rates s may.frame may.sends.is)

count_on : (a b n m : ℕ) → b ≡ a + 1 → m ≡ b + n → m ≡ a + suc n
count_on a b n m one rest = omega arith

pub events-after : (life : ℕ) (rates : List Rate) (s : State) (es : List Event) → MayFollow life rates s es
    → (state_after rates s es).live.counts.events ≡ s.live.counts.events + length es
unfolding MayFollow state_after
events-after life rates s [] may = omega arith
events-after life rates s (e ∷ es) may =
    count_on s.live.counts.events (step rates s e).live.counts.events (length es)
    (state_after rates (step rates s e) es).live.counts.events (events-step rates s e may.1)
    (events-after life rates (step rates s e) es may.2)

-- The bytes of a run

no_bytes : (bytes bytes' : List ℕ) → bytes' ≡ bytes → bytes' ≡ bytes ++ []
no_bytes bytes bytes' same = same ∙ sym (append-nil bytes)

-- each event adds its bytes
pub out-step : {life : ℕ} {rates : List Rate} {s : State} → SoundState life rates s → (e : Event) → MayCome s.live e
    → out (step rates s e) ≡ out s ++ event_bytes s.live e
out-step {rates = rates} {s = s} was (Commanded c) may = no_bytes (out s) _ (out-commanded was c)
out-step {rates = rates} {s = s} was (Arrived name body) may = no_bytes (out s) _ (out-arrived was name body)
out-step {rates = rates} {s = s} was (Written k) may =
    out-written was may.sends.unbroken may.sends.is k may.fits ∙ ap (λ o. out s ++ bytes_by k o) (sym may.sends.is)
out-step {rates = rates} {s = s} was Faulted may = no_bytes (out s) _ (out-failed was may.sends.unbroken may.sends.is)

-- a list of events that may follow may be cut
pub may_follow-front : (life : ℕ) (rates : List Rate) (s : State) (es fs : List Event)
    → MayFollow life rates s (es ++ fs) → MayFollow life rates s es
unfolding MayFollow
may_follow-front life rates s [] fs may = tt
may_follow-front life rates s (e ∷ es) fs may = (may.0, may.1, may_follow-front life rates (step rates s e) es fs may.2)

pub may_follow-back : (life : ℕ) (rates : List Rate) (s : State) (es fs : List Event)
    → MayFollow life rates s (es ++ fs) → MayFollow life rates (state_after rates s es) fs
unfolding MayFollow state_after
may_follow-back life rates s [] fs may = may
may_follow-back life rates s (e ∷ es) fs may = may_follow-back life rates (step rates s e) es fs may.2

pub may_follow-head : (life : ℕ) (rates : List Rate) (s : State) (e : Event) (es : List Event)
    → MayFollow life rates s (e ∷ es) → (s.live.counts.events < life) × MayCome s.live e
unfolding MayFollow
may_follow-head life rates s e es may = (may.0, may.1)

-- the invariant of every run of a link
pub run-sound : (version : Version) (life : ℕ) (rates : List Rate) (es : List Event) → AreInRange rates
    → MayFollow life rates (empty_state version) es → SoundState life rates (run version rates es)
run-sound version life rates es range may =
    state-after life rates (empty_state version) es range (state-empty version life rates) may

-- one more event adds its bytes to those of the run
pub run-bytes : (version : Version) (life : ℕ) (rates : List Rate) (es : List Event) (e : Event) → AreInRange rates
    → MayFollow life rates (empty_state version) (es ++ e ∷ [])
    → out (run version rates (es ++ e ∷ [])) ≡ out (run version rates es) ++ event_bytes (run version rates es).live e
run-bytes version life rates es e range may =
    ap out (state_after-last rates (empty_state version) es e)
    ∙ out-step
    (run-sound version life rates es range (may_follow-front life rates (empty_state version) es (e ∷ []) may)) e
    (may_follow-head life rates (run version rates es) e []
    (may_follow-back life rates (empty_state version) es (e ∷ []) may)).1
