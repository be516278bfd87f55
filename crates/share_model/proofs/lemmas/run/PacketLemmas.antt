-- Laws of the packets of runs: none is lost, and the torn one stays in its buffer until its flow is closed.
use Rattle.std.specs.Prelude.{◌≡◌, ◌+◌, ◌-◌, ℕ, Bool, true, false, List, Option, None, Some, is_some}
use Rattle.std.proofs.Common.{ap, sym, ◌∙◌, subst, arith, inl, inr}
use Rattle.share_base.specs.declared.command.Event.{Event}
use Rattle.share_base.specs.declared.version.Version.{Version}
use Rattle.share_model.specs.declared.rates.Rate.{Rate}
use Rattle.share_model.specs.lists.Rises.{has_number}
use Rattle.share_model.proofs.lemmas.lists.FirstItemLemmas.{is_some-find_number}
use Rattle.share_model.specs.funding.Graph.{flow_numbers}
use Rattle.share_model.specs.link.Tariff.{AreInRange}
use Rattle.share_model.specs.link.Buffers.{Buffer, buffer_of, head_of}
use Rattle.share_model.specs.link.Live.{Live}
use Rattle.share_model.specs.link.Totals.{packets_in, torn_packets, torn_count, waiting}
use Rattle.share_model.specs.run.Fold.{TornFrame, empty_state, run}
use Rattle.share_model.specs.run.Events.{MayFollow}
use Rattle.share_model.specs.run.Sound.{torn_gone, TornIsNamed, IsTornHead, IsTornFrame, TornIsTold}
use Rattle.share_model.specs.run.Sound.{Sound, SoundState}
use Rattle.share_model.proofs.lemmas.run.PacketCountLemmas.{some-held, count-within}
use Rattle.share_model.proofs.lemmas.run.EventLemmas.{run-sound}

-- No packet is lost

kept_by : (bs : List Buffer) (broken : Bool) (torn : Option ℕ) (accepted written dropped : ℕ)
    → TornIsNamed bs broken torn → accepted ≡ written + dropped + packets_in bs + torn_gone broken torn
    → accepted ≡ written + torn_count broken + (packets_in bs - torn_packets torn) + dropped
kept_by bs true None accepted written dropped named was = omega arith
kept_by bs true (Some f) accepted written dropped named was =
    omega (arith, some-held bs f named.head named.found, count-within bs f)
kept_by bs false None accepted written dropped named was = omega arith
kept_by bs false (Some f) accepted written dropped named was = let b : false ≡ true = named.broken_is in cc

-- each accepted packet was written whole, or is the torn one, or waits, or was dropped
pub packets-kept : {life : ℕ} {rates : List Rate} {l : Live} → Sound life rates l
    → l.counts.accepted ≡ l.counts.written + torn_count l.broken + waiting l + l.counts.dropped
packets-kept {l = l} sound =
    kept_by l.buffers l.broken l.torn l.counts.accepted l.counts.written l.counts.dropped sound.torn.named
    sound.counts.balance

-- in every run
pub run-waiting : (version : Version) (life : ℕ) (rates : List Rate) (es : List Event) → AreInRange rates
    → MayFollow life rates (empty_state version) es → (run version rates es).live.counts.accepted
    ≡ (run version rates es).live.counts.written + torn_count (run version rates es).live.broken
    + waiting (run version rates es).live
    + (run version rates es).live.counts.dropped
run-waiting version life rates es range may = packets-kept (run-sound version life rates es range may).live

-- The torn packet

told_broken : (l : Live) (o : Option TornFrame) → TornIsTold l o → l.broken ≡ is_some o
told_broken l None told = told.0
told_broken l (Some t) told = told.broken

-- in every run a packet is torn if and only if the link is broken
pub run-broken : (version : Version) (life : ℕ) (rates : List Rate) (es : List Event) → AreInRange rates
    → MayFollow life rates (empty_state version) es
    → (run version rates es).live.broken ≡ is_some (run version rates es).torn
run-broken version life rates es range may =
    told_broken (run version rates es).live (run version rates es).torn (run-sound version life rates es range may).torn

-- a flow is open if it has a buffer
open_buffer : {life : ℕ} {rates : List Rate} {l : Live} → Sound life rates l → (f : ℕ)
    → is_some (buffer_of l.buffers f) ≡ has_number f (flow_numbers l.graph.flows)
open_buffer {l = l} sound f =
    is_some-find_number (λ (b : Buffer). b.flow) f l.buffers ∙ ap (has_number f) sound.flows.buffered

head_stands : {life : ℕ} {rates : List Rate} {l : Live} (t : TornFrame) → Sound life rates l → IsTornFrame l t
    → has_number t.head.flow (flow_numbers l.graph.flows) ≡ true → IsTornHead l.buffers l.torn t
head_stands {l = l} t sound torn stands = elim torn.place [
  | inl at ↦ at
  | inr gone ↦
      let b : true ≡ false = sym stands ∙ (sym (open_buffer sound t.head.flow) ∙ ap is_some gone.closed) in cc
]

-- in every run the torn packet is the head of its flow while that is open, and the link names the flow
pub run-torn : (version : Version) (life : ℕ) (rates : List Rate) (es : List Event) → AreInRange rates
    → MayFollow life rates (empty_state version) es
    → (t : TornFrame) → (run version rates es).torn ≡ Some t
    → has_number t.head.flow (flow_numbers (run version rates es).live.graph.flows) ≡ true
    → (head_of (run version rates es).live.buffers t.head.flow ≡ Some t.head)
    × ((run version rates es).live.torn ≡ Some t.head.flow)
run-torn version life rates es range may t is stands =
    let sound : SoundState life rates (run version rates es) = run-sound version life rates es range may in
    let torn : IsTornFrame (run version rates es).live t =
    subst (TornIsTold (run version rates es).live) is sound.torn in
    let head = head_stands t sound.live torn stands in
    (head.head, head.named)
