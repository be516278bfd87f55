-- Laws of the packets of runs: within a flow their numbers rise, and none is sent twice.
use Rattle.std.specs.Prelude.{◌≡◌, ◌<◌, ◌≤◌, ◌+◌, ◌-◌, ℕ, suc, Bool, true, false, List, [], ◌∷◌, ◌++◌, length, map}
use Rattle.std.specs.Prelude.{drop, filter, nat_eq, Option, None, Some, option_map, if◌then◌else◌}
use Rattle.std.specs.Option.{option_or}
use Rattle.std.proofs.Common.{refl, ap, sym, ◌∙◌, subst, arith, length-append}
use Rattle.std.proofs.lemmas.Bool.{cond-false, eqb-true, ne_eqb}
use Rattle.std.proofs.lemmas.List.{append-nil, map-append}
use Rattle.std.proofs.lemmas.List.Elements.{filter-append}
use Rattle.std.proofs.lemmas.List.Folds.{find-append}
use Rattle.share_base.specs.declared.command.Event.{Event}
use Rattle.share_base.specs.declared.version.Version.{Version}
use Rattle.share_model.specs.declared.rates.Rate.{Rate}
use Rattle.share_model.specs.link.Tariff.{AreInRange}
use Rattle.share_model.specs.link.Frame.{Packet}
use Rattle.share_model.specs.link.Buffers.{Buffer, is_buffer_of, buffer_of, new_buffer}
use Rattle.share_model.specs.link.Buffers.{close_in, with_packet, push_in, without_head, pop_in, head_of}
use Rattle.share_model.proofs.lemmas.link.BufferLemmas.{buffer_flows, other_buffer, IsHeadPacket, IsHeadBuffer}
use Rattle.share_model.proofs.lemmas.link.BufferLemmas.{head_buffer}
use Rattle.share_model.specs.run.Fold.{Sent, State, empty_state, run}
use Rattle.share_model.specs.run.Events.{MayFollow}
use Rattle.share_model.specs.lists.Each.{Each}
use Rattle.share_model.specs.run.Sound.{SoundState}
use Rattle.share_model.specs.lists.Rises.{Rises}
use Rattle.share_model.proofs.lemmas.lists.FirstItemLemmas.{find-change_first, find-change_first_other}
use Rattle.share_model.proofs.lemmas.lists.RemovalLemmas.{find-remove_other, not_above}
use Rattle.share_model.proofs.lemmas.run.SoundLinkLemmas.{sending-head}
use Rattle.share_model.proofs.lemmas.lists.FirstItemLemmas.{rises-append}
use Rattle.share_model.proofs.lemmas.run.ByteLemmas.{sent_of}
use Rattle.share_model.proofs.lemmas.run.TornPacketLemmas.{buffers-rise, close_in-same}
use Rattle.share_model.proofs.lemmas.run.EventCaseLemmas.{StepCases, both-cases, run-cases}
use Rattle.share_model.specs.run.History.{sent_by, sent_numbers}
use Rattle.share_model.proofs.lemmas.run.BillLemmas.{IsBilled, billed_cases, billed_empty}
use Rattle.share_model.proofs.lemmas.run.CostLemmas.{sent_none}

-- Sequence numbers

-- the numbers that a flow sent rise, and are below that of its head packet, or below its next number if it has none
record BufferNumbers (b : Buffer) (ns : List ℕ) : Type 0 where
  few : length b.packets < b.next
  rise : Rises (b.next - length b.packets) ns

abbrev NumbersRise : Option Buffer → List ℕ → Type 0
NumbersRise None ns = (limit : ℕ) × Rises limit ns
NumbersRise (Some b) ns = BufferNumbers b ns

record HasRisingNumbers (s : State) : Type 0 where
  numbered : (f : ℕ) → NumbersRise (buffer_of s.live.buffers f) (sent_numbers f s.done)

new_numbers : (f limit : ℕ) (done : List Sent) → Each (λ (d : Sent). d.head.flow < f) done
    → BufferNumbers (new_buffer f limit) (sent_numbers f done)
unfolding Rises
new_numbers f limit done given = record {
  few = omega arith;
  rise = subst (λ ds. Rises 1 (map (λ (d : Sent). d.head.seq) ds)) (sym (sent_none f done given)) tt;
}

opened_by : (f limit g : ℕ) (done : List Sent) (k : Bool) → nat_eq g f ≡ k → Each (λ (d : Sent). d.head.flow < f) done
    → NumbersRise None (sent_numbers g done) → NumbersRise (if k then Some (new_buffer f limit) else None)
    (sent_numbers g done)
opened_by f limit g done true test given was =
    subst (λ n. BufferNumbers (new_buffer f limit) (sent_numbers n done)) (sym (eqb-true g f test))
    (new_numbers f limit done given)
opened_by f limit g done false test given was = was

opened_numbers : (f limit g : ℕ) (done : List Sent) (o : Option Buffer) → Each (λ (d : Sent). d.head.flow < f) done
    → NumbersRise o (sent_numbers g done) → NumbersRise
    (option_or o (if nat_eq g f then Some (new_buffer f limit) else None)) (sent_numbers g done)
opened_numbers f limit g done (Some b) given was = was
opened_numbers f limit g done None given was = opened_by f limit g done (nat_eq g f) refl given was

pushed_rise : (b : Buffer) (body : List ℕ) (ns : List ℕ) → BufferNumbers b ns → BufferNumbers (with_packet body b) ns
pushed_rise b body ns was =
    let long : length (b.packets ++ body ∷ []) ≡ length b.packets + 1 = length-append b.packets (body ∷ []) in
    let same : b.next - length b.packets ≡ (b.next + 1) - length (b.packets ++ body ∷ []) = omega arith in
    record { few = omega (arith, was.few); rise = subst (λ n. Rises n ns) same was.rise }

pushed_numbers : (bs : List Buffer) (f : ℕ) (body : List ℕ) (b : Buffer) → buffer_of bs f ≡ Some b
    → (g : ℕ) (ns : List ℕ) → NumbersRise (buffer_of bs g) ns → (k : Bool) → nat_eq g f ≡ k
    → NumbersRise (buffer_of (push_in bs f body) g) ns
pushed_numbers bs f body b found g ns was true test =
    let same : g ≡ f = eqb-true g f test in
    let here : buffer_of bs g ≡ Some b = ap (buffer_of bs) same ∙ found in
    let there : buffer_of (push_in bs f body) g ≡ Some (with_packet body b) = ap (buffer_of (push_in bs f body)) same
    ∙ (find-change_first (is_buffer_of f) (with_packet body) (λ b holds. holds) bs
    ∙ ap (option_map (with_packet body)) found) in
    subst (λ o. NumbersRise o ns) (sym there) (pushed_rise b body ns (subst (λ o. NumbersRise o ns) here was))
pushed_numbers bs f body b found g ns was false test =
    subst (λ o. NumbersRise o ns)
    (sym (find-change_first_other (is_buffer_of f) (is_buffer_of g) (with_packet body)
    (other_buffer (with_packet body) (λ b. refl) g f test) bs)) was

popped_rise : (b : Buffer) (h : Packet) (ns : List ℕ) → IsHeadPacket b h → BufferNumbers b ns
    → BufferNumbers (without_head b) (ns ++ h.seq ∷ [])
popped_rise b h ns head was =
    let long : length b.packets ≡ suc (length head.behind) = ap length head.packets in
    let left : length (drop 1 b.packets) ≡ length head.behind = ap (λ ps. length (drop 1 ps)) head.packets in
    let more : (b.next - suc (length head.behind)) + 1 ≡ b.next - length (drop 1 b.packets) = omega (arith, was.few) in
    let last : Rises ((b.next - suc (length head.behind)) + 1) (ns ++ (b.next - suc (length head.behind)) ∷ [])
    = rises-append (b.next - suc (length head.behind)) ns (subst (λ n. Rises (b.next - n) ns) long was.rise) in
    record {
      few = omega (arith, was.few);
      rise = subst (λ n. Rises n (ns ++ h.seq ∷ [])) more
          (subst (λ n. Rises ((b.next - suc (length head.behind)) + 1) (ns ++ n ∷ [])) (sym head.seq) last);
    }

number_by : (d : Sent) (k : Bool) → map (λ (d : Sent). d.head.seq) (if k then d ∷ [] else [])
    ≡ (if k then d.head.seq ∷ [] else [])
number_by d true = refl
number_by d false = refl

numbers_more : (f : ℕ) (done : List Sent) (d : Sent) → (k : Bool) → nat_eq f d.head.flow ≡ k
    → sent_numbers f (done ++ d ∷ []) ≡ sent_numbers f done ++ (if k then d.head.seq ∷ [] else [])
numbers_more f done d k test =
    ap (map (λ (d : Sent). d.head.seq)) (filter-append (λ (d : Sent). nat_eq f d.head.flow) done (d ∷ []))
    ∙ (map-append (λ (d : Sent). d.head.seq) (sent_by f done) (sent_by f (d ∷ []))
    ∙ ap (λ ns. sent_numbers f done ++ ns)
    (ap (λ k. map (λ (d : Sent). d.head.seq) (if k then d ∷ [] else [])) test ∙ number_by d k))

popped_numbers : (bs : List Buffer) (h : Packet) (tariff : ℕ) (done : List Sent) → head_of bs h.flow ≡ Some h → (f : ℕ)
    → NumbersRise (buffer_of bs f) (sent_numbers f done) → (k : Bool) → nat_eq f h.flow ≡ k
    → NumbersRise (buffer_of (pop_in bs h.flow) f)
    (sent_numbers f (done ++ (record { head = h; tariff = tariff }) ∷ []))
popped_numbers bs h tariff done is f was true test =
    let same : f ≡ h.flow = eqb-true f h.flow test in
    let there : IsHeadBuffer bs h.flow h = head_buffer bs h.flow h is in
    let here : buffer_of bs f ≡ Some there.buffer = ap (buffer_of bs) same ∙ there.found in
    let now : buffer_of (pop_in bs h.flow) f ≡ Some (without_head there.buffer) = ap (buffer_of (pop_in bs h.flow)) same
    ∙ (find-change_first (is_buffer_of h.flow) without_head (λ b holds. holds) bs
    ∙ ap (option_map without_head) there.found) in
    subst (λ ns. NumbersRise (buffer_of (pop_in bs h.flow) f) ns)
    (sym (numbers_more f done (record { head = h; tariff = tariff }) true test))
    (subst (λ o. NumbersRise o (sent_numbers f done ++ h.seq ∷ [])) (sym now)
    (popped_rise there.buffer h (sent_numbers f done) there.head
    (subst (λ o. NumbersRise o (sent_numbers f done)) here was)))
popped_numbers bs h tariff done is f was false test =
    subst (λ ns. NumbersRise (buffer_of (pop_in bs h.flow) f) ns)
    (sym (numbers_more f done (record { head = h; tariff = tariff }) false test ∙ append-nil (sent_numbers f done)))
    (subst (λ o. NumbersRise o (sent_numbers f done))
    (sym (find-change_first_other (is_buffer_of h.flow) (is_buffer_of f) without_head
    (other_buffer without_head (λ b. refl) f h.flow test) bs)) was)

numbers_rise : (o : Option Buffer) (ns : List ℕ) → NumbersRise o ns → (limit : ℕ) × Rises limit ns
numbers_rise None ns was = was
numbers_rise (Some b) ns was = (b.next - length b.packets, was.rise)

closed_numbers : (limit : ℕ) (bs : List Buffer) (f g : ℕ) (ns : List ℕ) → Rises limit (buffer_flows bs) → (k : Bool)
    → nat_eq g f ≡ k → NumbersRise (buffer_of bs g) ns → NumbersRise (buffer_of (close_in bs f) g) ns
closed_numbers limit bs f g ns rises true test was =
    subst (λ o. NumbersRise o ns) (sym (close_in-same limit bs g f (eqb-true g f test) rises))
    (numbers_rise (buffer_of bs g) ns was)
closed_numbers limit bs f g ns rises false test was =
    subst (λ o. NumbersRise o ns) (sym (find-remove_other (λ (b : Buffer). b.flow) f g test bs)) was

numbered_cases : (life : ℕ) (rates : List Rate) (s : State) → SoundState life rates s → IsBilled rates s
    → HasRisingNumbers s
    → StepCases HasRisingNumbers rates s
numbered_cases life rates s sound billed was = record {
  refused = record { numbered = was.numbered };
  funded = λ g funded. record { numbered = was.numbered };
  opened =
      λ name limit tariff allowed. record {
        numbered = λ g. subst (λ o. NumbersRise o (sent_numbers g s.done))
            (sym (find-append (is_buffer_of g) s.live.buffers (new_buffer s.live.graph.next_flow limit ∷ [])))
            (opened_numbers s.live.graph.next_flow limit g s.done (buffer_of s.live.buffers g) billed.given.sent
            (was.numbered g));
      };
  closed =
      λ f may. record {
        numbered = λ g. closed_numbers s.live.graph.next_flow s.live.buffers f g (sent_numbers g s.done)
            (buffers-rise sound.live) (nat_eq g f) refl (was.numbered g);
      };
  held = λ f held stands. record { numbered = was.numbered };
  accepted =
      λ f body short b found. record {
        numbered = λ g. pushed_numbers s.live.buffers f body b found g
            (sent_numbers g s.done) (was.numbered g) (nat_eq g f) refl;
      };
  finished =
      λ snd k sends whole. record {
        numbered = λ f. popped_numbers s.live.buffers snd.head
            (sent_of snd).tariff s.done (sending-head sound.live sends.is) f (was.numbered f)
            (nat_eq f snd.head.flow) refl;
      };
  begun = λ snd k sends. record { numbered = was.numbered };
  tore = λ snd sends. record { numbered = was.numbered };
}

numbered_empty : (version : Version) → HasRisingNumbers (empty_state version)
unfolding Rises
numbered_empty version = record { numbered = λ f. (0, tt) }

run_numbered : (version : Version) (life : ℕ) (rates : List Rate) (es : List Event) → AreInRange rates
    → MayFollow life rates (empty_state version) es
    → HasRisingNumbers (run version rates es)
run_numbered version life rates es range may =
    (run-cases (λ s. IsBilled rates s × HasRisingNumbers s) life rates range
    (λ s sound below was. both-cases (IsBilled rates) HasRisingNumbers rates s
    (billed_cases life rates s sound below was.0)
    (numbered_cases life rates s sound was.0 was.1)) (billed_empty version rates, numbered_empty version) es may).1

-- in every run the numbers that a flow sent rise
pub run-numbers : (version : Version) (life : ℕ) (rates : List Rate) (es : List Event) → AreInRange rates
    → MayFollow life rates (empty_state version) es → (f : ℕ)
    → (limit : ℕ) × Rises limit (sent_numbers f (run version rates es).done)
run-numbers version life rates es range may f =
    numbers_rise (buffer_of (run version rates es).live.buffers f) (sent_numbers f (run version rates es).done)
    ((run_numbered version life rates es range may).numbered f)

none_above : (n m : ℕ) (ns : List ℕ) → n ≡ m → Each (λ k. m < k) ns → filter (nat_eq n) ns ≡ []
none_above n m [] same above = refl
none_above n m (k ∷ ns) same above =
    cond-false (nat_eq n k) (k ∷ filter (nat_eq n) ns) (filter (nat_eq n) ns)
    (ne_eqb n k (λ is. not_above n m k same above.0 is)) ∙ none_above n m ns same above.1

once_by : (n m : ℕ) (ns : List ℕ) (k : Bool) → nat_eq n m ≡ k → Each (λ k. m < k) ns → length (filter (nat_eq n) ns) ≤ 1
    → length (if k then m ∷ filter (nat_eq n) ns else filter (nat_eq n) ns) ≤ 1
once_by n m ns true test above rest =
    let none : length (filter (nat_eq n) ns) ≡ 0 = ap length (none_above n m ns (eqb-true n m test) above) in
    omega arith
once_by n m ns false test above rest = rest

-- numbers that rise are each there once at most
pub rises-once : (limit n : ℕ) (ns : List ℕ) → Rises limit ns → length (filter (nat_eq n) ns) ≤ 1
unfolding Rises
rises-once limit n [] rises = omega arith
rises-once limit n (m ∷ ns) rises = once_by n m ns (nat_eq n m) refl rises.1 (rises-once limit n ns rises.2)

-- no packet of a run was sent twice
pub run-once : (version : Version) (life : ℕ) (rates : List Rate) (es : List Event) → AreInRange rates
    → MayFollow life rates (empty_state version) es
    → (f n : ℕ) → length (filter (nat_eq n) (sent_numbers f (run version rates es).done)) ≤ 1
run-once version life rates es range may f n =
    let rises : (limit : ℕ) × Rises limit (sent_numbers f (run version rates es).done)
    = run-numbers version life rates es range may f in
    rises-once rises.0 n (sent_numbers f (run version rates es).done) rises.1
