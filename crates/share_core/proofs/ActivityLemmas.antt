-- A flow whose activity stands already, and a queue that is level.
use Rattle.std.proofs.Common.{◌≡◌, ◌+◌, ◌∙◌, ℕ, Bool, true, false, not, ◌&&◌, List, [], ◌∷◌}
use Rattle.std.proofs.Common.{nat_eq, refl, sym, ap, subst}
use Rattle.std.proofs.lemmas.Bool.{eqb-true}
use Rattle.share_model.specs.lists.Change.{change_first}
use Rattle.share_model.specs.declared.funding.OpenFlow.{OpenFlow}
use Rattle.share_model.specs.declared.rates.Rate.{Rate}
use Rattle.share_model.specs.funding.Graph.{NameBytes, Graph, flow_numbers}
use Rattle.share_model.specs.funding.Changes.{with_activity, set_active}
use Rattle.share_model.specs.link.Books.{is_held}
use Rattle.share_model.specs.link.Buffers.{Buffer, is_some_packet, is_busy}
use Rattle.share_model.specs.link.Live.{Live, tickets_of_all}
use Rattle.share_model.specs.link.View.{LinkView}
use Rattle.share_model.proofs.lemmas.link.BufferLemmas.{numbers-with_activity, AreTied, activities, fillings}
use Rattle.share_model.proofs.lemmas.link.BufferLemmas.{buffer_flows}
use Rattle.share_model.proofs.lemmas.run.SoundLinkLemmas.{sound-tied}
use Rattle.share_model.proofs.lemmas.run.QueueLemmas.{tickets_of_all-can_level}
use Rattle.share_model.specs.run.Sound.{Sound, QueueIsSound}
use Rattle.share_model.specs.stride.Moves.{Stride}
use Rattle.share_model.specs.stride.Level.{CanLevel, IsLevel, level_all}
use Rattle.share_model.proofs.lemmas.stride.LevellingLemmas.{level_stays}

-- a flow whose activity is that of its buffer and its hold
stays : (held : ℕ → Bool) (f : ℕ) (t : Bool) (es : List (NameBytes × OpenFlow)) (bs : List Buffer)
    → AreTied held es bs → (is_busy bs f && not (held f)) ≡ t → with_activity f t es ≡ es
unfolding change_first
stays held f t [] bs tied awake = refl
stays held f t (e ∷ es) [] tied awake = let n : [] ≡ e.1.number ∷ flow_numbers es = tied.numbers in cc
stays held f t (e ∷ es) (b ∷ bs) tied awake =
    by_test (nat_eq f e.1.number) refl same_number same_active awake
    (stays held f t es bs (record { numbers = numbers_rest; active = active_rest }))
  where
    numbers : b.flow ∷ buffer_flows bs ≡ e.1.number ∷ flow_numbers es
    numbers = tied.numbers

    active : e.1.active ∷ activities es ≡ (is_some_packet b.packets && not (held b.flow)) ∷ fillings held bs
    active = tied.active

    same_number : b.flow ≡ e.1.number
    same_number = cc

    numbers_rest : buffer_flows bs ≡ flow_numbers es
    numbers_rest = cc

    same_active : e.1.active ≡ (is_some_packet b.packets && not (held b.flow))
    same_active = cc

    active_rest : activities es ≡ fillings held bs
    active_rest = cc

    by_test : (k : Bool) → nat_eq f e.1.number ≡ k → b.flow ≡ e.1.number
        → e.1.active ≡ (is_some_packet b.packets && not (held b.flow))
        → (is_busy (b ∷ bs) f && not (held f)) ≡ t
        → ((is_busy bs f && not (held f)) ≡ t → with_activity f t es ≡ es)
        → with_activity f t (e ∷ es) ≡ e ∷ es
    by_test true test number is awake rest =
        let here : nat_eq f b.flow ≡ true = ap (nat_eq f) number ∙ test in
        let own : f ≡ b.flow = eqb-true f b.flow here in
        let filled : (is_some_packet b.packets && not (held f)) ≡ t = rw here at awake in
        let same : t ≡ e.1.active =
        sym filled ∙ (ap (λ g. is_some_packet b.packets && not (held g)) own ∙ sym is) in
        rw test (ap (λ a. (e.0, record { number = e.1.number; active = a }) ∷ es) same)
    by_test false test number is awake rest =
        let other : nat_eq f b.flow ≡ false = ap (nat_eq f) number ∙ test in
        rw test (ap (λ es. e ∷ es) (rest (rw other at awake)))

pub stays-active : {life : ℕ} {rates : List Rate} {l : Live} → Sound life rates l → (f : ℕ) (t : Bool)
    → (is_busy l.buffers f && not (is_held l.books f)) ≡ t → set_active l.graph f t ≡ l.graph
stays-active {l = l} sound f t awake =
    ap (λ es. record l.graph { flows = es })
    (stays (is_held l.books) f t l.graph.flows l.buffers (sound-tied sound) awake)

-- and a level queue stays as it is
pub stays-level : {life : ℕ} {rates : List Rate} {l : Live} → Sound life rates l → (f : ℕ) (t : Bool)
    → (is_busy l.buffers f && not (is_held l.books f)) ≡ t → (q : Stride) → IsLevel q (tickets_of_all l.graph)
    → level_all q (tickets_of_all (set_active l.graph f t)) ≡ q
stays-level {l = l} sound f t awake q level =
    ap (λ (g : Graph). level_all q (tickets_of_all g)) (stays-active sound f t awake)
    ∙ level_stays q (tickets_of_all l.graph) level

-- a packet that wakes its flow comes to one that is not held, and any other leaves its activity as it is
wakes-free : (busy held : Bool) → (not busy && not held) ≡ true → not held ≡ true
wakes-free true held wakes = cc
wakes-free false held wakes = wakes

wakes-none : (busy held : Bool) → (not busy && not held) ≡ false → (busy && not held) ≡ not held
wakes-none true held none = refl
wakes-none false held none = sym none

pub free_in : (k n : LinkView (Unit {0})) (f : ℕ) → k ≡ n
    → (not (is_busy n.live.buffers f) && not (is_held n.live.books f)) ≡ true → not (is_held k.live.books f) ≡ true
free_in k n f same wakes =
    ap (λ (k : LinkView (Unit {0})). not (is_held k.live.books f)) same
    ∙ wakes-free (is_busy n.live.buffers f) (is_held n.live.books f) wakes

pub still_in : (k n : LinkView (Unit {0})) (f : ℕ) → k ≡ n
    → (not (is_busy n.live.buffers f) && not (is_held n.live.books f)) ≡ false
    → (is_busy k.live.buffers f && not (is_held k.live.books f)) ≡ not (is_held k.live.books f)
still_in k n f same none =
    subst (λ (k : LinkView (Unit {0})). (is_busy k.live.buffers f && not (is_held k.live.books f))
    ≡ not (is_held k.live.books f)) (sym same)
    (wakes-none (is_busy n.live.buffers f) (is_held n.live.books f) none)

-- the flows are still clients after one of them became active, or not
pub can-set_active : {life : ℕ} {rates : List Rate} {l : Live} → Sound life rates l → (q : Stride)
    → QueueIsSound life (l.counts.events + 1) (flow_numbers l.graph.flows) q → (f : ℕ) (t : Bool)
    → CanLevel q (tickets_of_all (set_active l.graph f t))
can-set_active {life = life} {l = l} sound q is f t =
    tickets_of_all-can_level (set_active l.graph f t) (subst (λ ns. QueueIsSound life (l.counts.events + 1) ns q)
    (sym (numbers-with_activity f t l.graph.flows)) is)
