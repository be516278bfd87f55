-- Facts about the frame that is sent, by the write that is due.
use Rattle.std.proofs.Common.{◌≡◌, ℕ, ◌+◌, ◌<◌, ◌≤◌, ◌^◌, Bool, true, false, not, ◌&&◌, List, [], ◌∷◌, length, find}
use Rattle.std.proofs.Common.{Option, None, Some}
use Rattle.std.proofs.Common.{option_and_then, IsSome, IfSome, IsTrue, is_some, refl, sym, ◌∙◌, ap, subst, arith}
use Rattle.share_model.specs.declared.rates.Rate.{Rate}
use Rattle.share_model.specs.link.Buffers.{Buffer, buffer_of, pop_in, head_in, head_of_buffer, head_of}
use Rattle.share_model.specs.link.Buffers.{is_some_packet, has_packet, is_busy}
use Rattle.share_model.specs.link.Frame.{Packet}
use Rattle.share_model.specs.funding.Changes.{set_active}
use Rattle.share_model.specs.link.Live.{Live}
use Rattle.share_model.specs.link.Turns.{Sending, sending, rest_of}
use Rattle.share_model.specs.link.Books.{is_book_of, units_due, books_with_units, is_held}
use Rattle.share_model.specs.link.Live.{with_level_queue, tickets_of_all}
use Rattle.share_model.specs.link.Turns.{whole, wrote_turn}
use Rattle.share_model.specs.link.Calls.{Stepped}
use Rattle.share_base.specs.declared.command.Turn.TheVariants.{Wrote}
use Rattle.share_model.specs.funding.Graph.{flow_numbers}
use Rattle.share_model.specs.lists.Rises.{has_number}
use Rattle.share_model.proofs.lemmas.run.QueueLemmas.{level-after_charge, queue-after_charge}
use Rattle.share_model.specs.stride.Level.{CanLevel, IsLevel, level_all}
use Rattle.share_core.proofs.ActivityLemmas.{stays-active, stays-level, can-set_active}
use Rattle.share_model.specs.stride.Moves.{charge}
use Rattle.std.specs.FinMap.{get}
use Rattle.share_model.specs.run.Sound.{Sound}
use Rattle.share_model.proofs.lemmas.run.SoundLinkLemmas.{sending-head, sending-few, sending-short, rest-short}
use Rattle.share_model.proofs.lemmas.run.SoundLinkLemmas.{book-known, book-account, head-stands, units_due-few}
use Rattle.share_model.proofs.lemmas.run.SoundWriteLemmas.{sound-whole, sound-in_part, sound-failed}
use Rattle.share_model.specs.link.Tariff.{rate_at, AreInRange}
use Rattle.share_core.specs.declared.next_write.NextWrite.{NextWrite}
use Rattle.share_core.specs.Found.{IfFound}
use Rattle.share_model.specs.link.View.{LinkView}
use Rattle.share_core.specs.NextWrite.{next_write_of, IsNextWriteOf, IsWithinRest}

-- the frame that is sent, of which this is the write
pub record IsSent (l : Live) (due : NextWrite) : Type 0 where
  pub frame : Sending
  pub is : sending l ≡ Some frame
  pub due_is : due ≡ next_write_of due.buffer.at frame

sent_by : (l : Live) (due : NextWrite) (o : Option Sending) → sending l ≡ o → IsNextWriteOf o due → IsSent l due
sent_by l due None is h = absurd h
sent_by l due (Some s) is h = record { frame = s; is = is; due_is = h }

pub sent : (k n : LinkView (Unit {0})) (due : NextWrite) → k ≡ n → IsNextWriteOf (sending n.live) due
    → IsSent k.live due
sent k n due same h =
    sent_by k.live due (sending k.live) refl
    (subst (λ (k : LinkView (Unit {0})). IsNextWriteOf (sending k.live) due) (sym same) h)

-- a link of which the last k bytes of the frame of a write are out, and one of which it was torn
abbrev pub whole_at : List Rate → Live → NextWrite → ℕ → Live
whole_at rates l due k =
    let units = units_due rates l.books due.buffer.flow due.length in
    let left = pop_in l.buffers due.buffer.flow in
    with_level_queue (record l {
      graph =
          set_active l.graph due.buffer.flow
          (is_busy left due.buffer.flow && not (is_held l.books due.buffer.flow));
      queue = charge l.queue due.buffer.flow units;
      buffers = left;
      books = books_with_units rates l.books due.buffer.flow units;
      part = None;
      counts = record l.counts {
        events = l.counts.events + 1;
        written = l.counts.written + 1;
        sent = l.counts.sent + k;
      };
    })

abbrev pub torn_at : List Rate → Live → NextWrite → Live
torn_at rates l due =
    let units = units_due rates l.books due.buffer.flow due.out in
    record l {
      queue = charge l.queue due.buffer.flow units;
      books = books_with_units rates l.books due.buffer.flow units;
      part = None;
      torn = Some due.buffer.flow;
      broken = true;
      counts = record l.counts { events = l.counts.events + 1 };
    }

-- n bytes, at least 1, are no more than what is left
pub within : (k m : LinkView (Unit {0})) (due : NextWrite) (n : ℕ) → k ≡ m → (t : IsSent k.live due)
    → IsWithinRest (sending m.live) n → (0 < n) × (n ≤ length (rest_of t.frame))
within k m due n same t h =
    subst (λ (o : Option Sending). IsWithinRest o n)
    (ap (λ (k : LinkView (Unit {0})). sending k.live) (sym same) ∙ t.is) h

if_found : {A : Type 0} (o : Option A) (P : A → Type 0) → ((a : A) → o ≡ Some a → P a) → IfFound o P
if_found None P h = tt
if_found (Some a) P h = h a refl

head_busy : (bs : List Buffer) (f : ℕ) (h : Packet) → head_of bs f ≡ Some h → is_busy bs f ≡ true
head_busy bs f h is = by_buffer (buffer_of bs f) is
  where
    by_packets : (b : Buffer) (ps : List (List ℕ)) → head_in b ps ≡ Some h → is_some_packet ps ≡ true
    by_packets b [] is = cc
    by_packets b (p ∷ ps) is = refl

    by_buffer : (o : Option Buffer) → option_and_then head_of_buffer o ≡ Some h → has_packet o ≡ true
    by_buffer None is = cc
    by_buffer (Some b) is = by_packets b b.packets is

module _ (life : ℕ) (rates : List Rate) (l : Live) (due : NextWrite) (sound : Sound life rates l)
    (t : IsSent l due) where
  -- the book of its flow has a tariff of the shelf, and room for one more event
  pub known : IfFound (find (is_book_of due.buffer.flow) l.books) (λ b. IsTrue (is_some (rate_at rates b.tariff)))
  known =
      if_found (find (is_book_of due.buffer.flow) l.books) (λ b. IsTrue (is_some (rate_at rates b.tariff)))
      (λ b found. book-known sound due.buffer.flow found)

  pub posts :
      life ≤ 2 ^ 24 → IfFound (find (is_book_of due.buffer.flow) l.books) (λ b. b.account ≤ 4611686018427387904)
  posts few =
      if_found (find (is_book_of due.buffer.flow) l.books) (λ b. b.account ≤ 4611686018427387904)
      (λ b found. omega (arith, book-account sound due.buffer.flow found, sound.counts.events, few))

  -- its frame is short, and not all of it is out
  pub short : due.length ≤ 9017
  short = subst (λ (p : NextWrite). p.length ≤ 9017) (sym t.due_is) (sending-short sound t.is)

  pub out_few : due.out ≤ 9017
  out_few =
      let few = sending-few sound t.is in let most = sending-short sound t.is in
      subst (λ (p : NextWrite). p.out ≤ 9017) (sym t.due_is) (omega (arith, few, most))

  -- its flow is a client of the queue
  pub joined : IsSome (get l.queue.clients due.buffer.flow)
  joined =
      subst (λ (p : NextWrite). IsSome (get l.queue.clients p.buffer.flow)) (sym t.due_is)
      (sound.queue.clients t.frame.head.flow ∙ head-stands sound t.frame.head.flow (sending-head sound t.is))

  -- the clock has room for its units
  pub clock : AreInRange rates → life ≤ 2 ^ 24 → l.counts.events < life → (n : ℕ) → n ≤ 9017
      → l.queue.clock + units_due rates l.books due.buffer.flow n ≤ 2 ^ 40
  clock range short_life living n few =
      omega (arith, sound.queue.clock, units_due-few rates l.books due.buffer.flow n range few)

  -- a link stays sound if the frame is whole, is in part, or was torn
  pub sound-finish : AreInRange rates → l.counts.events < life → l.broken ≡ false → (k : ℕ)
      → k ≤ length (rest_of t.frame) → Sound life rates (whole_at rates l due k)
  sound-finish range living unbroken k fits =
      subst (λ (p : NextWrite). Sound life rates (whole_at rates l p k)) (sym t.due_is)
      (let rest = rest-short sound t.is in
      sound-whole range sound living unbroken t.is k (omega (arith, rest, fits)))

  pub sound-advance : l.counts.events < life → l.broken ≡ false → (k : ℕ) → 0 < k → due.out + k < due.length
      → Sound life rates (record l {
        part = Some record { flow = due.buffer.flow; out = due.out + k };
        counts = record l.counts { events = l.counts.events + 1; sent = l.counts.sent + k };
      })
  sound-advance living unbroken k some few = subst (λ (p : NextWrite). Sound life rates (record l {
    part = Some record { flow = p.buffer.flow; out = p.out + k };
    counts = record l.counts { events = l.counts.events + 1; sent = l.counts.sent + k };
  })) (sym t.due_is)
      (sound-in_part sound living unbroken t.is k some (subst (λ (p : NextWrite). p.out + k < p.length) t.due_is few))

  pub sound-fail : AreInRange rates → l.counts.events < life → l.broken ≡ false
      → Sound life rates (torn_at rates l due)
  sound-fail range living unbroken =
      subst (λ (p : NextWrite). Sound life rates (torn_at rates l p)) (sym t.due_is)
      (sound-failed range sound living unbroken t.is)

  -- its flow is open, and holds a packet
  pub stands : has_number due.buffer.flow (flow_numbers l.graph.flows) ≡ true
  stands =
      subst (λ (p : NextWrite). has_number p.buffer.flow (flow_numbers l.graph.flows) ≡ true) (sym t.due_is)
      (head-stands sound t.frame.head.flow (sending-head sound t.is))

  pub busy : is_busy l.buffers due.buffer.flow ≡ true
  busy =
      subst (λ (p : NextWrite). is_busy l.buffers p.buffer.flow ≡ true) (sym t.due_is)
      (head_busy l.buffers t.frame.head.flow t.frame.head (sending-head sound t.is))

  -- after its flow was charged the queue is level still, and can be levelled whether the flow is active or not
  module _ (units : ℕ) where
    pub charged-level : IsLevel (charge l.queue due.buffer.flow units) (tickets_of_all l.graph)
    charged-level = level-after_charge l.queue due.buffer.flow units (tickets_of_all l.graph) sound.level

    pub charged-can : l.counts.events < life → units ≤ 11842 → (active : Bool)
        → CanLevel (charge l.queue due.buffer.flow units)
        (tickets_of_all (set_active l.graph due.buffer.flow active))
    charged-can living few active =
        can-set_active sound (charge l.queue due.buffer.flow units)
        (queue-after_charge due.buffer.flow units stands living few sound.queue) due.buffer.flow active

  awake :
      (is_busy l.buffers due.buffer.flow && not (is_held l.books due.buffer.flow))
      ≡ not (is_held l.books due.buffer.flow)
  awake = ap (λ busy. busy && not (is_held l.books due.buffer.flow)) busy

  -- if the flow holds a packet still, the levelling after the whole frame was charged changes nothing
  pub due-stays : let units = units_due rates l.books due.buffer.flow due.length in
      level_all (charge l.queue due.buffer.flow units)
      (tickets_of_all (set_active l.graph due.buffer.flow (not (is_held l.books due.buffer.flow))))
      ≡ charge l.queue due.buffer.flow units
  due-stays =
      let units = units_due rates l.books due.buffer.flow due.length in
      stays-level sound due.buffer.flow (not (is_held l.books due.buffer.flow)) awake
      (charge l.queue due.buffer.flow units) (charged-level units)

  pub activity-stays :
      set_active l.graph due.buffer.flow (not (is_held l.books due.buffer.flow)) ≡ l.graph
  activity-stays = stays-active sound due.buffer.flow (not (is_held l.books due.buffer.flow)) awake

-- whether a flow holds a packet after one was taken out
pub left : (before after : List Buffer) (f : ℕ) (a b : Bool) → after ≡ pop_in before f → a ≡ is_busy after f → a ≡ b
    → is_busy (pop_in before f) f ≡ b
left before after f a b popped told is = ap (λ (bs : List Buffer). is_busy bs f) (sym popped) ∙ sym told ∙ is

-- the event of a frame of which the last n bytes are out
pub finished : (k m new : LinkView (Unit {0})) (due : NextWrite) (n : ℕ) → k ≡ m → IsSent k.live due
    → new ≡ record k { live = whole_at k.rates k.live due n }
    → IfSome (sending m.live) (λ s. Stepped (whole m.rates m.live s n, wrote_turn s n true) m
    (Wrote due.buffer.flow due.seq n true) new)
finished k m new due n same t is =
    subst
    (λ (m : LinkView (Unit {0})). IfSome (sending m.live) (λ s. Stepped
    (whole m.rates m.live s n, wrote_turn s n true) m (Wrote due.buffer.flow due.seq n true) new))
    same
    (subst (λ (o : Option Sending). IfSome o (λ s. Stepped
    (whole k.rates k.live s n, wrote_turn s n true) k (Wrote due.buffer.flow due.seq n true) new)) (sym t.is)
    (subst (λ (p : NextWrite). Stepped (whole k.rates k.live t.frame n, wrote_turn t.frame n true) k
    (Wrote p.buffer.flow p.seq n true) new) (sym t.due_is)
    (subst (λ (new : LinkView (Unit {0})). Stepped (whole k.rates k.live t.frame n, wrote_turn t.frame n true) k
    (wrote_turn t.frame n true) new)
    (sym (is ∙ ap (λ (p : NextWrite). record k { live = whole_at k.rates k.live p n }) t.due_is))
    (record { live = refl; answer_is = refl; rest = record { life = refl; rates = refl; writer = refl } }))))
