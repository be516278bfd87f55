-- Each write and each fault keeps what holds of every link.
use Rattle.std.specs.Prelude.{◌≡◌, ◌<◌, ◌≤◌, ◌+◌, ℕ, Bool, true, false, not, ◌&&◌, List, length, map}
use Rattle.std.specs.Prelude.{nat_eq, Option, None, Some, option_map}
use Rattle.std.proofs.Common.{refl, ap, sym, ◌∙◌, subst, arith, length-drop}
use Rattle.std.proofs.lemmas.Bool.{cond_both, eqb-false, both_ways}
use Rattle.share_base.specs.declared.command.Turn.{Turn}
use Rattle.share_base.specs.declared.command.Turn.TheVariants.{Wrote}
use Rattle.share_base.specs.declared.version.Version.{Version}
use Rattle.share_model.specs.declared.link.Book.{Book}
use Rattle.share_model.specs.declared.link.Counts.{Counts}
use Rattle.share_model.specs.declared.rates.Rate.{Rate}
use Rattle.share_model.specs.link.Fields.{IsBody}
use Rattle.share_model.specs.link.Tariff.{AreInRange}
use Rattle.share_model.specs.link.Buffers.{Buffer, is_buffer_of, buffer_of, head_of, without_head, pop_in}
use Rattle.share_model.specs.link.Buffers.{is_some_packet, has_packet, is_busy}
use Rattle.share_model.proofs.lemmas.link.BufferLemmas.{flows-pop_in, numbers-with_activity, fillings, fillings-same}
use Rattle.share_model.proofs.lemmas.link.BufferLemmas.{buffer_flows}
use Rattle.share_model.proofs.lemmas.link.HoldLemmas.{is_held-posted}
use Rattle.share_model.proofs.lemmas.funding.FlowLemmas.{well_formed-set_active}
use Rattle.share_model.specs.link.Live.{Live}
use Rattle.share_model.specs.link.Turns.{Sending, frame_of, sending, rest_of}
use Rattle.share_model.specs.link.Books.{is_book_of, units_due, with_units}
use Rattle.share_model.specs.link.Books.{books_with_units, is_held}
use Rattle.share_model.specs.link.Turns.{is_whole, in_part, whole, torn_link, write_step, fault_step}
use Rattle.share_model.specs.link.Live.{tickets_of_all}
use Rattle.share_model.specs.stride.Moves.{charge}
use Rattle.share_model.proofs.lemmas.lists.FirstItemLemmas.{each-drop_one, each-change_first, map-change_first}
use Rattle.share_model.proofs.lemmas.lists.FirstItemLemmas.{each-all}
use Rattle.share_model.proofs.lemmas.lists.FirstItemLemmas.{find-change_first}
use Rattle.share_model.specs.run.Sound.{torn_gone, QueueIsSound, IsSoundBuffer, IsOnShelf, BooksAreSound, TornIsNamed}
use Rattle.share_model.specs.run.Sound.{Sound}
use Rattle.share_model.proofs.lemmas.run.PacketCountLemmas.{packets_in-pop_in}
use Rattle.share_model.proofs.lemmas.run.QueueLemmas.{queue-later, queue-after_charge, level-after_charge}
use Rattle.share_model.proofs.lemmas.run.SoundLinkLemmas.{units_due-few, books_with_units-few_more, rest-short}
use Rattle.share_model.proofs.lemmas.run.SoundLinkLemmas.{sending-few}
use Rattle.share_model.proofs.lemmas.run.SoundLinkLemmas.{sending-head, sound-numbered}
use Rattle.share_model.proofs.lemmas.run.SoundLinkLemmas.{sending-length, sending-short, head-stands}
use Rattle.share_model.proofs.lemmas.run.SoundCommandLemmas.{sound-with_level_queue, funding-later, buffers-later}
use Rattle.share_model.proofs.lemmas.run.SoundCommandLemmas.{buffers-changed}
use Rattle.share_model.proofs.lemmas.run.SoundCommandLemmas.{flows-changed, found-own}

-- Writes

-- books of which one was posted for these units
books_posted : {rates : List Rate} {c : Counts} {books : List Book} (f units : ℕ) (now : Counts) → AreInRange rates
    → units ≤ 11842 → now.past ≡ c.past → now.events ≡ c.events + 1 → BooksAreSound rates c books
    → BooksAreSound rates now (books_with_units rates books f units)
books_posted {rates = rates} {books = books} f units now range few past events was = record {
  known =
      each-change_first (IsOnShelf rates) (IsOnShelf rates) (is_book_of f) (with_units rates units) (λ b k. k)
      (λ b k. k) books was.known;
  accounts = omega (arith, was.accounts, books_with_units-few_more rates f units books range few);
}

popped_sound : (v : Version) (n : ℕ) (b : Buffer) → IsSoundBuffer v n b → IsSoundBuffer v (n + 1) (without_head b)
popped_sound v n b was = record {
  flow = was.flow;
  given = omega (arith, length-drop 1 b.packets, was.given);
  numbers = omega arith;
  payloads = each-drop_one (IsBody v) b.packets was.payloads;
}

booked_posted : (rates : List Rate) (bs : List Book) (f units : ℕ)
    → map (λ (b : Book). b.flow) (books_with_units rates bs f units) ≡ map (λ (b : Book). b.flow) bs
booked_posted rates bs f units =
    map-change_first (λ (b : Book). b.flow) (is_book_of f) (with_units rates units) (λ b. refl) bs

popped_busy : (bs : List Buffer) (f : ℕ) (b : Buffer) → buffer_of bs f ≡ Some b
    → is_some_packet (without_head b).packets ≡ is_busy (pop_in bs f) f
popped_busy bs f b found =
    sym (ap has_packet (find-change_first (is_buffer_of f) without_head (λ b holds. holds) bs
    ∙ ap (option_map without_head) found))

-- a posting changes no activity
posted_fillings : (rates : List Rate) (books : List Book) (f units : ℕ) (bs : List Buffer)
    → fillings (is_held (books_with_units rates books f units)) bs ≡ fillings (is_held books) bs
posted_fillings rates books f units bs =
    fillings-same (is_held books) (is_held (books_with_units rates books f units)) bs
    (each-all (λ g. is_held (books_with_units rates books f units) g ≡ is_held books g)
    (is_held-posted rates books f units) (buffer_flows bs))

-- a link that is whole names no torn packet
untorn : (bs bs' : List Buffer) (broken : Bool) (o : Option ℕ) → broken ≡ false → TornIsNamed bs broken o
    → TornIsNamed bs' broken o
untorn bs bs' broken None unbroken was = tt
untorn bs bs' broken (Some f) unbroken was = absurd (both_ways broken unbroken was.broken_is)

pub sound-whole : {life : ℕ} {rates : List Rate} {l : Live} {s : Sending} → AreInRange rates → Sound life rates l
    → l.counts.events < life → l.broken ≡ false → sending l ≡ Some s → (k : ℕ) → k ≤ length (frame_of s)
    → Sound life rates (whole rates l s k)
sound-whole {life = life} {rates = rates} {l = l} {s = s} range was few unbroken is k fits =
    let f = s.head.flow in
    let head : head_of l.buffers f ≡ Some s.head = sending-head was is in
    let units = units_due rates l.books f (length (frame_of s)) in
    let cheap : units ≤ 11842 = units_due-few rates l.books f (length (frame_of s)) range (sending-short was is) in
    let awake = is_busy (pop_in l.buffers f) f && not (is_held l.books f) in
    let tied =
    flows-changed l.graph.next_flow f awake without_head was.flows (sound-numbered was) (flows-pop_in l.buffers f)
    (λ b found. ap (λ some. some && not (is_held l.books b.flow)) (popped_busy l.buffers f b found)
    ∙ ap (λ g. is_busy (pop_in l.buffers f) f && not (is_held l.books g)) (found-own l.buffers f b found)) in
    sound-with_level_queue (record {
      some = omega arith;
      counts = record {
        events = omega (arith, few);
        accepted = omega (arith, was.counts.accepted);
        sent = omega (arith, was.counts.sent, fits, sending-short was is);
        balance = omega (arith, was.counts.balance, packets_in-pop_in l.buffers f s.head head);
      };
      funding = record {
        kept = well_formed-set_active l.graph was.funding.kept f awake;
        next_ticket = omega (arith, was.funding.next_ticket);
        next_flow = omega (arith, was.funding.next_flow);
      };
      flows = record {
        buffered = tied.buffered;
        booked = booked_posted rates l.books f units ∙ tied.booked;
        active = tied.active ∙ sym (posted_fillings rates l.books f units (pop_in l.buffers f));
      };
      queue =
          subst (λ ns. QueueIsSound life (l.counts.events + 1) ns (charge l.queue f units))
          (sym (numbers-with_activity f awake l.graph.flows))
          (queue-after_charge f units (head-stands was f head) few cheap was.queue);
      buffers =
          buffers-changed l.version l.counts.events f without_head l.buffers (popped_sound l.version l.counts.events)
          was.buffers;
      books = books_posted f units (whole rates l s k).counts range cheap refl refl was.books;
      part = tt;
      torn = record {
        named = untorn l.buffers (pop_in l.buffers f) l.broken l.torn unbroken was.torn.named;
        unparted = λ _. refl;
      };
    })

pub sound-in_part : {life : ℕ} {rates : List Rate} {l : Live} {s : Sending} → Sound life rates l
    → l.counts.events < life → l.broken ≡ false → sending l ≡ Some s → (k : ℕ) → 0 < k
    → s.out + k < length (frame_of s) → Sound life rates (in_part l s k)
sound-in_part {l = l} {s = s} was few unbroken is k some fits = record {
  fresh = λ none. absurd (omega (arith, none));
  counts = record {
    events = omega (arith, few);
    accepted = omega (arith, was.counts.accepted);
    sent = omega (arith, was.counts.sent, fits, sending-short was is);
    balance = was.counts.balance;
  };
  funding = funding-later was.funding;
  flows = was.flows;
  queue = queue-later was.queue;
  level = was.level;
  buffers = buffers-later l.version l.counts.events l.buffers was.buffers;
  books = record { known = was.books.known; accounts = omega (arith, was.books.accounts) };
  part = record {
    head = s.head;
    found = sending-head was is;
    some = omega arith;
    few = omega (arith, fits, sending-length was is);
  };
  torn = record {
    named = was.torn.named;
    unparted = λ broken. absurd (both_ways l.broken unbroken broken);
  };
}

not_whole : (a b : ℕ) → nat_eq a b ≡ false → a ≤ b → a < b
not_whole a b differ below = let h : ¬ (a ≡ b) = eqb-false a b differ in omega arith

pub sound-written : {life : ℕ} {rates : List Rate} {l : Live} {s : Sending} → AreInRange rates → Sound life rates l
    → l.counts.events < life → l.broken ≡ false → sending l ≡ Some s → (k : ℕ) → 0 < k → k ≤ length (rest_of s)
    → Sound life rates (write_step rates l s k).0
sound-written {life = life} {rates = rates} {l = l} {s = s} range was few unbroken is k some fits =
    cond_both (is_whole s k) (whole rates l s k, Wrote s.head.flow s.head.seq k true)
    (in_part l s k, Wrote s.head.flow s.head.seq k false) (λ (d : Live × Turn). Sound life rates d.0)
    (λ _. sound-whole range was few unbroken is k (omega (arith, rest-short was is)))
    (λ part. sound-in_part was few unbroken is k some
    (not_whole (s.out + k) (length (frame_of s)) part (omega (arith, rest-short was is))))

-- Faults

gone_none : (o : Option ℕ) (broken : Bool) → broken ≡ false → torn_gone broken o ≡ 0
gone_none o true unbroken = cc
gone_none o false unbroken = refl

pub sound-failed : {life : ℕ} {rates : List Rate} {l : Live} {s : Sending} → AreInRange rates → Sound life rates l
    → l.counts.events < life → l.broken ≡ false → sending l ≡ Some s → Sound life rates (fault_step rates l s).0
sound-failed {rates = rates} {l = l} {s = s} range was few unbroken is =
    let f = s.head.flow in
    let head : head_of l.buffers f ≡ Some s.head = sending-head was is in
    let units = units_due rates l.books f s.out in
    let cheap : units ≤ 11842 =
    units_due-few rates l.books f s.out range (omega (arith, sending-few was is, sending-short was is)) in
    record {
      fresh = λ none. absurd (omega (arith, none));
      counts = record {
        events = omega (arith, few);
        accepted = omega (arith, was.counts.accepted);
        sent = omega (arith, was.counts.sent);
        balance = omega (arith, was.counts.balance, gone_none l.torn l.broken unbroken);
      };
      funding = funding-later was.funding;
      flows = record {
        buffered = was.flows.buffered;
        booked = booked_posted rates l.books f units ∙ was.flows.booked;
        active = was.flows.active ∙ sym (posted_fillings rates l.books f units l.buffers);
      };
      queue = queue-after_charge f units (head-stands was f head) few cheap was.queue;
      level = level-after_charge l.queue f units (tickets_of_all l.graph) was.level;
      buffers = buffers-later l.version l.counts.events l.buffers was.buffers;
      books = books_posted f units (torn_link rates l s).counts range cheap refl refl was.books;
      part = tt;
      torn = record {
        named = record { broken_is = refl; head = s.head; found = head };
        unparted = λ _. refl;
      };
    }
