-- The empty link is sound; what is levelled is; and each command but a closing, and each arrival, keeps what holds of
-- every link.
use Rattle.std.specs.Prelude.{◌≡◌, ◌<◌, ◌≤◌, ◌+◌, ℕ, Bool, true, not, ◌&&◌, List, [], ◌∷◌, ◌++◌, length, map}
use Rattle.std.specs.Prelude.{nat_le, Option, None, Some, is_some}
use Rattle.std.proofs.Common.{refl, ap, sym, ◌∙◌, subst, arith, length-append}
use Rattle.std.proofs.lemmas.Bool.{cond_both, eqb-true}
use Rattle.std.proofs.lemmas.List.{map-append, length-map}
use Rattle.std.proofs.lemmas.List.Sums.{sum_by-append}
use Rattle.share_base.specs.declared.command.Reply.{Reply}
use Rattle.share_base.specs.declared.command.Reply.TheVariants.{Packet as PacketReply, Refused}
use Rattle.share_base.specs.declared.refusal.Refusal.TheVariants.{Range, NoTariff, Taken, TableFull, BufferFull}
use Rattle.share_base.specs.declared.version.Version.{Version}
use Rattle.share_model.specs.declared.link.Book.{Book}
use Rattle.share_model.specs.declared.link.Counts.{Counts}
use Rattle.share_model.specs.declared.link.Part.{Part}
use Rattle.share_model.specs.declared.rates.Rate.{Rate}
use Rattle.share_model.specs.declared.funding.OpenFlow.{OpenFlow as FlowEntry}
use Rattle.share_model.specs.lists.Change.{change_first}
use Rattle.share_model.specs.lists.Each.{Each}
use Rattle.share_model.specs.lists.Rises.{Rises}
use Rattle.share_model.proofs.lemmas.lists.FirstItemLemmas.{each_map, each-append, each-one, each-change_first}
use Rattle.share_model.proofs.lemmas.lists.FirstItemLemmas.{rises-fresh}
use Rattle.share_model.proofs.lemmas.lists.FirstItemLemmas.{each-all, find-holds}
use Rattle.share_model.specs.link.Fields.{IsBody}
use Rattle.share_model.specs.link.Tariff.{rate_at}
use Rattle.share_model.specs.link.Buffers.{Buffer, is_buffer_of, buffer_of, new_buffer, open_in, with_packet, push_in}
use Rattle.share_model.specs.link.Buffers.{is_full, is_some_packet}
use Rattle.share_model.proofs.lemmas.link.BufferLemmas.{fillings, head_of-push_in, head_of-open_in, buffer_flows}
use Rattle.share_model.proofs.lemmas.link.BufferLemmas.{flows-push_in}
use Rattle.share_model.proofs.lemmas.link.BufferLemmas.{activities-changed, numbers-with_activity, fillings-same}
use Rattle.share_model.proofs.lemmas.link.HoldLemmas.{is_held-opened}
use Rattle.share_model.specs.funding.Graph.{NameBytes, Graph, flow_numbers}
use Rattle.share_model.specs.funding.Changes.{flow_named, added_flow, add_flow_refusal, add_flow, with_activity}
use Rattle.share_model.proofs.lemmas.funding.RefusalLemmas.{not-refused, not_false, room}
use Rattle.share_model.proofs.lemmas.funding.CurrencyLemmas.{well_formed-empty}
use Rattle.share_model.proofs.lemmas.funding.FlowLemmas.{well_formed-add_flow, well_formed-set_active}
use Rattle.share_model.specs.stride.Moves.{add}
use Rattle.share_model.proofs.lemmas.stride.LevellingLemmas.{levelled_is_level}
use Rattle.share_model.specs.link.Commands.{IsFunded}
use Rattle.share_model.specs.link.Totals.{packets_in}
use Rattle.share_model.specs.link.Live.{Live, empty_link, with_one_event, with_level_queue, tickets_of_all}
use Rattle.share_model.specs.link.Books.{new_book, is_held}
use Rattle.share_model.specs.link.Commands.{open_flow, with_graph}
use Rattle.share_model.specs.link.Commands.{open_flow_refusal}
use Rattle.share_model.specs.link.Arrivals.{accept, arrive_in, arrive_by, arrive_step}
use Rattle.share_model.specs.run.Sound.{torn_gone, CountsAreSound, FundingIsSound, FlowsAreTied, QueueIsSound}
use Rattle.share_model.specs.run.Sound.{IsSoundBuffer, IsOnShelf, BooksAreSound, PartIsSound, TornIsSound}
use Rattle.share_model.specs.run.Sound.{TornIsNamed, Sound, is_awake}
use Rattle.share_model.proofs.lemmas.run.PacketCountLemmas.{counts-later, packets_in-open_in, packets_in-push_in}
use Rattle.share_model.proofs.lemmas.run.QueueLemmas.{queue-later, queue-empty_queue, queue-added, queue-levelled}
use Rattle.share_model.proofs.lemmas.run.QueueLemmas.{tickets_of_all-distinct}
use Rattle.share_model.proofs.lemmas.run.SoundLinkLemmas.{sound-numbered, sound-some_flow}

-- Levelling

-- the invariant of a link after an event, whose flows may compete with other tickets than they have
pub record Unlevelled (life : ℕ) (rates : List Rate) (l : Live) : Type 0 where
  pub some : 0 < l.counts.events
  pub counts : CountsAreSound life l.counts (packets_in l.buffers) (torn_gone l.broken l.torn)
  pub funding : FundingIsSound l.counts.events l.graph
  pub flows : FlowsAreTied l.graph.flows l.buffers l.books
  pub queue : QueueIsSound life l.counts.events (flow_numbers l.graph.flows) l.queue
  pub buffers : Each (IsSoundBuffer l.version l.counts.events) l.buffers
  pub books : BooksAreSound rates l.counts l.books
  pub part : PartIsSound l.version l.buffers l.part
  pub torn : TornIsSound l.buffers l.broken l.torn l.part

kept_numbered : {events : ℕ} {g : Graph} → FundingIsSound events g → Rises g.next_flow (flow_numbers g.flows)
unfolding Rises
kept_numbered funding = funding.kept.numbered.flows.2

pub sound-with_level_queue : {life : ℕ} {rates : List Rate} {l : Live} → Unlevelled life rates l
    → Sound life rates (with_level_queue l)
sound-with_level_queue {l = l} was = record {
  fresh = λ none. absurd (omega (arith, none, was.some));
  counts = was.counts;
  funding = was.funding;
  flows = was.flows;
  queue = queue-levelled l.graph was.queue;
  level =
      levelled_is_level l.queue (tickets_of_all l.graph)
      (tickets_of_all-distinct l.graph l.graph.next_flow (kept_numbered was.funding));
  buffers = was.buffers;
  books = was.books;
  part = was.part;
  torn = was.torn;
}

-- One event later

pub funding-later : {events : ℕ} {g : Graph} → FundingIsSound events g → FundingIsSound (events + 1) g
funding-later was = record {
  kept = was.kept;
  next_ticket = omega (arith, was.next_ticket);
  next_flow = omega (arith, was.next_flow);
}

buffer_later : (v : Version) (n : ℕ) (b : Buffer) → IsSoundBuffer v n b → IsSoundBuffer v (n + 1) b
buffer_later v n b was = record { flow = was.flow; given = was.given; numbers = omega arith; payloads = was.payloads }

pub buffers-later : (v : Version) (n : ℕ) (bs : List Buffer) → Each (IsSoundBuffer v n) bs
    → Each (IsSoundBuffer v (n + 1)) bs
buffers-later v n bs was = each_map (IsSoundBuffer v n) (IsSoundBuffer v (n + 1)) (buffer_later v n) bs was

pub buffers-changed : (v : Version) (n : ℕ) (f : ℕ) (change : Buffer → Buffer) (bs : List Buffer)
    → ((b : Buffer) → IsSoundBuffer v n b → IsSoundBuffer v (n + 1) (change b)) → Each (IsSoundBuffer v n) bs
    → Each (IsSoundBuffer v (n + 1)) (change_first (is_buffer_of f) change bs)
buffers-changed v n f change bs changes was =
    each-change_first (IsSoundBuffer v n) (IsSoundBuffer v (n + 1)) (is_buffer_of f) change (buffer_later v n) changes
    bs was

pub books-later : {rates : List Rate} {c : Counts} {books : List Book} → BooksAreSound rates c books
    → BooksAreSound rates (record c { events = c.events + 1 }) books
books-later was = record { known = was.known; accounts = omega (arith, was.accounts) }

-- a refused event
pub sound-with_one_event : {life : ℕ} {rates : List Rate} {l : Live} → Sound life rates l → l.counts.events < life
    → Sound life rates (with_one_event l)
sound-with_one_event {l = l} was few = record {
  fresh = λ none. absurd (omega (arith, none));
  counts = counts-later was.counts few;
  funding = funding-later was.funding;
  flows = was.flows;
  queue = queue-later was.queue;
  level = was.level;
  buffers = buffers-later l.version l.counts.events l.buffers was.buffers;
  books = books-later was.books;
  part = was.part;
  torn = was.torn;
}

-- a change of currencies and tickets
pub sound-with_graph : {life : ℕ} {rates : List Rate} {l : Live} → Sound life rates l → l.counts.events < life
    → (g : Graph) → IsFunded l.graph g → Sound life rates (with_graph l g)
sound-with_graph {life = life} {l = l} was few g funded = sound-with_level_queue (record {
  some = omega arith;
  counts = counts-later was.counts few;
  funding = record {
    kept = funded.kept was.funding.kept;
    next_ticket = omega (arith, funded.next_ticket, was.funding.next_ticket);
    next_flow = omega (arith, funded.next_flow, was.funding.next_flow);
  };
  flows =
      subst (λ (es : List (NameBytes × FlowEntry)). FlowsAreTied es l.buffers l.books) (sym funded.flows) was.flows;
  queue =
      subst (λ (es : List (NameBytes × FlowEntry)). QueueIsSound life (l.counts.events + 1) (flow_numbers es) l.queue)
      (sym funded.flows) (queue-later was.queue);
  buffers = buffers-later l.version l.counts.events l.buffers was.buffers;
  books = books-later was.books;
  part = was.part;
  torn = was.torn;
})

-- Opening

map_last : {A B : Type 0} (f : A → B) (xs : List A) (x : A) (ys : List B) → map f xs ≡ ys
    → map f (xs ++ x ∷ []) ≡ ys ++ f x ∷ []
map_last f xs x ys same = map-append f xs (x ∷ []) ∙ ap (λ zs. zs ++ f x ∷ []) same

part_opened : (v : Version) (bs : List Buffer) (g limit : ℕ) (o : Option Part) → PartIsSound v bs o
    → PartIsSound v (open_in bs g limit) o
part_opened v bs g limit None was = tt
part_opened v bs g limit (Some p) was = record {
  head = was.head;
  found = head_of-open_in bs g limit p.flow was.head was.found;
  some = was.some;
  few = was.few;
}

torn_opened : (bs : List Buffer) (broken : Bool) (g limit : ℕ) (o : Option ℕ) → TornIsNamed bs broken o
    → TornIsNamed (open_in bs g limit) broken o
torn_opened bs broken g limit None was = tt
torn_opened bs broken g limit (Some f) was = record {
  broken_is = was.broken_is;
  head = was.head;
  found = head_of-open_in bs g limit f was.head was.found;
}

new_buffer_sound : (v : Version) (n f limit : ℕ) → 1 ≤ f → IsSoundBuffer v n (new_buffer f limit)
new_buffer_sound v n f limit some = record { flow = some; given = omega arith; numbers = omega arith; payloads = tt }

pub numbers-added : (g : Graph) (name : NameBytes)
    → flow_numbers (add_flow g name).flows ≡ flow_numbers g.flows ++ g.next_flow ∷ []
numbers-added g name =
    map_last (λ (e : NameBytes × FlowEntry). e.1.number) g.flows (name, added_flow g) (flow_numbers g.flows) refl

-- the facts if an opening is not refused
pub record IsOpenable (rates : List Rate) (l : Live) (name : NameBytes) (tariff : ℕ) : Type 0 where
  pub known : is_some (rate_at rates tariff) ≡ true
  pub allowed : add_flow_refusal l.graph name ≡ None
  pub space : length l.graph.flows < 64

pub openable : (rates : List Rate) (l : Live) (name : NameBytes) (limit tariff : ℕ)
    → open_flow_refusal rates l name limit tariff ≡ None → IsOpenable rates l name tariff
openable rates l name limit tariff allowed =
    let one = not-refused (not (nat_le 1 limit && nat_le limit 1024)) Range _ allowed in
    let two = not-refused (not (is_some (rate_at rates tariff))) NoTariff _ one.1 in
    let three = not-refused (is_some (flow_named l.graph name)) Taken _ two.1 in
    let four = not-refused (nat_le 64 (length l.graph.flows)) TableFull _ three.1 in
    record {
      known = not_false (is_some (rate_at rates tariff)) two.0;
      allowed = two.1;
      space = let few = room 64 (length l.graph.flows) four.0 in omega arith;
    }

flows_opened : (l : Live) (name : NameBytes) (limit tariff : ℕ) → FlowsAreTied l.graph.flows l.buffers l.books
    → FlowsAreTied (add_flow l.graph name).flows (open_in l.buffers l.graph.next_flow limit)
    (l.books ++ new_book l.graph.next_flow tariff ∷ [])
flows_opened l name limit tariff was = record {
  buffered =
      map_last (λ (b : Buffer). b.flow) l.buffers (new_buffer l.graph.next_flow limit) (flow_numbers l.graph.flows)
      was.buffered ∙ sym (numbers-added l.graph name);
  booked =
      map_last (λ (b : Book). b.flow) l.books (new_book l.graph.next_flow tariff) (flow_numbers l.graph.flows)
      was.booked ∙ sym (numbers-added l.graph name);
  active =
      map_last (λ (e : NameBytes × FlowEntry). e.1.active) l.graph.flows (name, added_flow l.graph)
      (fillings (is_held l.books) l.buffers) was.active
      ∙ sym (map_last (is_awake (l.books ++ new_book l.graph.next_flow tariff ∷ [])) l.buffers
      (new_buffer l.graph.next_flow limit) (fillings (is_held l.books) l.buffers) as_before);
}
  where
    as_before : fillings (is_held (l.books ++ new_book l.graph.next_flow tariff ∷ [])) l.buffers
        ≡ fillings (is_held l.books) l.buffers
    as_before =
        fillings-same (is_held l.books) (is_held (l.books ++ new_book l.graph.next_flow tariff ∷ [])) l.buffers
        (each-all (λ f. is_held (l.books ++ new_book l.graph.next_flow tariff ∷ []) f ≡ is_held l.books f)
        (is_held-opened l.books l.graph.next_flow tariff) (buffer_flows l.buffers))

books_opened : {rates : List Rate} {c : Counts} {books : List Book} (f tariff : ℕ)
    → is_some (rate_at rates tariff) ≡ true → BooksAreSound rates c books
    → BooksAreSound rates (record c { events = c.events + 1 }) (books ++ new_book f tariff ∷ [])
books_opened {rates = rates} {books = books} f tariff known was = record {
  known =
      each-append (IsOnShelf rates) books (new_book f tariff ∷ []) was.known
      (each-one (IsOnShelf rates) (new_book f tariff) known);
  accounts =
      omega (arith, was.accounts, sum_by-append (λ (b : Book). b.account) books (new_book f tariff ∷ []));
}

pub sound-open_flow : {life : ℕ} {rates : List Rate} {l : Live} → Sound life rates l → l.counts.events < life
    → (name : NameBytes) (limit tariff : ℕ) → open_flow_refusal rates l name limit tariff ≡ None
    → Sound life rates (open_flow l name limit tariff)
sound-open_flow {life = life} {rates = rates} {l = l} was few name limit tariff allowed =
    let may = openable rates l name limit tariff allowed in
    let next = l.graph.next_flow in
    let fresh = rises-fresh next (flow_numbers l.graph.flows) (sound-numbered was) in
    let space : length (flow_numbers l.graph.flows) < 64 =
    omega (arith, may.space, length-map l.graph.flows (λ (e : NameBytes × FlowEntry). e.1.number)) in
    sound-with_level_queue (record {
      some = omega arith;
      counts =
          subst (λ n. CountsAreSound life (with_one_event l).counts n (torn_gone l.broken l.torn))
          (sym (packets_in-open_in l.buffers next limit)) (counts-later was.counts few);
      funding = record {
        kept = well_formed-add_flow l.graph was.funding.kept name may.allowed;
        next_ticket = omega (arith, was.funding.next_ticket);
        next_flow = omega (arith, was.funding.next_flow);
      };
      flows = flows_opened l name limit tariff was.flows;
      queue =
          subst (λ ns. QueueIsSound life (l.counts.events + 1) ns (add l.queue next)) (sym (numbers-added l.graph name))
          (queue-added next fresh space was.queue);
      buffers =
          each-append (IsSoundBuffer l.version (l.counts.events + 1)) l.buffers (new_buffer next limit ∷ [])
          (buffers-later l.version l.counts.events l.buffers was.buffers)
          (each-one (IsSoundBuffer l.version (l.counts.events + 1)) (new_buffer next limit)
          (new_buffer_sound l.version (l.counts.events + 1) next limit (sound-some_flow was)));
      books = books_opened next tariff may.known was.books;
      part = part_opened l.version l.buffers next limit l.part was.part;
      torn = record {
        named = torn_opened l.buffers l.broken next limit l.torn was.torn.named;
        unparted = was.torn.unparted;
      };
    })

-- Arrivals

with_packet_sound : (v : Version) (n : ℕ) (body : List ℕ) → IsBody v body → (b : Buffer) → IsSoundBuffer v n b
    → IsSoundBuffer v (n + 1) (with_packet body b)
with_packet_sound v n body is b was = record {
  flow = was.flow;
  given = omega (arith, length-append b.packets (body ∷ []), was.given);
  numbers = omega arith;
  payloads = each-append (IsBody v) b.packets (body ∷ []) was.payloads (each-one (IsBody v) body is);
}

is_some_last : (ps : List (List ℕ)) (body : List ℕ) → is_some_packet (ps ++ body ∷ []) ≡ true
is_some_last [] body = refl
is_some_last (p ∷ ps) body = refl

part_pushed : (v : Version) (bs : List Buffer) (g : ℕ) (body : List ℕ) (o : Option Part) → PartIsSound v bs o
    → PartIsSound v (push_in bs g body) o
part_pushed v bs g body None was = tt
part_pushed v bs g body (Some p) was = record {
  head = was.head;
  found = head_of-push_in bs g body p.flow was.head was.found;
  some = was.some;
  few = was.few;
}

torn_pushed : (bs : List Buffer) (broken : Bool) (g : ℕ) (body : List ℕ) (o : Option ℕ) → TornIsNamed bs broken o
    → TornIsNamed (push_in bs g body) broken o
torn_pushed bs broken g body None was = tt
torn_pushed bs broken g body (Some f) was = record {
  broken_is = was.broken_is;
  head = was.head;
  found = head_of-push_in bs g body f was.head was.found;
}

-- the flows after one of them was set active or not, and its buffer changed to hold a packet or not
pub flows-changed : (limit f : ℕ) (t : Bool) (change : Buffer → Buffer) {es : List (NameBytes × FlowEntry)}
    {bs : List Buffer} {books : List Book} → FlowsAreTied es bs books → Rises limit (flow_numbers es)
    → buffer_flows (change_first (is_buffer_of f) change bs) ≡ buffer_flows bs
    → ((b : Buffer) → buffer_of bs f ≡ Some b
    → (is_some_packet (change b).packets && not (is_held books (change b).flow)) ≡ t)
    → FlowsAreTied (with_activity f t es) (change_first (is_buffer_of f) change bs) books
flows-changed limit f t change {es = es} {bs = bs} {books = books} was rises same here = record {
  buffered = same ∙ (was.buffered ∙ sym (numbers-with_activity f t es));
  booked = was.booked ∙ sym (numbers-with_activity f t es);
  active =
      activities-changed limit f t (is_held books) (is_held books) change es bs
      (record { numbers = was.buffered; active = was.active }) rises (λ _ _. refl) here;
}

-- the buffer that is found is that of the flow
pub found-own : (bs : List Buffer) (f : ℕ) (b : Buffer) → buffer_of bs f ≡ Some b → b.flow ≡ f
found-own bs f b found = sym (eqb-true f b.flow (find-holds (is_buffer_of f) bs b found))

pub sound-accept : {life : ℕ} {rates : List Rate} {l : Live} → Sound life rates l → l.counts.events < life
    → (f : ℕ) (body : List ℕ) → IsBody l.version body → (b : Buffer) → buffer_of l.buffers f ≡ Some b
    → Sound life rates (accept l f body)
sound-accept {life = life} {l = l} was few f body short b found = sound-with_level_queue (record {
  some = omega arith;
  counts = record {
    events = omega (arith, few);
    accepted = omega (arith, was.counts.accepted);
    sent = omega (arith, was.counts.sent);
    balance = omega (arith, was.counts.balance, packets_in-push_in l.buffers f body b found);
  };
  funding = record {
    kept = well_formed-set_active l.graph was.funding.kept f (not (is_held l.books f));
    next_ticket = omega (arith, was.funding.next_ticket);
    next_flow = omega (arith, was.funding.next_flow);
  };
  flows =
      flows-changed l.graph.next_flow f (not (is_held l.books f)) (with_packet body) was.flows (sound-numbered was)
      (flows-push_in l.buffers f body)
      (λ b found. ap (λ some. some && not (is_held l.books b.flow)) (is_some_last b.packets body)
      ∙ ap (λ g. not (is_held l.books g)) (found-own l.buffers f b found));
  queue =
      subst (λ ns. QueueIsSound life (l.counts.events + 1) ns l.queue)
      (sym (numbers-with_activity f (not (is_held l.books f)) l.graph.flows)) (queue-later was.queue);
  buffers =
      buffers-changed l.version l.counts.events f (with_packet body) l.buffers
      (with_packet_sound l.version l.counts.events body short)
      was.buffers;
  books = record { known = was.books.known; accounts = omega (arith, was.books.accounts) };
  part = part_pushed l.version l.buffers f body l.part was.part;
  torn = record {
    named = torn_pushed l.buffers l.broken f body l.torn was.torn.named;
    unparted = was.torn.unparted;
  };
})

arrive_in_sound : (life : ℕ) (rates : List Rate) (l : Live) → Sound life rates l → l.counts.events < life
    → (f : ℕ) (body : List ℕ) → IsBody l.version body → (o : Option Buffer) → buffer_of l.buffers f ≡ o
    → Sound life rates (arrive_in l f body o).0
arrive_in_sound life rates l was few f body short None found = sound-with_one_event was few
arrive_in_sound life rates l was few f body short (Some b) found =
    cond_both (is_full b) (with_one_event l, Refused BufferFull) (accept l f body, PacketReply f b.next)
    (λ (d : Live × Reply). Sound life rates d.0) (λ _. sound-with_one_event was few)
    (λ _. sound-accept was few f body short b found)

arrive_by_sound : (life : ℕ) (rates : List Rate) (l : Live) → Sound life rates l → l.counts.events < life
    → (body : List ℕ) → IsBody l.version body → (o : Option FlowEntry) → Sound life rates (arrive_by l body o).0
arrive_by_sound life rates l was few body short None = sound-with_one_event was few
arrive_by_sound life rates l was few body short (Some e) =
    arrive_in_sound life rates l was few e.number body short (buffer_of l.buffers e.number) refl

pub sound-arrived : {life : ℕ} {rates : List Rate} {l : Live} → Sound life rates l → l.counts.events < life
    → (name : NameBytes) (body : List ℕ) → IsBody l.version body → Sound life rates (arrive_step l name body).0
sound-arrived {life = life} {rates = rates} {l = l} was few name body short =
    arrive_by_sound life rates l was few body short (flow_named l.graph name)

pub sound-empty : (version : Version) (life : ℕ) (rates : List Rate) → Sound life rates (empty_link version)
sound-empty version life rates = record {
  fresh = λ _. refl;
  counts = record { events = omega arith; accepted = omega arith; sent = omega arith; balance = refl };
  funding = record { kept = well_formed-empty; next_ticket = omega arith; next_flow = omega arith };
  flows = record { buffered = refl; booked = refl; active = refl };
  queue = queue-empty_queue life;
  level = tt;
  buffers = tt;
  books = record { known = tt; accounts = omega arith };
  part = tt;
  torn = record { named = tt; unparted = λ _. refl };
}
