-- The invariant of every link: bounds, what it has to send, and its open flows.
use Rattle.std.specs.Prelude.{◌≡◌, ◌<◌, ◌≤◌, ◌+◌, ◌-◌, ◌*◌, ◌/◌, ◌^◌, ℕ, zero, suc, Bool, true, false, List, [], ◌∷◌}
use Rattle.std.specs.Prelude.{not, ◌&&◌, length, find, filter, sum_by, slice_get, unwrap_or, Option, None, Some}
use Rattle.std.specs.Prelude.{option_map}
use Rattle.std.specs.Prelude.{option_and_then, is_some, IsSome, bytes_eq}
use Rattle.std.proofs.Common.{refl, ap, sym, ◌∙◌, subst, arith, length-drop}
use Rattle.std.proofs.lemmas.Bool.{cond_both, cond-false, eqb-true}
use Rattle.std.proofs.Math.Nat.{mul-add, mul-le-mul, mul-le-mul_left, mul-div-le}
use Rattle.std.proofs.lemmas.List.Sums.{sum_by-cons}
use Rattle.std.proofs.lemmas.Option.{same_Some, option_and_then_some, slice_get_within}
use Rattle.share_base.specs.declared.version.Version.{Version}
use Rattle.share_base.specs.declared.version.Version.TheVariants.{Two}
use Rattle.share_model.specs.declared.link.Book.{Book}
use Rattle.share_model.specs.declared.link.Part.{Part}
use Rattle.share_model.specs.declared.rates.Rate.{Rate}
use Rattle.share_model.specs.declared.funding.Holder.{Holder}
use Rattle.share_model.specs.declared.funding.Holder.TheVariants.{Nobody, Currency, Flow}
use Rattle.share_model.specs.declared.funding.Ticket.{Ticket}
use Rattle.share_model.specs.declared.funding.OpenFlow.{OpenFlow as FlowEntry}
use Rattle.share_model.specs.link.Fields.{IsBody}
use Rattle.share_model.specs.link.Tariff.{units_of, rate_at, rate_of, IsInRange, AreInRange}
use Rattle.share_model.specs.link.Frame.{Packet, FitsTariff, frame_length}
use Rattle.share_model.proofs.lemmas.link.FrameLemmas.{length-frame, header_length-some, frame_length-few}
use Rattle.share_model.specs.link.Buffers.{Buffer, is_buffer_of, buffer_of}
use Rattle.share_model.specs.link.Buffers.{head_in, head_of_buffer, head_of}
use Rattle.share_model.specs.link.Buffers.{is_busy}
use Rattle.share_model.proofs.lemmas.link.BufferLemmas.{AreTied, head_of-flow}
use Rattle.share_model.proofs.lemmas.link.BufferLemmas.{active-busy}
use Rattle.share_model.proofs.lemmas.link.BufferLemmas.{number-of_named}
use Rattle.share_model.proofs.lemmas.lists.FirstItemLemmas.{rises-fresh, rises-below}
use Rattle.share_model.specs.funding.Graph.{NameBytes, Graph, is_active_flow, act, is_active, worth_by, val, worth}
use Rattle.share_model.specs.funding.Graph.{funding, tickets, holder_is_flow, is_active_holder}
use Rattle.share_model.specs.funding.Changes.{flow_named}
use Rattle.share_model.specs.link.Live.{Live}
use Rattle.share_model.specs.link.Turns.{Sending, frame_of, sending_at, frame_in_part, sending_by, sending, rest_of}
use Rattle.share_model.specs.link.Books.{is_book_of, tariff_in, tariff_of, units_by, units_due, with_units}
use Rattle.share_model.specs.link.Books.{books_with_units, is_held}
use Rattle.share_model.specs.lists.Each.{Each}
use Rattle.share_model.specs.lists.Change.{change_first}
use Rattle.share_model.specs.lists.Rises.{Rises}
use Rattle.share_model.specs.stride.Moves.{next}
use Rattle.share_model.specs.run.Sound.{IsSoundBuffer, IsOnShelf, accounts_in, IsSoundPart, PartIsSound}
use Rattle.share_model.specs.funding.Graph.{flow_numbers}
use Rattle.share_model.specs.run.Sound.{Sound}
use Rattle.share_model.specs.lists.Rises.{has_number}
use Rattle.share_model.proofs.lemmas.lists.FirstItemLemmas.{each-find}
use Rattle.share_model.proofs.lemmas.lists.ItemSumLemmas.{sum_by-found}
use Rattle.share_model.proofs.lemmas.lists.FirstItemLemmas.{is_some-find_number}
use Rattle.share_model.proofs.lemmas.lists.RemovalLemmas.{none_from}

-- Bounds

-- the cells of a frame of at most 9017 bytes: at most six cells of 1803 units
seven_cells : (n cell q : ℕ) → cell * q ≤ n → n ≤ 9016 → 7 ≤ q → cell * (q + 1) ≤ 10818
seven_cells n cell q few short many =
    let seven : cell * 7 ≤ cell * q = mul-le-mul_left cell many in omega (arith, seven, mul-add cell q 1)

cells_below : (n cell q : ℕ) → cell * q ≤ n → n ≤ 9016 → cell ≤ 2048 → cell * (q + 1) ≤ 10818
cells_below n cell zero few short small = omega arith
cells_below n cell (suc zero) few short small = omega arith
cells_below n cell (suc (suc zero)) few short small = omega arith
cells_below n cell (suc (suc (suc zero))) few short small = omega arith
cells_below n cell (suc (suc (suc (suc zero)))) few short small = omega arith
cells_below n cell (suc (suc (suc (suc (suc zero))))) few short small = omega arith
cells_below n cell (suc (suc (suc (suc (suc (suc zero)))))) few short small = omega arith
cells_below n cell (suc (suc (suc (suc (suc (suc (suc q))))))) few short small =
    seven_cells n cell _ few short (omega arith)

-- a frame of at most 9017 bytes is charged at most 11842 units
pub units-few : (r : Rate) (n : ℕ) → IsInRange r → n ≤ 9017 → units_of r n ≤ 11842
units-few r zero range few = omega arith
units-few r (suc n) range few =
    omega (arith, cells_below n r.cell (n / r.cell) (mul-div-le n r.cell) (omega arith) range.cell)

-- a price is charged for each unit: less than 2^30
pub books_with_units-few : (price units : ℕ) → price ≤ 65535 → units ≤ 11842 → price * units < 2 ^ 30
books_with_units-few price units cheap few = let h : price * units ≤ 65535 * 11842 = mul-le-mul cheap few in omega arith

in_range_at : (rates : List Rate) (n : ℕ) → Each IsInRange rates
    → IsInRange (unwrap_or (slice_get rates n) (record { cell = 1; overhead = 0; price = 0 }))
in_range_at [] n range = record {
  some_cell = omega arith;
  cell = omega arith;
  overhead = omega arith;
  price = omega arith;
}
in_range_at (r ∷ rs) zero range = range.0
in_range_at (r ∷ rs) (suc n) range = in_range_at rs n range.1

pub rate_of-in_range : (rates : List Rate) (n : ℕ) → AreInRange rates → IsInRange (rate_of rates n)
rate_of-in_range rates zero range = record {
  some_cell = omega arith;
  cell = omega arith;
  overhead = omega arith;
  price = omega arith;
}
rate_of-in_range rates (suc n) range = in_range_at rates n range.each

units_by_few : (rates : List Rate) (n : ℕ) (o : Option Book) → AreInRange rates → n ≤ 9017
    → units_by rates n o ≤ 11842
units_by_few rates n None range few = omega arith
units_by_few rates n (Some b) range few =
    units-few (rate_of rates b.tariff) n (rate_of-in_range rates b.tariff range) few

-- an event charges a flow at most 11842 units
pub units_due-few : (rates : List Rate) (books : List Book) (f n : ℕ) → AreInRange rates → n ≤ 9017
    → units_due rates books f n ≤ 11842
units_due-few rates books f n range few = units_by_few rates n (find (is_book_of f) books) range few

-- the account grows by less than 2^30
pub with_units-few : (rates : List Rate) (units : ℕ) (b : Book) → AreInRange rates → units ≤ 11842
    → (with_units rates units b).account ≤ b.account + (2 ^ 30 - 1)
with_units-few rates units b range few =
    let r : IsInRange (rate_of rates b.tariff) = rate_of-in_range rates b.tariff range in
    let p : (rate_of rates b.tariff).price * units < 2 ^ 30 = books_with_units-few _ _ r.price few in
    omega arith

-- and so do all together
pub books_with_units-few_more : (rates : List Rate) (f units : ℕ) (books : List Book) → AreInRange rates → units ≤ 11842
    → accounts_in (books_with_units rates books f units) ≤ accounts_in books + (2 ^ 30 - 1)
unfolding change_first
books_with_units-few_more rates f units [] range few = omega arith
books_with_units-few_more rates f units (b ∷ bs) range few =
    cond_both (is_book_of f b) (with_units rates units b ∷ bs) (b ∷ books_with_units rates bs f units)
    (λ cs. accounts_in cs ≤ accounts_in (b ∷ bs) + (2 ^ 30 - 1))
    (λ _. omega (
      arith,
      before,
      sum_by-cons (λ (b : Book). b.account) (with_units rates units b) bs,
      with_units-few rates units b range few,
    ))
    (λ _. omega (
      arith,
      before,
      sum_by-cons (λ (b : Book). b.account) b (books_with_units rates bs f units),
      books_with_units-few_more rates f units bs range few,
    ))
  where
    before : accounts_in (b ∷ bs) ≡ b.account + accounts_in bs
    before = sum_by-cons (λ (b : Book). b.account) b bs

-- The tickets of a flow that is not active

holder_idle : (g : Graph) (f : ℕ) (a : Ticket → Bool) (h : Holder) → holder_is_flow f h ≡ true
    → is_active_flow g f ≡ false → is_active_holder g a h ≡ false
holder_idle g f a Nobody held idle = refl
holder_idle g f a (Currency c) held idle = cc
holder_idle g f a (Flow f') held idle = ap (is_active_flow g) (sym (eqb-true f f' held)) ∙ idle

ticket_idle : (g : Graph) (f : ℕ) (t : Ticket) → holder_is_flow f t.holder ≡ true → is_active_flow g f ≡ false
    → is_active g t ≡ false
unfolding is_active act
ticket_idle g f t held idle = holder_idle g f (act g 8) t.holder held idle

worth_idle : (g : Graph) (value : NameBytes → ℕ) (t : Ticket) → is_active g t ≡ false → worth_by g value t ≡ 0
unfolding worth_by
worth_idle g value t idle = cond-false (is_active g t) _ 0 idle

sum_none_add : (n : ℕ) → n ≡ 0 → 0 + n ≡ 0
sum_none_add n none = omega arith

sum_none : (f : ℕ) (g : Graph) (value : NameBytes → ℕ) (ts : List Ticket) → is_active_flow g f ≡ false
    → sum_by (worth_by g value) (filter (λ t. holder_is_flow f t.holder) ts) ≡ 0
sum_none f g value [] idle = refl
sum_none f g value (t ∷ ts) idle =
    cond_both (holder_is_flow f t.holder) (t ∷ filter (λ t. holder_is_flow f t.holder) ts)
    (filter (λ t. holder_is_flow f t.holder) ts) (λ us. sum_by (worth_by g value) us ≡ 0)
    (λ held. sum_by-cons (worth_by g value) t (filter (λ t. holder_is_flow f t.holder) ts)
    ∙ (ap (λ n. n + sum_by (worth_by g value) (filter (λ t. holder_is_flow f t.holder) ts))
    (worth_idle g value t (ticket_idle g f t held idle)) ∙ sum_none_add _ (sum_none f g value ts idle)))
    (λ _. sum_none f g value ts idle)

-- a flow that is not active has no tickets
pub tickets-idle : (g : Graph) (f : ℕ) → is_active_flow g f ≡ false → tickets g f ≡ 0
unfolding tickets worth funding
tickets-idle g f idle = rw (sum_none f g (val g 9) g.tickets idle) refl

-- The frame that a link has to send

-- the frame is that of the head packet of its flow, under the tariff of that flow, and not all of it is out
pub record IsSending (l : Live) (s : Sending) : Type 0 where
  pub head : head_of l.buffers s.head.flow ≡ Some s.head
  pub is : s ≡ sending_at l s.out s.head
  pub few : s.out < length (frame_of s)

length-frame_of : (l : Live) (out : ℕ) (h : Packet)
    → length (frame_of (sending_at l out h)) ≡ frame_length l.version h
length-frame_of l out h = length-frame l.version (tariff_of l.books h.flow) h

sending_parts : (l : Live) (f out : ℕ) (h : Packet) → head_of l.buffers f ≡ Some h → out < frame_length l.version h
    → IsSending l (sending_at l out h)
sending_parts l f out h found few = record {
  head = ap (head_of l.buffers) (head_of-flow l.buffers f h found) ∙ found;
  is = refl;
  few = omega (arith, few, length-frame_of l out h);
}

sending_from : (l : Live) (f out : ℕ) (o : Option Packet) (s : Sending) → head_of l.buffers f ≡ o
    → option_map (sending_at l out) o ≡ Some s → ((h : Packet) → o ≡ Some h → out < frame_length l.version h)
    → IsSending l s
sending_from l f out None s is found few = cc
sending_from l f out (Some h) s is found few =
    subst (IsSending l) (same_Some (sending_at l out h) s found) (sending_parts l f out h is (few h refl))

some_out : (version : Version) (h : Packet) → 0 < frame_length version h
some_out version h = omega (arith, header_length-some version)

part_few : (l : Live) (p : Part) → IsSoundPart l.version l.buffers p → (h : Packet) → head_of l.buffers p.flow ≡ Some h
    → p.out < frame_length l.version h
part_few l p part h found =
    subst (λ h. p.out < frame_length l.version h) (same_Some part.head h (sym part.found ∙ found)) part.few

sending_by_next : (l : Live) (o : Option ℕ) (s : Sending)
    → option_map (sending_at l 0) (option_and_then (head_of l.buffers) o) ≡ Some s → IsSending l s
sending_by_next l None s is = cc
sending_by_next l (Some f) s is =
    sending_from l f 0 (head_of l.buffers f) s refl is (λ h _. some_out l.version h)

-- the frame in part is of such a flow
pub part-sending : (l : Live) (o : Option Part) (s : Sending) → PartIsSound l.version l.buffers o
    → frame_in_part l o ≡ Some s → IsSending l s
part-sending l None s part is = cc
part-sending l (Some p) s part is =
    sending_from l p.flow p.out (head_of l.buffers p.flow) s refl is (part_few l p part)

sending_by_part : (l : Live) (o : Option Part) (s : Sending) → PartIsSound l.version l.buffers o
    → sending_by l o ≡ Some s → IsSending l s
sending_by_part l None s part is = sending_by_next l (next l.queue.clients) s is
sending_by_part l (Some p) s part is = part-sending l (Some p) s part is

pub sending-is : {life : ℕ} {rates : List Rate} {l : Live} {s : Sending} → Sound life rates l → sending l ≡ Some s
    → IsSending l s
unfolding sending
sending-is {l = l} {s = s} sound is = sending_by_part l l.part s sound.part is

-- the packet that is sent is the head of its flow's buffer
pub sending-head : {life : ℕ} {rates : List Rate} {l : Live} {s : Sending} → Sound life rates l → sending l ≡ Some s
    → head_of l.buffers s.head.flow ≡ Some s.head
sending-head sound is = (sending-is sound is).head

-- its frame is of the link's version, and of its flow's tariff
pub sending-version : {life : ℕ} {rates : List Rate} {l : Live} {s : Sending} → Sound life rates l
    → sending l ≡ Some s → s.version ≡ l.version
sending-version sound is = ap (λ (s : Sending). s.version) (sending-is sound is).is

pub sending-tariff : {life : ℕ} {rates : List Rate} {l : Live} {s : Sending} → Sound life rates l → sending l ≡ Some s
    → s.tariff ≡ tariff_of l.books s.head.flow
sending-tariff sound is = ap (λ (s : Sending). s.tariff) (sending-is sound is).is

-- not all bytes of its frame are out
pub sending-few : {life : ℕ} {rates : List Rate} {l : Live} {s : Sending} → Sound life rates l → sending l ≡ Some s
    → s.out < length (frame_of s)
sending-few sound is = (sending-is sound is).few

payload_in : (version : Version) (b : Buffer) (ps : List (List ℕ)) (h : Packet) → Each (IsBody version) ps
    → head_in b ps ≡ Some h → IsBody version h.payload
payload_in version b [] h all is = cc
payload_in version b (p ∷ ps) h all is =
    subst (IsBody version)
    (ap (λ (o : Packet). o.payload)
    (same_Some (record { flow = b.flow; seq = b.next - length (p ∷ ps); payload = p }) h is)) all.0

payload_by : (version : Version) (events : ℕ) (bs : List Buffer) (f : ℕ) (h : Packet)
    → Each (IsSoundBuffer version events) bs → (o : Option Buffer)
    → buffer_of bs f ≡ o → option_and_then head_of_buffer o ≡ Some h → IsBody version h.payload
payload_by version events bs f h all None found is = cc
payload_by version events bs f h all (Some b) found is =
    payload_in version b b.packets h
    (each-find (IsSoundBuffer version events) (is_buffer_of f) bs b all found).payloads is

-- a frame of the link's version carries a head packet's payload
pub head-body : {life : ℕ} {rates : List Rate} {l : Live} {h : Packet} → Sound life rates l → (f : ℕ)
    → head_of l.buffers f ≡ Some h → IsBody l.version h.payload
head-body {l = l} {h = h} sound f is =
    payload_by l.version l.counts.events l.buffers f h sound.buffers (buffer_of l.buffers f) refl is

-- the length of the frame in bytes
pub sending-length : {life : ℕ} {rates : List Rate} {l : Live} {s : Sending} → Sound life rates l → sending l ≡ Some s
    → length (frame_of s) ≡ frame_length l.version s.head
sending-length {s = s} sound is =
    length-frame s.version s.tariff s.head ∙ ap (λ v. frame_length v s.head) (sending-version sound is)

-- at most 9017
pub sending-short : {life : ℕ} {rates : List Rate} {l : Live} {s : Sending} → Sound life rates l → sending l ≡ Some s
    → length (frame_of s) ≤ 9017
sending-short {l = l} {s = s} sound is =
    let body = head-body sound s.head.flow (sending-head sound is) in
    omega (arith, sending-length sound is, frame_length-few l.version s.head body)

-- no more bytes are left than a frame has
pub rest-short : {life : ℕ} {rates : List Rate} {l : Live} {s : Sending} → Sound life rates l → sending l ≡ Some s
    → length (rest_of s) + s.out ≡ length (frame_of s)
rest-short {s = s} sound is = omega (arith, sending-few sound is, length-drop s.out (frame_of s))

-- Open flows, their buffers and their books

pub sound-tied : {life : ℕ} {rates : List Rate} {l : Live} → Sound life rates l
    → AreTied (is_held l.books) l.graph.flows l.buffers
sound-tied sound = record { numbers = sound.flows.buffered; active = sound.flows.active }

-- flows are numbered from 1, in order of opening
pub sound-numbered : {life : ℕ} {rates : List Rate} {l : Live} → Sound life rates l
    → Rises l.graph.next_flow (flow_numbers l.graph.flows)
unfolding Rises
sound-numbered sound = sound.funding.kept.numbered.flows.2

pub sound-some_flow : {life : ℕ} {rates : List Rate} {l : Live} → Sound life rates l → 1 ≤ l.graph.next_flow
unfolding Rises
sound-some_flow sound = let some = sound.funding.kept.numbered.flows.0 in omega arith

-- a flow with a name has a buffer
pub flow-buffered : {life : ℕ} {rates : List Rate} {l : Live} {e : FlowEntry} → Sound life rates l → (name : NameBytes)
    → flow_named l.graph name ≡ Some e → IsSome (buffer_of l.buffers e.number)
flow-buffered {l = l} {e = e} sound name found =
    is_some-find_number (λ (b : Buffer). b.flow) e.number l.buffers
    ∙ (ap (has_number e.number) sound.flows.buffered ∙ number-of_named (bytes_eq name) l.graph.flows e found)

-- and is open
pub head-stands : {life : ℕ} {rates : List Rate} {l : Live} {h : Packet} → Sound life rates l → (f : ℕ)
    → head_of l.buffers f ≡ Some h → has_number f (flow_numbers l.graph.flows) ≡ true
head-stands {l = l} {h = h} sound f is =
    sym (ap (has_number f) sound.flows.buffered)
    ∙ (sym (is_some-find_number (λ (b : Buffer). b.flow) f l.buffers)
    ∙ option_and_then_some head_of_buffer (buffer_of l.buffers f) h is (λ b found _. ap is_some found))

-- under a number that was given
pub head-given : {life : ℕ} {rates : List Rate} {l : Live} {h : Packet} → Sound life rates l → (f : ℕ)
    → head_of l.buffers f ≡ Some h → h.flow < l.graph.next_flow
head-given {l = l} {h = h} sound f is = rw (sym (head_of-flow l.buffers f h is)) at
    (rises-below l.graph.next_flow f (flow_numbers l.graph.flows) (sound-numbered sound) (head-stands sound f is))

-- the number of the next flow is no buffer's, and no book's
pub next-unbuffered : {life : ℕ} {rates : List Rate} {l : Live} → Sound life rates l
    → buffer_of l.buffers l.graph.next_flow ≡ None
next-unbuffered {l = l} sound =
    none_from (buffer_of l.buffers l.graph.next_flow)
    (is_some-find_number (λ (b : Buffer). b.flow) l.graph.next_flow l.buffers
    ∙ (ap (has_number l.graph.next_flow) sound.flows.buffered
    ∙ rises-fresh l.graph.next_flow (flow_numbers l.graph.flows) (sound-numbered sound)))

-- a book's tariff is on the shelf
pub book-known : {life : ℕ} {rates : List Rate} {l : Live} {b : Book} → Sound life rates l → (f : ℕ)
    → find (is_book_of f) l.books ≡ Some b → IsOnShelf rates b
book-known {rates = rates} {l = l} {b = b} sound f found =
    each-find (IsOnShelf rates) (is_book_of f) l.books b sound.books.known found

shelf_within : (rates : List Rate) (n : ℕ) (o : Option Rate) → slice_get rates n ≡ o → is_some o ≡ true
    → n < length rates
shelf_within rates n None found some = cc
shelf_within rates n (Some r) found some = slice_get_within rates n r found

-- whose numbers are 1 to 8
shelf_number : (rates : List Rate) (tariff : ℕ) → AreInRange rates → is_some (rate_at rates tariff) ≡ true
    → FitsTariff Two tariff
shelf_number rates zero range known = cc
shelf_number rates (suc n) range known =
    (omega arith, omega (arith, shelf_within rates n (slice_get rates n) refl known, range.few))

tariff_known : {life : ℕ} {rates : List Rate} {l : Live} → AreInRange rates → Sound life rates l → (f : ℕ)
    → (o : Option Book) → find (is_book_of f) l.books ≡ o → is_some o ≡ true → FitsTariff Two (tariff_in o)
tariff_known range sound f None found there = cc
tariff_known {rates = rates} range sound f (Some b) found there =
    shelf_number rates b.tariff range (book-known sound f found)

-- so is the tariff of an open flow, and that of a frame

pub tariff-shelf : {life : ℕ} {rates : List Rate} {l : Live} → AreInRange rates → Sound life rates l → (f : ℕ)
    → is_some (find (is_book_of f) l.books) ≡ true → FitsTariff Two (tariff_of l.books f)
tariff-shelf {l = l} range sound f there = tariff_known range sound f (find (is_book_of f) l.books) refl there

pub frame-shelf : {life : ℕ} {rates : List Rate} {l : Live} {s : Sending} → AreInRange rates → Sound life rates l
    → IsSending l s → FitsTariff Two s.tariff
frame-shelf {l = l} {s = s} range sound own =
    let f = s.head.flow in
    let booked : is_some (find (is_book_of f) l.books) ≡ true =
    is_some-find_number (λ (b : Book). b.flow) f l.books
    ∙ (ap (has_number f) sound.flows.booked ∙ head-stands sound f own.head) in
    subst (FitsTariff Two) (sym (ap (λ (s : Sending). s.tariff) own.is)) (tariff-shelf range sound f booked)

pub sending-shelf : {life : ℕ} {rates : List Rate} {l : Live} {s : Sending} → AreInRange rates → Sound life rates l
    → sending l ≡ Some s → FitsTariff Two s.tariff
sending-shelf range sound is = frame-shelf range sound (sending-is sound is)

-- and its account is small
pub book-account : {life : ℕ} {rates : List Rate} {l : Live} {b : Book} → Sound life rates l → (f : ℕ)
    → find (is_book_of f) l.books ≡ Some b → b.account ≤ l.counts.events * (2 ^ 30 - 1)
book-account {l = l} {b = b} sound f found =
    omega (arith, sound.books.accounts, sum_by-found (λ (b : Book). b.account) (is_book_of f) b l.books found)

-- a flow is active if and only if its buffer holds a packet and it is not held
pub flow-active : {life : ℕ} {rates : List Rate} {l : Live} → Sound life rates l → (f : ℕ)
    → is_active_flow l.graph f ≡ (is_busy l.buffers f && not (is_held l.books f))
flow-active {l = l} sound f =
    active-busy (is_held l.books) l.graph.next_flow f l.graph.flows l.buffers (sound-tied sound) (sound-numbered sound)
