-- One packet that is carried: what is due after it is the rest of what was due before.
use Rattle.std.specs.Prelude.{◌≡◌, ◌<◌, ◌+◌, ◌-◌, ℕ, zero, suc, Bool, true, false, not, List, [], ◌∷◌, ◌++◌}
use Rattle.std.specs.Prelude.{length, map, take, drop, min, nat_le, nat_lt, bytes_eq, Option, None, Some, option_map}
use Rattle.std.specs.Prelude.{if◌then◌else◌, option_and_then}
use Rattle.std.specs.List.{fold}
use Rattle.std.specs.Map.{lookup}
use Rattle.std.proofs.Common.{refl, ap, sym, ◌∙◌, subst, arith, length-append, append_assoc}
use Rattle.std.proofs.lemmas.Bool.{cond_both, cond-true, cond-false, eqb-true}
use Rattle.std.proofs.lemmas.Bool.Decides.{nat_tests}
use Rattle.std.proofs.lemmas.List.{append-nil, length-map, length-take}
use Rattle.std.proofs.lemmas.Option.{same_Some}
use Rattle.share_base.specs.declared.command.Event.{Event}
use Rattle.share_base.specs.declared.command.Reply.{Reply}
use Rattle.share_core.specs.Room.{has_place, has_room_by, has_room}
use Rattle.share_model.specs.declared.funding.OpenFlow.{OpenFlow}
use Rattle.share_model.specs.funding.Changes.{flow_named, flow_number, is_open_as, active_as, with_activity}
use Rattle.share_model.specs.funding.Graph.{NameBytes}
use Rattle.share_model.specs.link.Arrivals.{accept}
use Rattle.share_model.specs.link.Books.{is_held}
use Rattle.share_model.specs.link.Buffers.{Buffer, buffer_of, is_buffer_of, push_in, pop_in, with_packet}
use Rattle.share_model.specs.link.Buffers.{without_head, head_in, head_of_buffer, head_of, count_by, count_in}
use Rattle.share_model.specs.link.Calls.{is_spent}
use Rattle.share_model.specs.link.Frame.{Packet}
use Rattle.share_model.specs.link.View.{LinkView}
use Rattle.share_model.specs.link.Live.{Live}
use Rattle.share_model.specs.lists.Change.{change_first}
use Rattle.share_model.proofs.lemmas.lists.FirstItemLemmas.{find-change_first}
use Rattle.share_book.specs.Audited.{Audited, after_event, lacks_text}
use Rattle.share_book.specs.Carry.{packets_by, left_for, places_by, places_for, packet_event}
use Rattle.share_book.specs.Closed.{ClosedView}
use Rattle.share_gateway.specs.PlanChanges.{tenant_flow}
use Rattle.share_book.specs.Carry.{number_in, buffer_by}
use Rattle.share_book.specs.Carry.{due_for, fitting, carried_for, without_first, IsCarried, carry_tenant}
use Rattle.share_book.proofs.TakeLemmas.{accept-is, named_number}
use Rattle.share_book.specs.Texts.{line_in, longest_line, text_room}
use Rattle.share_book.specs.declared.book_text.TextKind.{TextKind}

-- ---- Names and numbers of flows whose activity changes

by_number : (t : Bool) (x y : OpenFlow) (o p : Option OpenFlow) → x.number ≡ y.number → number_in o ≡ number_in p
    → number_in (if t then Some x else o) ≡ number_in (if t then Some y else p)
by_number true x y o p same rest = ap Some same
by_number false x y o p same rest = rest

number_kept : (name : NameBytes) (f : ℕ) (b : Bool) (es : List (NameBytes × OpenFlow))
    → number_in (lookup (bytes_eq name) (with_activity f b es)) ≡ number_in (lookup (bytes_eq name) es)
unfolding change_first
number_kept name f b [] = refl
number_kept name f b (e ∷ es) =
    cond_both (is_open_as f e) (active_as b e ∷ es) (e ∷ with_activity f b es)
    (λ (after : List (NameBytes × OpenFlow)).
    number_in (lookup (bytes_eq name) after) ≡ number_in (lookup (bytes_eq name) (e ∷ es)))
    (λ _. by_number (bytes_eq name e.0) (active_as b e).1 e.1 (lookup (bytes_eq name) es) (lookup (bytes_eq name) es)
    refl
    refl)
    (λ _. by_number (bytes_eq name e.0) e.1 e.1 (lookup (bytes_eq name) (with_activity f b es))
    (lookup (bytes_eq name) es) refl (number_kept name f b es))

-- ---- The buffer of a flow

pub pushed : (bs : List Buffer) (f : ℕ) (p : List ℕ)
    → buffer_of (push_in bs f p) f ≡ option_map (with_packet p) (buffer_of bs f)
pushed bs f p = find-change_first (is_buffer_of f) (with_packet p) (λ b own. own) bs

pub popped : (bs : List Buffer) (f : ℕ) → buffer_of (pop_in bs f) f ≡ option_map without_head (buffer_of bs f)
popped bs f = find-change_first (is_buffer_of f) without_head (λ b own. own) bs

places_more : (limit : ℕ) (ps : List (List ℕ)) (p : List ℕ) → not (nat_le limit (length ps)) ≡ true
    → limit - length ps ≡ suc (limit - length (ps ++ p ∷ []))
places_more limit ps p free =
    let long = length-append ps (p ∷ []) in
    let few : length ps < limit = grind (arith, nat_tests) in omega (arith, long, few)

places_pushed : (p : List ℕ) (o : Option Buffer) → has_place o ≡ true
    → places_by o ≡ suc (places_by (option_map (with_packet p) o))
places_pushed p None free = cc
places_pushed p (Some b) free = places_more b.limit b.packets p free

packets_popped : (o : Option Buffer) → packets_by (option_map without_head o) ≡ drop 1 (packets_by o)
packets_popped None = refl
packets_popped (Some b) = refl

places_push : (bs : List Buffer) (o : Option OpenFlow) (p : List ℕ) → has_room_by bs o ≡ true
    → places_by (buffer_by bs (number_in o)) ≡ suc (places_by (buffer_by (push_in bs (flow_number o) p) (number_in o)))
places_push bs None p free = cc
places_push bs (Some e) p free =
    places_pushed p (buffer_of bs e.number) free ∙ ap (λ o. suc (places_by o)) (sym (pushed bs e.number p))

-- one place fewer is left for a tenant after a packet of it
pub places_after : (l : Live) (name : NameBytes) (p : List ℕ) → has_room l name ≡ true
    → places_for l name ≡ suc (places_for (accept l (named_number l name) p) name)
places_after l name p free =
    places_push l.buffers (flow_named l.graph name) p free
    ∙ ap (λ o. suc (places_by (buffer_by (push_in l.buffers (named_number l name) p) o)))
    (sym (number_kept name (named_number l name) (not (is_held l.books (named_number l name))) l.graph.flows))

-- ---- One packet

-- after a packet was carried
abbrev pub popped_from : ClosedView → NameBytes → ClosedView
popped_from c name = record c { buffers = pop_in c.buffers (tenant_flow c.plan name) }

pub left_after : (c : ClosedView) (name : NameBytes) → left_for (popped_from c name) name ≡ drop 1 (left_for c name)
left_after c name =
    ap packets_by (popped c.buffers (tenant_flow c.plan name))
    ∙ packets_popped (buffer_of c.buffers (tenant_flow c.plan name))

due_more : (name : NameBytes) (m n : ℕ) (p : List ℕ) (left after : List (List ℕ)) → m ≡ suc n → left ≡ p ∷ after
    → map (packet_event name) (take m left) ≡ packet_event name p ∷ map (packet_event name) (take n after)
due_more name m n p left after places is =
    ap (λ m. map (packet_event name) (take m left)) places ∙ ap (λ left. map (packet_event name) (take (suc n) left)) is

module _ (a : Audited) (c : ClosedView) (name : NameBytes) (p : List ℕ) (free : has_room a.link.live name ≡ true)
    (head : left_for c name ≡ p ∷ drop 1 (left_for c name)) where
  accepted : (after_event a (packet_event name p)).link.live ≡ accept a.link.live (named_number a.link.live name) p
  accepted = ap (λ (d : Live × Reply). d.0) (accept-is a.link.live name p free)

  -- the packets that are due after a packet are the rest of those that were due
  pub due-after : due_for a c name
      ≡ packet_event name p ∷ due_for (after_event a (packet_event name p)) (popped_from c name) name
  due-after =
      due_more name (places_for a.link.live name)
      (places_for (after_event a (packet_event name p)).link.live name) p (left_for c name)
      (left_for (popped_from c name) name)
      (places_after a.link.live name p free ∙ ap (λ l. suc (places_for l name)) (sym accepted))
      (head ∙ ap (λ rest. p ∷ rest) (sym (left_after c name)))

  carry_more : (life left : ℕ) (due : List Event) → life ≡ suc left → lacks_text a ≡ false
      → fitting a.kind (text_room a.text) (take life (packet_event name p ∷ due))
      ≡ packet_event name p
      ∷ fitting a.kind (text_room a.text - length (line_in a.kind (packet_event name p))) (take left due)
  carry_more life left due one text =
      ap (λ n. fitting a.kind (text_room a.text) (take n (packet_event name p ∷ due))) one
      ∙ cond-false (nat_lt (text_room a.text) (longest_line a.kind)) _ _ text

  room_after : text_room a.text - length (line_in a.kind (packet_event name p))
      ≡ text_room (after_event a (packet_event name p)).text
  room_after =
      let long = length-append a.text.bytes (line_in a.kind (packet_event name p)) in omega (arith, long)

  events_after : a.link.live.counts.events < a.link.life
      → a.link.life - a.link.live.counts.events
      ≡ suc (a.link.life - (after_event a (packet_event name p)).link.live.counts.events)
  events_after below =
      let one : (after_event a (packet_event name p)).link.live.counts.events ≡ a.link.live.counts.events + 1 =
      ap (λ (l : Live). l.counts.events) accepted in
      omega (arith, below, one)

  pub carried-after : a.link.live.counts.events < a.link.life → lacks_text a ≡ false
      → carried_for a c name
      ≡ packet_event name p ∷ carried_for (after_event a (packet_event name p)) (popped_from c name) name
  carried-after below text =
      ap (λ due. fitting a.kind (text_room a.text) (take (a.link.life - a.link.live.counts.events) due)) due-after
      ∙ carry_more (a.link.life - a.link.live.counts.events)
      (a.link.life - (after_event a (packet_event name p)).link.live.counts.events)
      (due_for (after_event a (packet_event name p)) (popped_from c name) name) (events_after below) text
      ∙ ap (λ room. packet_event name p ∷ fitting a.kind room
      (take (a.link.life - (after_event a (packet_event name p)).link.live.counts.events)
      (due_for (after_event a (packet_event name p)) (popped_from c name) name))) room_after

-- ---- The packets of a tenant, one after the other

head_list : (b : Buffer) (ps : List (List ℕ)) (p : List ℕ)
    → option_map (λ (h : Packet). h.payload) (head_in b ps) ≡ Some p → ps ≡ p ∷ drop 1 ps
head_list b [] p is = cc
head_list b (q ∷ ps) p is = ap (λ q. q ∷ ps) (same_Some q p is)

pub head_packets : (o : Option Buffer) (p : List ℕ)
    → option_map (λ (h : Packet). h.payload) (option_and_then head_of_buffer o) ≡ Some p
    → packets_by o ≡ p ∷ drop 1 (packets_by o)
head_packets None p is = cc
head_packets (Some b) p is = head_list b b.packets p is

-- the payload of the head packet is the first that is left
pub head-left : (bs : List Buffer) (f : ℕ) (p : List ℕ) → option_map (λ (h : Packet). h.payload) (head_of bs f) ≡ Some p
    → packets_by (buffer_of bs f) ≡ p ∷ drop 1 (packets_by (buffer_of bs f))
head-left bs f p is = head_packets (buffer_of bs f) p is

none_list : (b : Buffer) (ps : List (List ℕ)) → head_in b ps ≡ None → length ps ≡ 0
none_list b [] none = refl
none_list b (q ∷ ps) none = cc

none_packets : (o : Option Buffer) → option_and_then head_of_buffer o ≡ None → count_by o ≡ 0
none_packets None none = refl
none_packets (Some b) none = none_list b b.packets none

pub head-none : (bs : List Buffer) (f : ℕ) → head_of bs f ≡ None → count_in bs f ≡ 0
head-none bs f none = none_packets (buffer_of bs f) none

pub fold_last : {A B : Type 0} (f : B → A → B) (b : B) (xs : List A) (x : A)
    → fold f b (xs ++ x ∷ []) ≡ f (fold f b xs) x
fold_last f b [] x = refl
fold_last f b (y ∷ ys) x = fold_last f (f b y) ys x

without_last : (f n : ℕ) (bs : List Buffer) → without_first f (suc n) bs ≡ pop_in (without_first f n bs) f
without_last f zero bs = refl
without_last f (suc n) bs = without_last f n (pop_in bs f)

take_none : {A : Type 0} (n : ℕ) → take {A = A} n [] ≡ []
take_none zero = refl
take_none (suc n) = refl

none_carried : (a : Audited) (c : ClosedView) (name : NameBytes) → due_for a c name ≡ [] → carried_for a c name ≡ []
none_carried a c name none =
    ap (fitting a.kind (text_room a.text))
    (ap (take (a.link.life - a.link.live.counts.events)) none
    ∙ take_none (a.link.life - a.link.live.counts.events))

-- no event is left, or the text has no room
pub spent-carried : (a : Audited) (c : ClosedView) (name : NameBytes) → a.link.live.counts.events ≡ a.link.life
    → carried_for a c name ≡ []
spent-carried a c name spent =
    let none : a.link.life - a.link.live.counts.events ≡ 0 = omega (arith, spent) in
    ap (λ n. fitting a.kind (text_room a.text) (take n (due_for a c name))) none

fitting_none : (kind : TextKind) (room : ℕ) (es : List Event) → nat_lt room (longest_line kind) ≡ true
    → fitting kind room es ≡ []
fitting_none kind room [] lacks = refl
fitting_none kind room (e ∷ es) lacks = cond-true (nat_lt room (longest_line kind)) _ _ lacks

pub textless-carried : (a : Audited) (c : ClosedView) (name : NameBytes) → lacks_text a ≡ true
    → carried_for a c name ≡ []
textless-carried a c name lacks =
    fitting_none a.kind (text_room a.text) (take (a.link.life - a.link.live.counts.events) (due_for a c name)) lacks

-- a packet that waits is due if there is room
pub count_packets : (o : Option Buffer) → count_by o ≡ length (packets_by o)
count_packets None = refl
count_packets (Some b) = refl

pub due-length : (a : Audited) (c : ClosedView) (name : NameBytes)
    → length (due_for a c name) ≡ min (places_for a.link.live name) (count_in c.buffers (tenant_flow c.plan name))
due-length a c name =
    length-map (take (places_for a.link.live name) (left_for c name)) (packet_event name)
    ∙ length-take (places_for a.link.live name) (left_for c name)
    ∙ ap (min (places_for a.link.live name))
    (sym (count_packets (buffer_of c.buffers (tenant_flow c.plan name))))

places_some : (o : Option Buffer) → has_place o ≡ true → 0 < places_by o
places_some None free = cc
places_some (Some b) free = grind (arith, nat_tests)

places_none : (o : Option Buffer) → has_place o ≡ false → places_by o ≡ 0
places_none None free = refl
places_none (Some b) free = grind (arith, nat_tests)

pub room_by : (bs : List Buffer) (o : Option OpenFlow) → has_room_by bs o ≡ has_place (buffer_by bs (number_in o))
room_by bs None = refl
room_by bs (Some e) = refl

pub room-places : (l : Live) (name : NameBytes) → has_room l name ≡ true → 0 < places_for l name
room-places l name free =
    places_some (buffer_by l.buffers (number_in (flow_named l.graph name)))
    (sym (room_by l.buffers (flow_named l.graph name)) ∙ free)

pub full-places : (l : Live) (name : NameBytes) → has_room l name ≡ false → places_for l name ≡ 0
full-places l name full =
    places_none (buffer_by l.buffers (number_in (flow_named l.graph name)))
    (sym (room_by l.buffers (flow_named l.graph name)) ∙ full)

-- nothing is due
no_events : (es : List Event) → length es ≡ 0 → es ≡ []
no_events [] none = refl
no_events (e ∷ es) none = absurd (omega (arith, none))

pub due-full : (a : Audited) (c : ClosedView) (name : NameBytes) → has_room a.link.live name ≡ false
    → due_for a c name ≡ []
due-full a c name full =
    no_events (due_for a c name) (omega (arith, due-length a c name, full-places a.link.live name full))

pub due-empty : (a : Audited) (c : ClosedView) (name : NameBytes) → count_in c.buffers (tenant_flow c.plan name) ≡ 0
    → due_for a c name ≡ []
due-empty a c name none = no_events (due_for a c name) (omega (arith, due-length a c name, none))

-- something is
pub due-some : (a : Audited) (c : ClosedView) (name : NameBytes) → has_room a.link.live name ≡ true
    → 0 < count_in c.buffers (tenant_flow c.plan name) → 0 < length (due_for a c name)
due-some a c name free some = omega (arith, due-length a c name, room-places a.link.live name free, some)

-- these events were made, and what is due and will be carried is the rest
pub record IsPartCarried (first : Audited) (before : ClosedView) (name : NameBytes) (a : Audited)
    (c : ClosedView) : Type 0
  where
    pub gone : List Event
    pub due : due_for first before name ≡ gone ++ due_for a c name
    pub carried : carried_for first before name ≡ gone ++ carried_for a c name
    pub book : a ≡ fold after_event first gone
    pub closed : c
        ≡ record before { buffers = without_first (tenant_flow before.plan name) (length gone) before.buffers }

pub part-none : (a : Audited) (c : ClosedView) (name : NameBytes) → IsPartCarried a c name a c
part-none a c name = record { gone = []; due = refl; carried = refl; book = refl; closed = refl }

rest_more : (all gone rest after : List Event) (e : Event) → all ≡ gone ++ rest → rest ≡ e ∷ after
    → all ≡ (gone ++ e ∷ []) ++ after
rest_more all gone rest after e is more =
    is ∙ ap (λ rest. gone ++ rest) more ∙ sym (append_assoc gone (e ∷ []) after)

length_last : {A : Type 0} (xs : List A) (x : A) → length (xs ++ x ∷ []) ≡ suc (length xs)
length_last xs x = omega (arith, length-append xs (x ∷ []))

module _ (first : Audited) (before : ClosedView) (name : NameBytes) (a : Audited) (c : ClosedView)
    (was : IsPartCarried first before name a c) where
  closed_more : (e : Event)
      → popped_from c name
      ≡ record before {
        buffers = without_first (tenant_flow before.plan name) (length (was.gone ++ e ∷ [])) before.buffers;
      }
  closed_more e =
      ap (λ (c : ClosedView). popped_from c name) was.closed
      ∙ ap (λ bs. record before { buffers = bs })
      (sym (ap (λ n. without_first (tenant_flow before.plan name) n before.buffers) (length_last was.gone e)
      ∙ without_last (tenant_flow before.plan name) (length was.gone) before.buffers))

  pub part-more : (new : Audited) (after : ClosedView) → has_room a.link.live name ≡ true
      → a.link.live.counts.events < a.link.life → lacks_text a ≡ false → IsCarried a c name new after
      → IsPartCarried first before name new after
  part-more new after free below text did =
      subst (λ c. IsPartCarried first before name new c) (sym did.closed)
      (subst (λ a. IsPartCarried first before name a (popped_from c name)) (sym did.book)
      (record {
        gone = was.gone ++ packet_event name did.payload ∷ [];
        due =
            rest_more (due_for first before name) was.gone (due_for a c name)
            (due_for (after_event a (packet_event name did.payload)) (popped_from c name) name)
            (packet_event name did.payload) was.due (due-after a c name did.payload free did.head);
        carried =
            rest_more (carried_for first before name) was.gone (carried_for a c name)
            (carried_for (after_event a (packet_event name did.payload)) (popped_from c name) name)
            (packet_event name did.payload) was.carried
            (carried-after a c name did.payload free did.head below text);
        book =
            ap (λ a. after_event a (packet_event name did.payload)) was.book
            ∙ sym (fold_last after_event first was.gone (packet_event name did.payload));
        closed = closed_more (packet_event name did.payload);
      }))

  -- nothing more is carried
  part_end : carried_for a c name ≡ [] → (stopped : Bool)
      → nat_lt (length was.gone) (length (was.gone ++ due_for a c name)) ≡ stopped
      → carry_tenant first before name ≡ record { book = a; closed = c; stopped = stopped }
  part_end none stopped test =
      let all : carried_for first before name ≡ was.gone =
      was.carried ∙ ap (λ rest. was.gone ++ rest) none ∙ append-nil was.gone in
      ap (λ events. record {
        book = fold after_event first events;
        closed =
            record before { buffers = without_first (tenant_flow before.plan name) (length events) before.buffers };
        stopped = nat_lt (length events) (length (due_for first before name));
      }) all
      ∙ ap (λ due. record {
        book = fold after_event first was.gone;
        closed =
            record before { buffers = without_first (tenant_flow before.plan name) (length was.gone) before.buffers };
        stopped = nat_lt (length was.gone) (length due);
      }) was.due
      ∙ ap (λ book. record {
        book = book;
        closed =
            record before { buffers = without_first (tenant_flow before.plan name) (length was.gone) before.buffers };
        stopped = nat_lt (length was.gone) (length (was.gone ++ due_for a c name));
      }) (sym was.book)
      ∙ ap (λ closed. record {
        book = a;
        closed = closed;
        stopped = nat_lt (length was.gone) (length (was.gone ++ due_for a c name));
      }) (sym was.closed)
      ∙ ap (λ stopped. record { book = a; closed = c; stopped = stopped }) test

  due_none : length (due_for a c name) ≡ 0 → nat_lt (length was.gone) (length (was.gone ++ due_for a c name)) ≡ false
  due_none none = let long = length-append was.gone (due_for a c name) in grind (arith, nat_tests)

  due_some : 0 < length (due_for a c name) → nat_lt (length was.gone) (length (was.gone ++ due_for a c name)) ≡ true
  due_some some = let long = length-append was.gone (due_for a c name) in grind (arith, nat_tests)

  -- all that was due is carried
  pub part-all : due_for a c name ≡ []
      → carry_tenant first before name ≡ record { book = a; closed = c; stopped = false }
  part-all none = part_end (none_carried a c name none) false (due_none (ap length none))

  -- more is due, and cannot be carried
  pub part-stops : carried_for a c name ≡ [] → 0 < length (due_for a c name)
      → carry_tenant first before name ≡ record { book = a; closed = c; stopped = true }
  part-stops none some = part_end none true (due_some some)

-- ---- The test of the loop over a tenant's packets

fewer_list : (ps : List (List ℕ)) → 0 < length ps → length (drop 1 ps) < length ps
fewer_list [] some = absurd (omega (arith, some))
fewer_list (p ∷ ps) some = omega arith

fewer_by : (o : Option Buffer) → 0 < count_by o → count_by (option_map without_head o) < count_by o
fewer_by None some = absurd (omega (arith, some))
fewer_by (Some b) some = fewer_list b.packets some

pub pop-fewer : (bs : List Buffer) (f : ℕ) → 0 < count_in bs f → count_in (pop_in bs f) f < count_in bs f
pop-fewer bs f some =
    subst (λ n. n < count_in bs f) (sym (ap count_by (popped bs f))) (fewer_by (buffer_of bs f) some)

pub spent-life : (link : LinkView (Unit {0})) → is_spent link ≡ true → link.live.counts.events ≡ link.life
spent-life link spent = eqb-true link.live.counts.events link.life spent
