-- Properties of buffers are those of their payloads, as the link sees them, and the other way round.
use Rattle.std.proofs.Common.{◌≡◌, ◌≤◌, ◌<◌, ◌^◌, ◌∙◌, ◌++◌, ℕ, true, false, List, [], ◌∷◌, length, position}
use Rattle.std.proofs.Common.{Option, None, Some, IsSome, IfSome, MatchOption, option_map, option_and_then}
use Rattle.std.proofs.Common.{Result, Ok, Err, IfOk, IfErr, OnOk, refl, sym, ap, subst}
use Rattle.std.proofs.lemmas.Option.{same_Some}
use Rattle.share_base.specs.Body.{BodyView, framed_bytes}
use Rattle.share_model.specs.link.Frame.{Packet, PacketOf, map_packet}
use Rattle.share_model.specs.link.Buffers.{Buffer, is_buffer_of, buffer_of, backlog_of, open_in, close_in, count_in}
use Rattle.share_model.specs.link.Buffers.{head_in as head_in_buffer, head_of_buffer, has_packet, is_some_packet}
use Rattle.share_model.specs.link.Buffers.{is_full, pop_in, head_of, is_busy, map_buffer, payload_of, payloads_in}
use Rattle.share_model.specs.link.Buffers.{push_in}
use Rattle.share_model.proofs.lemmas.lists.FirstItemLemmas.{find-change_first}
use Rattle.share_model.proofs.lemmas.link.PayloadLemmas.{buffer_of-image, backlog_of-image, count_in-image}
use Rattle.share_model.proofs.lemmas.link.PayloadLemmas.{is_full-image, is_busy-image}
use Rattle.share_model.proofs.lemmas.link.PayloadLemmas.{head_of-image, place-image, open_in-image, close_in-image}
use Rattle.share_model.proofs.lemmas.link.PayloadLemmas.{push_in-image, pop_in-image}
use Rattle.share_flows.specs.declared.buffers.BufferHandle.{BufferHandle}
use Rattle.share_flows.specs.BufferHandles.{Stands}
use Rattle.share_flows.specs.Stamps.{BufferView, first_stamped, with_stamp, stamp_in}

-- Options whose values are mapped

none_before : {A B : Type 0} (g : A → B) (o : Option A) → option_map g o ≡ None → o ≡ None
none_before g None is = refl
none_before g (Some x) is = absurd (cc)

some_before : {A B : Type 0} (g : A → B) (o : Option A) → IsSome (option_map g o) → IsSome o
some_before g None some = some
some_before g (Some x) some = refl

some_after : {A B : Type 0} (g : A → B) (o : Option A) → IsSome o → IsSome (option_map g o)
some_after g None some = some
some_after g (Some x) some = refl

if_before : {A B : Type 0} (g : A → B) (P : B → Type 0) (o : Option A) → IfSome (option_map g o) P
    → IfSome o (λ x. P (g x))
if_before g P None holds = holds
if_before g P (Some x) holds = holds

if_after : {A B : Type 0} (g : A → B) (P : A → Type 0) (Q : B → Type 0) (o : Option A) → ((x : A) → P x → Q (g x))
    → IfSome o P → IfSome (option_map g o) Q
if_after g P Q None weaker holds = holds
if_after g P Q (Some x) weaker holds = weaker x holds

-- the buffers bs are seen as these
module _ (bs : List BufferView) (seen : List Buffer) (is : payloads_in bs ≡ seen) where
  found_as : (f : ℕ) → buffer_of seen f ≡ option_map (map_buffer payload_of) (buffer_of bs f)
  found_as f = ap (λ xs. buffer_of xs f) (sym is) ∙ buffer_of-image payload_of bs f

  pub head_as : (f : ℕ) → head_of seen f ≡ option_map (map_packet payload_of) (head_of bs f)
  head_as f = ap (λ xs. head_of xs f) (sym is) ∙ head_of-image payload_of bs f

  pub none_in : (f : ℕ) → buffer_of seen f ≡ None → buffer_of bs f ≡ None
  none_in f none = none_before (map_buffer payload_of) (buffer_of bs f) (sym (found_as f) ∙ none)

  pub some_in : (f : ℕ) → IsSome (buffer_of seen f) → IsSome (buffer_of bs f)
  some_in f some = some_before (map_buffer payload_of) (buffer_of bs f) (subst IsSome (found_as f) some)

  none_out : (f : ℕ) → buffer_of bs f ≡ None → buffer_of seen f ≡ None
  none_out f none = found_as f ∙ ap (option_map (map_buffer payload_of)) none

  some_out : (f : ℕ) → IsSome (buffer_of bs f) → IsSome (buffer_of seen f)
  some_out f some = subst IsSome (sym (found_as f)) (some_after (map_buffer payload_of) (buffer_of bs f) some)

  place_as : (f : ℕ) → position (is_buffer_of f) seen ≡ position (is_buffer_of f) bs
  place_as f = ap (position (is_buffer_of f)) (sym is) ∙ place-image payload_of bs f

  pub stands_in : (handle : BufferHandle) → Stands seen handle → Stands bs handle
  stands_in handle stands = sym (place_as handle.flow) ∙ stands

  pub stands_out : (handle : BufferHandle) → Stands bs handle → Stands seen handle
  stands_out handle stands = place_as handle.flow ∙ stands

  pub busy_in : (f : ℕ) → is_busy seen f ≡ is_busy bs f
  busy_in f = ap (λ xs. is_busy xs f) (sym is) ∙ is_busy-image payload_of bs f

  pub backlog_as : (f : ℕ) → backlog_of bs f ≡ backlog_of seen f
  backlog_as f = sym (backlog_of-image payload_of bs f) ∙ ap (λ xs. backlog_of xs f) is

  pub count_as : (f : ℕ) → count_in bs f ≡ count_in seen f
  count_as f = sym (count_in-image payload_of bs f) ∙ ap (λ xs. count_in xs f) is

  pub found_out : (f : ℕ) (o : Option BufferHandle)
      → MatchOption o (buffer_of bs f ≡ None) (λ p. (p.flow ≡ f) × IsSome (buffer_of bs f) × Stands bs p)
      → MatchOption o (buffer_of seen f ≡ None) (λ p. (p.flow ≡ f) × IsSome (buffer_of seen f) × Stands seen p)
  found_out f None none = none_out f none
  found_out f (Some p) found = (found.0, some_out f found.1, stands_out p found.2)

  pub numbers_in : (f : ℕ) → IfSome (buffer_of seen f) (λ b. is_full b ≡ false → b.next < 2 ^ 32)
      → IfSome (buffer_of bs f) (λ b. is_full b ≡ false → b.next < 2 ^ 32)
  numbers_in f may = of_payloads (buffer_of bs f)
      (subst (λ (o : Option Buffer). IfSome o (λ b. is_full b ≡ false → b.next < 2 ^ 32)) (found_as f) may)
    where
      of_payloads : (o : Option BufferView)
          → IfSome (option_map (map_buffer payload_of) o) (λ b. is_full b ≡ false → b.next < 2 ^ 32)
          → IfSome o (λ b. is_full b ≡ false → b.next < 2 ^ 32)
      of_payloads None may = may
      of_payloads (Some b) may = λ room. may (is_full-image payload_of b ∙ room)

  -- the answer of a test of fullness for the buffer is that for its payloads
  full_out : (f : ℕ) (full : ℕ → BufferView → Type 0) (same : ℕ → Buffer → Type 0) (n : ℕ)
      → ((b : BufferView) → full n b → same n (map_buffer payload_of b))
      → IfSome (buffer_of bs f) (full n) → IfSome (buffer_of seen f) (same n)
  full_out f full same n weaker holds =
      subst (λ (o : Option Buffer). IfSome o (same n)) (sym (found_as f))
      (if_after (map_buffer payload_of) (full n) (same n) (buffer_of bs f) weaker holds)

  pub pushed_out : (f : ℕ) (r : Result ℕ BodyView) (new : List BufferView) (body : BodyView)
      → IfOk r (λ n. IfSome (buffer_of bs f) (λ b. (n ≡ b.next) × (is_full b ≡ false)) × (new ≡ push_in bs f body))
      → IfOk r (λ n. IfSome (buffer_of seen f) (λ b. (n ≡ b.next) × (is_full b ≡ false))
      × (payloads_in new ≡ push_in seen f body.payload))
  pushed_out f (Ok n) new body made = (
    full_out f (λ n b. (n ≡ b.next) × (is_full b ≡ false)) (λ n b. (n ≡ b.next) × (is_full b ≡ false)) n
        (λ b holds. (holds.0, is_full-image payload_of b ∙ holds.1)) made.0,
    ap payloads_in made.1 ∙ sym (push_in-image payload_of bs f body) ∙ ap (λ xs. push_in xs f body.payload) is,
  )
  pushed_out f (Err back) new body made = made

  pub full_back : (f : ℕ) (r : Result ℕ BodyView) (new : List BufferView) (body : BodyView)
      → IfErr r (λ back. (back ≡ body) × IfSome (buffer_of bs f) (λ b. is_full b ≡ true) × (new ≡ bs))
      → IfErr r (λ back. (back ≡ body) × IfSome (buffer_of seen f) (λ b. is_full b ≡ true)
      × (payloads_in new ≡ seen))
  full_back f (Ok n) new body full = full
  full_back f (Err back) new body full = (
    full.0,
    full_out f (λ n b. is_full b ≡ true) (λ n b. is_full b ≡ true) 0 (λ b holds. is_full-image payload_of b ∙ holds)
        full.1,
    ap payloads_in full.2 ∙ is,
  )

  pub head_out : {H : Type 0} (f : ℕ) (o : Option H) (seq : H → ℕ) (body : H → BodyView)
      → MatchOption o (head_of bs f ≡ None)
      (λ h. head_of bs f ≡ Some (record { flow = f; seq = seq h; payload = body h }))
      → MatchOption o (head_of seen f ≡ None)
      (λ h. head_of seen f ≡ Some (record { flow = f; seq = seq h; payload = (body h).payload }))
  head_out f None seq body none = head_as f ∙ ap (option_map (map_packet payload_of)) none
  head_out f (Some h) seq body head = head_as f ∙ ap (option_map (map_packet payload_of)) head

  pub popped_out : (f : ℕ) (body : BodyView)
      → option_map (λ (h : PacketOf BodyView). h.payload) (head_of bs f) ≡ Some body
      → option_map (λ (h : Packet). h.payload) (head_of seen f) ≡ Some body.payload
  popped_out f body head = ap (option_map (λ (h : Packet). h.payload)) (head_as f) ∙ by_head (head_of bs f) head
    where
      by_head : (o : Option (PacketOf BodyView)) → option_map (λ (h : PacketOf BodyView). h.payload) o ≡ Some body
          → option_map (λ (h : Packet). h.payload) (option_map (map_packet payload_of) o) ≡ Some body.payload
      by_head None is = absurd (cc)
      by_head (Some h) is = cc

  opened_as : (f limit : ℕ) (new : List BufferView) → new ≡ open_in bs f limit
      → payloads_in new ≡ open_in seen f limit
  opened_as f limit new made =
      ap payloads_in made ∙ sym (open_in-image payload_of bs f limit) ∙ ap (λ xs. open_in xs f limit) is

  pub opened_out : {T E : Type 0} (f limit : ℕ) (r : Result T E) (new : List BufferView) (Q : Type 0)
      → OnOk r ((new ≡ open_in bs f limit) × Q) → OnOk r ((payloads_in new ≡ open_in seen f limit) × Q)
  opened_out f limit (Ok x) new Q made = (opened_as f limit new made.0, made.1)
  opened_out f limit (Err e) new Q made = made

  pub same_out : {T E : Type 0} (r : Result T E) (new : List BufferView) (P : E → Type 0)
      → IfErr r (λ e. (new ≡ bs) × P e) → IfErr r (λ e. (payloads_in new ≡ seen) × P e)
  same_out (Ok x) new P made = made
  same_out (Err e) new P made = (ap payloads_in made.0 ∙ is, made.1)

  pub closed_as : (f : ℕ) (new : List BufferView) → new ≡ close_in bs f → payloads_in new ≡ close_in seen f
  closed_as f new made =
      ap payloads_in made ∙ sym (close_in-image payload_of bs f) ∙ ap (λ xs. close_in xs f) is

  pub popped_as : (f : ℕ) (new : List BufferView) → new ≡ pop_in bs f → payloads_in new ≡ pop_in seen f
  popped_as f new made = ap payloads_in made ∙ sym (pop_in-image payload_of bs f) ∙ ap (λ xs. pop_in xs f) is

-- The head packet, once a header is stamped before it

abbrev stamped_packet : List ℕ → PacketOf BodyView → PacketOf BodyView
stamped_packet header h =
    record { flow = h.flow; seq = h.seq; payload = record { stamped = header; payload = h.payload.payload } }

head_in_stamped : (header : List ℕ) (b : BufferView) (ps : List BodyView)
    → head_in_buffer (with_stamp header b) (first_stamped header ps)
    ≡ option_map (stamped_packet header) (head_in_buffer b ps)
head_in_stamped header b [] = refl
head_in_stamped header b (p ∷ ps) = refl

head_by_stamped : (header : List ℕ) (o : Option BufferView)
    → option_and_then head_of_buffer (option_map (with_stamp header) o)
    ≡ option_map (stamped_packet header) (option_and_then head_of_buffer o)
head_by_stamped header None = refl
head_by_stamped header (Some b) = head_in_stamped header b b.packets

head_of_stamped : (bs : List BufferView) (f : ℕ) (header : List ℕ)
    → head_of (stamp_in bs f header) f ≡ option_map (stamped_packet header) (head_of bs f)
head_of_stamped bs f header =
    ap (option_and_then head_of_buffer) (find-change_first (is_buffer_of f) (with_stamp header) (λ b same. same) bs)
    ∙ head_by_stamped header (buffer_of bs f)

-- its bytes are those of the header and its payload
framed_as : (bs new : List BufferView) (f seq : ℕ) (body : BodyView) (header : List ℕ)
    (o : Option (PacketOf BodyView))
    → head_of bs f ≡ o → new ≡ stamp_in bs f header
    → head_of new f ≡ Some (record { flow = f; seq = seq; payload = body })
    → IfSome (option_map (map_packet payload_of) o) (λ h. framed_bytes body ≡ header ++ h.payload)
framed_as bs new f seq body header None is stamped head = tt
framed_as bs new f seq body header (Some h) is stamped head =
    let there : Some (stamped_packet header h) ≡ Some (record { flow = f; seq = seq; payload = body }) =
    ap (option_map (stamped_packet header)) (sym is) ∙ sym (head_of_stamped bs f header)
    ∙ ap (λ xs. head_of xs f) (sym stamped) ∙ head in
    ap (λ (p : PacketOf BodyView). framed_bytes p.payload) (sym (same_Some _ _ there))

pub framed_seen : (bs new : List BufferView) (seen : List Buffer) → payloads_in bs ≡ seen → (f seq : ℕ)
    (body : BodyView) (header : List ℕ) → new ≡ stamp_in bs f header
    → head_of new f ≡ Some (record { flow = f; seq = seq; payload = body })
    → IfSome (head_of seen f) (λ h. framed_bytes body ≡ header ++ h.payload)
framed_seen bs new seen is f seq body header stamped head =
    subst (λ (o : Option Packet). IfSome o (λ h. framed_bytes body ≡ header ++ h.payload)) (sym (head_as bs seen is f))
    (framed_as bs new f seq body header (head_of bs f) refl stamped head)

-- there still is a head packet
pub none_stamped : (new : List BufferView) (seen : List Buffer) (f : ℕ) → payloads_in new ≡ seen
    → IsSome (head_of seen f) → head_of new f ≡ None → ⊥
none_stamped new seen f is some none =
    no_packet (subst IsSome (head_as new seen is f ∙ ap (option_map (map_packet payload_of)) none) some)
  where
    no_packet : IsSome {T = Packet} None → ⊥
    no_packet h = cc

-- a flow that has a head packet is busy
head_busy : (o : Option Buffer) → IsSome (option_and_then head_of_buffer o) → has_packet o ≡ true
head_busy None some = absurd (cc)
head_busy (Some b) some = by_packets b.packets some
  where
    by_packets : (ps : List (List ℕ)) → IsSome (head_in_buffer b ps) → is_some_packet ps ≡ true
    by_packets [] some = absurd (cc)
    by_packets (p ∷ ps) some = refl

pub busy_headed : (seen : List Buffer) (f : ℕ) → IsSome (head_of seen f) → is_busy seen f ≡ true
busy_headed seen f some = head_busy (buffer_of seen f) some

-- no more of the framed bytes are out
pub out_within : (o : Option Packet) (header bytes : List ℕ) (out : ℕ) → IsSome o
    → IfSome o (λ h. bytes ≡ header ++ h.payload) → IfSome o (λ h. out ≤ length (header ++ h.payload))
    → out ≤ length bytes
out_within None header bytes out some is within = absurd (cc)
out_within (Some h) header bytes out some is within = rw is within

-- a property of the framed bytes is one of the header and the payload
pub of_framed : (o : Option Packet) (header bytes : List ℕ) (Q : List ℕ → Type 0)
    → IfSome o (λ h. bytes ≡ header ++ h.payload) → Q bytes → IfSome o (λ h. Q (header ++ h.payload))
of_framed None header bytes Q is holds = tt
of_framed (Some h) header bytes Q is holds = subst Q is holds
