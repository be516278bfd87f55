-- Laws of buffers. They cover the head packet of a flow after a packet was pushed or a buffer opened. They also cover
-- the ties between the buffers and the open flows.
use Rattle.std.specs.Prelude.{◌≡◌, ◌<◌, ◌+◌, ◌-◌, ℕ, Bool, true, false, ◌&&◌, ◌||◌, List, [], ◌∷◌, ◌++◌, length, map}
use Rattle.std.specs.Prelude.{not, suc, nat_eq, is_some, Option, None, Some, option_map, option_and_then, if◌then◌else◌}
use Rattle.std.specs.List.{list_any}
use Rattle.std.specs.Set.{remove_key}
use Rattle.std.specs.Map.{lookup}
use Rattle.std.proofs.Common.{refl, ap, sym, ◌∙◌, subst, arith, length-append}
use Rattle.std.proofs.lemmas.Bool.{eqb-true, eqb-false, eq-eqb, ne_eqb, cond-true, cond-false, or_from, or_left}
use Rattle.std.proofs.lemmas.Bool.{or_right, and_left}
use Rattle.std.proofs.lemmas.Option.{same_Some, option_and_then_some}
use Rattle.share_model.specs.declared.funding.OpenFlow.{OpenFlow}
use Rattle.share_model.specs.link.Frame.{Packet, PacketOf}
use Rattle.share_model.specs.link.Buffers.{Buffer, is_buffer_of, buffer_of, new_buffer, open_in, BufferOf}
use Rattle.share_model.specs.lists.Change.{change_first}
use Rattle.share_model.specs.link.Buffers.{with_packet, push_in, head_in, head_of_buffer, head_of, is_some_packet}
use Rattle.share_model.specs.link.Buffers.{has_packet, is_busy, close_in, without_head, pop_in}
use Rattle.share_model.specs.funding.Graph.{NameBytes}
use Rattle.share_model.specs.funding.Changes.{is_open_as, active_as, with_activity}
use Rattle.share_model.specs.lists.Each.{Each}
use Rattle.share_model.specs.funding.Graph.{flow_numbers}
use Rattle.share_model.specs.lists.Rises.{Rises}
use Rattle.share_model.proofs.lemmas.lists.FirstItemLemmas.{map-change_first, find-change_first}
use Rattle.share_model.proofs.lemmas.lists.FirstItemLemmas.{find-change_first_other}
use Rattle.share_model.specs.lists.Rises.{has_number}
use Rattle.share_model.proofs.lemmas.lists.FirstItemLemmas.{find-holds, each_map}
use Rattle.share_model.proofs.lemmas.lists.FirstItemLemmas.{find-append_found, is_some-find_number}
use Rattle.share_model.proofs.lemmas.lists.RemovalLemmas.{map-remove_key, find-remove_other, find-absent}

-- The head packet of a flow

pub head_in_flow : {A : Type 0} (b : BufferOf A) (ps : List A) (h : PacketOf A) → head_in b ps ≡ Some h
    → h.flow ≡ b.flow
head_in_flow b [] h is = cc
head_in_flow {A} b (p ∷ ps) h is = ap (λ (o : PacketOf A). o.flow) (sym (same_Some _ h is))

head_of_by : {A : Type 0} (f : ℕ) (o : Option (BufferOf A)) (h : PacketOf A)
    → ((b : BufferOf A) → o ≡ Some b → nat_eq f b.flow ≡ true) → option_and_then head_of_buffer o ≡ Some h → h.flow ≡ f
head_of_by f None h holds is = cc
head_of_by f (Some b) h holds is = head_in_flow b b.packets h is ∙ sym (eqb-true f b.flow (holds b refl))

-- the head packet of a flow is of this flow
pub head_of-flow : {A : Type 0} (bs : List (BufferOf A)) (f : ℕ) (h : PacketOf A) → head_of bs f ≡ Some h → h.flow ≡ f
head_of-flow bs f h is = head_of_by f (buffer_of bs f) h (find-holds (is_buffer_of f) bs) is

pushed_number : (next : ℕ) (ps : List (List ℕ)) (body p : List ℕ)
    → (next + 1) - length (p ∷ ps ++ body ∷ []) ≡ next - length (p ∷ ps)
pushed_number next ps body p = rw (length-append (p ∷ ps) (body ∷ [])) (omega arith)

head_in_pushed : (f limit next : ℕ) (body : List ℕ) (ps : List (List ℕ)) (h : Packet)
    → head_in (record { flow = f; limit = limit; next = next; packets = ps }) ps ≡ Some h
    → head_in (record { flow = f; limit = limit; next = next + 1; packets = ps ++ body ∷ [] }) (ps ++ body ∷ [])
    ≡ Some h
head_in_pushed f limit next body [] h is = cc
head_in_pushed f limit next body (p ∷ ps) h is =
    ap (λ n. Some (record { flow = f; seq = n; payload = p })) (pushed_number next ps body p) ∙ is

head_pushed_by : (body : List ℕ) (o : Option Buffer) (h : Packet) → option_and_then head_of_buffer o ≡ Some h
    → option_and_then head_of_buffer (option_map (with_packet body) o) ≡ Some h
head_pushed_by body None h is = cc
head_pushed_by body (Some b) h is = head_in_pushed b.flow b.limit b.next body b.packets h is

other_fails : (g f : ℕ) → nat_eq g f ≡ false → (body : List ℕ) (b : Buffer) → is_buffer_of g b ≡ true
    → (is_buffer_of f b ≡ false) × (is_buffer_of f (with_packet body b) ≡ false)
other_fails g f test body b holds =
    let e : nat_eq f b.flow ≡ false = ne_eqb f b.flow
    (λ same. eqb-false g f test (eqb-true g b.flow holds ∙ sym same)) in (e, e)

head_of_pushed_by : (bs : List Buffer) (g : ℕ) (body : List ℕ) (f : ℕ) (h : Packet) → (b : Bool) → nat_eq g f ≡ b
    → head_of bs f ≡ Some h → head_of (push_in bs g body) f ≡ Some h
head_of_pushed_by bs g body f h true test is =
    rw (eqb-true g f test, find-change_first (is_buffer_of f) (with_packet body) (λ b holds. holds) bs)
    (head_pushed_by body (buffer_of bs f) h is)
head_of_pushed_by bs g body f h false test is =
    ap (option_and_then head_of_buffer)
    (find-change_first_other (is_buffer_of g) (is_buffer_of f) (with_packet body) (other_fails g f test body) bs) ∙ is

-- a packet that is pushed leaves the head packets
pub head_of-push_in : (bs : List Buffer) (g : ℕ) (body : List ℕ) (f : ℕ) (h : Packet) → head_of bs f ≡ Some h
    → head_of (push_in bs g body) f ≡ Some h
head_of-push_in bs g body f h is = head_of_pushed_by bs g body f h (nat_eq g f) refl is

-- so does a buffer that is opened
pub head_of-open_in : (bs : List Buffer) (g limit f : ℕ) (h : Packet) → head_of bs f ≡ Some h
    → head_of (open_in bs g limit) f ≡ Some h
head_of-open_in bs g limit f h is =
    option_and_then_some head_of_buffer (buffer_of bs f) h is
    (λ b found here. ap (option_and_then head_of_buffer)
    (find-append_found (is_buffer_of f) bs (new_buffer g limit ∷ []) b found) ∙ here)

-- The open flows and their buffers

-- a flow's activity leaves the numbers
pub numbers-with_activity : (f : ℕ) (t : Bool) (es : List (NameBytes × OpenFlow))
    → flow_numbers (with_activity f t es) ≡ flow_numbers es
numbers-with_activity f t es =
    map-change_first (λ (e : NameBytes × OpenFlow). e.1.number) (is_open_as f) (active_as t) (λ e. refl) es

abbrev pub activities : List (NameBytes × OpenFlow) → List Bool
activities es = map (λ (e : NameBytes × OpenFlow). e.1.active) es

below_not : (f n m : ℕ) → f ≡ n → n < m → f ≡ m → ⊥
below_not f n m a b c = omega arith

-- the buffers that hold a packet of a flow that is not held
abbrev pub fillings : (ℕ → Bool) → List Buffer → List Bool
fillings held bs = map (λ (b : Buffer). is_some_packet b.packets && not (held b.flow)) bs

abbrev pub buffer_flows : List Buffer → List ℕ
buffer_flows bs = map (λ (b : Buffer). b.flow) bs

-- each open flow has a buffer, in the same place, and is active if that holds a packet and the flow is not held
pub record AreTied (held : ℕ → Bool) (es : List (NameBytes × OpenFlow)) (bs : List Buffer) : Type 0 where
  pub numbers : buffer_flows bs ≡ flow_numbers es
  pub active : activities es ≡ fillings held bs

record HeadsTied (held : ℕ → Bool) (e : NameBytes × OpenFlow) (b : Buffer) (es : List (NameBytes × OpenFlow))
    (bs : List Buffer) : Type 0 where
  number : b.flow ≡ e.1.number
  activity : e.1.active ≡ (is_some_packet b.packets && not (held b.flow))
  rest : AreTied held es bs

heads_tied : (held : ℕ → Bool) (e : NameBytes × OpenFlow) (b : Buffer) (es : List (NameBytes × OpenFlow))
    (bs : List Buffer) → AreTied held (e ∷ es) (b ∷ bs) → HeadsTied held e b es bs
heads_tied held e b es bs tied =
    let n : b.flow ∷ buffer_flows bs ≡ e.1.number ∷ flow_numbers es = tied.numbers in
    let a : e.1.active ∷ activities es ≡ (is_some_packet b.packets && not (held b.flow)) ∷ fillings held bs =
    tied.active in
    record { number = cc; activity = cc; rest = record { numbers = cc; active = cc } }

-- of flows that are held as before
pub fillings-same : (held held' : ℕ → Bool) (bs : List Buffer) → Each (λ n. held' n ≡ held n) (buffer_flows bs)
    → fillings held' bs ≡ fillings held bs
fillings-same held held' [] same = refl
fillings-same held held' (b ∷ bs) same =
    let rest : fillings held' bs ≡ fillings held bs = fillings-same held held' bs same.1 in
    let here : (is_some_packet b.packets && not (held' b.flow)) ≡ (is_some_packet b.packets && not (held b.flow)) =
    ap (λ h. is_some_packet b.packets && not h) same.0 in
    let s : (is_some_packet b.packets && not (held' b.flow)) ∷ fillings held' bs
    ≡ (is_some_packet b.packets && not (held b.flow)) ∷ fillings held bs = cc in s

changed_by : (held held' : ℕ → Bool) (t : Bool) (change : Buffer → Buffer) (e : NameBytes × OpenFlow) (b : Buffer)
    (es es' : List (NameBytes × OpenFlow)) (bs bs' : List Buffer) (k : Bool)
    → HeadsTied held e b es bs → (k ≡ true → (is_some_packet (change b).packets && not (held' (change b).flow)) ≡ t)
    → (k ≡ true → fillings held' bs ≡ fillings held bs) → (k ≡ false → held' b.flow ≡ held b.flow)
    → (k ≡ false → activities es' ≡ fillings held' bs')
    → activities (if k then (e.0, record e.1 { active = t }) ∷ es else e ∷ es')
    ≡ fillings held' (if k then change b ∷ bs else b ∷ bs')
changed_by held held' t change e b es es' bs bs' true tied here later same rest =
    let q : (is_some_packet (change b).packets && not (held' (change b).flow)) ≡ t = here refl in
    let o : fillings held' bs ≡ fillings held bs = later refl in
    let r : activities es ≡ fillings held bs = tied.rest.active in
    let s : t ∷ activities es
    ≡ (is_some_packet (change b).packets && not (held' (change b).flow)) ∷ fillings held' bs = cc in s
changed_by held held' t change e b es es' bs bs' false tied here later same rest =
    let r : activities es' ≡ fillings held' bs' = rest refl in
    let q : e.1.active ≡ (is_some_packet b.packets && not (held b.flow)) = tied.activity in
    let o : (is_some_packet b.packets && not (held' b.flow)) ≡ (is_some_packet b.packets && not (held b.flow)) =
    ap (λ h. is_some_packet b.packets && not h) (same refl) in
    let s : e.1.active ∷ activities es' ≡ (is_some_packet b.packets && not (held' b.flow)) ∷ fillings held' bs' = cc in
    s

-- The buffer of one flow changed, or its hold, and it is active or not accordingly; the others are held as before.
pub activities-changed : (limit f : ℕ) (t : Bool) (held held' : ℕ → Bool) (change : Buffer → Buffer)
    (es : List (NameBytes × OpenFlow)) (bs : List Buffer) → AreTied held es bs → Rises limit (flow_numbers es)
    → ((n : ℕ) → nat_eq f n ≡ false → held' n ≡ held n)
    → ((b : Buffer) → buffer_of bs f ≡ Some b → (is_some_packet (change b).packets && not (held' (change b).flow)) ≡ t)
    → activities (with_activity f t es) ≡ fillings held' (change_first (is_buffer_of f) change bs)
unfolding change_first Rises
activities-changed limit f t held held' change [] [] tied rises others here = refl
activities-changed limit f t held held' change [] (b ∷ bs) tied rises others here =
    let n : b.flow ∷ buffer_flows bs ≡ [] = tied.numbers in cc
activities-changed limit f t held held' change (e ∷ es) [] tied rises others here =
    let n : [] ≡ e.1.number ∷ flow_numbers es = tied.numbers in cc
activities-changed limit f t held held' change (e ∷ es) (b ∷ bs) tied rises others here =
    let ties : HeadsTied held e b es bs = heads_tied held e b es bs tied in
    let same : nat_eq f e.1.number ≡ nat_eq f b.flow = ap (nat_eq f) (sym ties.number) in
    let above : Each (λ m. e.1.number < m) (buffer_flows bs) =
    subst (Each (λ m. e.1.number < m)) (sym ties.rest.numbers) rises.1 in
    changed_by held held' t change e b es (with_activity f t es) bs (change_first (is_buffer_of f) change bs)
    (nat_eq f e.1.number) ties
    (λ k. here b (cond-true (nat_eq f b.flow) (Some b) (buffer_of bs f) (sym same ∙ k)))
    (λ k. fillings-same held held' bs (each_map (λ m. e.1.number < m) (λ m. held' m ≡ held m)
    (λ m more. others m (ne_eqb f m (below_not f e.1.number m (eqb-true f e.1.number k) more)))
    (buffer_flows bs) above))
    (λ k. others b.flow (sym same ∙ k))
    (λ k. activities-changed limit f t held held' change es bs ties.rest rises.2 others
    (λ b' found. here b' (cond-false (nat_eq f b.flow) (Some b) (buffer_of bs f) (sym same ∙ k) ∙ found)))
    ∙ ap (λ k. fillings held' (if k then change b ∷ bs else b ∷ change_first (is_buffer_of f) change bs)) same

or_none : (a r : Bool) → r ≡ false → ((true && a) || r) ≡ a
or_none true r none = refl
or_none false r none = none

absent : (f n : ℕ) (es : List (NameBytes × OpenFlow)) → f ≡ n → Each (λ m. n < m) (flow_numbers es)
    → list_any (λ (e : NameBytes × OpenFlow). nat_eq f e.1.number && e.1.active) es ≡ false
absent f n [] is above = refl
absent f n (e ∷ es) is above =
    or_from (nat_eq f e.1.number && e.1.active)
    (list_any (λ (e : NameBytes × OpenFlow). nat_eq f e.1.number && e.1.active) es)
    (and_left (nat_eq f e.1.number) e.1.active (ne_eqb f e.1.number (λ same. below_not f n e.1.number is above.0 same)))
    (absent f n es is above.1)

active_busy_by : (held : ℕ → Bool) (f : ℕ) (b : Buffer) (active r : Bool) (o : Option Buffer) (k : Bool)
    → active ≡ (is_some_packet b.packets && not (held b.flow)) → (k ≡ true → r ≡ false) → (k ≡ true → b.flow ≡ f)
    → (k ≡ false → r ≡ (has_packet o && not (held f)))
    → ((k && active) || r) ≡ (has_packet (if k then Some b else o) && not (held f))
active_busy_by held f b active r o true same none own rest =
    or_none active r (none refl) ∙ (same ∙ ap (λ n. is_some_packet b.packets && not (held n)) (own refl))
active_busy_by held f b active r o false same none own rest = rest refl

-- a flow is active if its buffer holds a packet and it is not held
pub active-busy : (held : ℕ → Bool) (limit f : ℕ) (es : List (NameBytes × OpenFlow)) (bs : List Buffer)
    → AreTied held es bs → Rises limit (flow_numbers es)
    → list_any (λ (e : NameBytes × OpenFlow). nat_eq f e.1.number && e.1.active) es ≡ (is_busy bs f && not (held f))
unfolding Rises
active-busy held limit f [] [] tied rises = refl
active-busy held limit f [] (b ∷ bs) tied rises = let n : b.flow ∷ buffer_flows bs ≡ [] = tied.numbers in cc
active-busy held limit f (e ∷ es) [] tied rises = let n : [] ≡ e.1.number ∷ flow_numbers es = tied.numbers in cc
active-busy held limit f (e ∷ es) (b ∷ bs) tied rises =
    let ties : HeadsTied held e b es bs = heads_tied held e b es bs tied in
    active_busy_by held f b e.1.active (list_any (λ (e : NameBytes × OpenFlow). nat_eq f e.1.number && e.1.active) es)
    (buffer_of bs f) (nat_eq f e.1.number) ties.activity
    (λ k. absent f e.1.number es (eqb-true f e.1.number k) rises.1)
    (λ k. ties.number ∙ sym (eqb-true f e.1.number k))
    (λ _. active-busy held limit f es bs ties.rest rises.2)
    ∙ ap (λ n. has_packet (if nat_eq f n then Some b else buffer_of bs f) && not (held f)) (sym ties.number)

named_by : (n : ℕ) (r : Bool) (x : NameBytes × OpenFlow) (o : Option OpenFlow) (e : OpenFlow) → n ≡ e.number
    → (k : Bool) → (o ≡ Some e → r ≡ true) → (if k then Some x.1 else o) ≡ Some e → (nat_eq n x.1.number || r) ≡ true
named_by n r x o e is true rest found =
    or_left (nat_eq n x.1.number) r
    (eq-eqb n x.1.number (is ∙ ap (λ (e : OpenFlow). e.number) (sym (same_Some x.1 e found))))
named_by n r x o e is false rest found = or_right (nat_eq n x.1.number) r (rest found)

-- the number of a flow that has a name is an open flow's
pub number-of_named : (p : NameBytes → Bool) (es : List (NameBytes × OpenFlow)) (e : OpenFlow) → lookup p es ≡ Some e
    → has_number e.number (flow_numbers es) ≡ true
number-of_named p [] e found = cc
number-of_named p (x ∷ xs) e found =
    named_by e.number (has_number e.number (flow_numbers xs)) x (lookup p xs) e refl (p x.0)
    (number-of_named p xs e) found

-- the head packet of a buffer, and those after it
pub record IsHeadPacket (b : Buffer) (h : Packet) : Type 0 where
  pub behind : List (List ℕ)
  pub packets : b.packets ≡ h.payload ∷ behind
  pub seq : h.seq ≡ b.next - suc (length behind)

head_packet : (b : Buffer) (ps : List (List ℕ)) (h : Packet) → b.packets ≡ ps → head_in b ps ≡ Some h → IsHeadPacket b h
head_packet b [] h are is = cc
head_packet b (p ∷ ps) h are is =
    subst (λ h. IsHeadPacket b h)
    (same_Some (record { flow = b.flow; seq = b.next - length (p ∷ ps); payload = p }) h is)
    (record { behind = ps; packets = are; seq = refl })

-- the buffer of a flow that has a head packet
pub record IsHeadBuffer (bs : List Buffer) (f : ℕ) (h : Packet) : Type 0 where
  pub buffer : Buffer
  pub found : buffer_of bs f ≡ Some buffer
  pub head : IsHeadPacket buffer h

pub head_buffer : (bs : List Buffer) (f : ℕ) (h : Packet) → head_of bs f ≡ Some h → IsHeadBuffer bs f h
head_buffer bs f h is = option_and_then_some head_of_buffer (buffer_of bs f) h is (λ b found here. record {
  buffer = b;
  found = found;
  head = head_packet b b.packets h refl here;
})

-- a buffer of one flow is not another's, nor is it after a change that keeps its flow
pub other_buffer : (change : Buffer → Buffer) → ((b : Buffer) → (change b).flow ≡ b.flow) → (f g : ℕ)
    → nat_eq f g ≡ false → (b : Buffer) → is_buffer_of g b ≡ true
    → (is_buffer_of f b ≡ false) × (is_buffer_of f (change b) ≡ false)
other_buffer change keeps f g test b holds =
    let e : nat_eq f b.flow ≡ false = ne_eqb f b.flow
    (λ same. eqb-false f g test (same ∙ sym (eqb-true g b.flow holds))) in
    (e, ap (nat_eq f) (keeps b) ∙ e)

-- Buffers that are closed

pub head_of-closed_other : (bs : List Buffer) (g f : ℕ) → nat_eq f g ≡ false → head_of (close_in bs g) f ≡ head_of bs f
head_of-closed_other bs g f apart =
    ap (option_and_then head_of_buffer) (find-remove_other (λ (b : Buffer). b.flow) g f apart bs)

-- buffers of the same flows lack the same
pub buffer_of-absent : (bs bs' : List Buffer) (f : ℕ) → buffer_flows bs' ≡ buffer_flows bs → buffer_of bs f ≡ None
    → buffer_of bs' f ≡ None
buffer_of-absent bs bs' f same absent =
    find-absent (λ (b : Buffer). b.flow) f bs'
    (ap (has_number f) same
    ∙ (sym (is_some-find_number (λ (b : Buffer). b.flow) f bs) ∙ ap is_some absent))

pub flows-push_in : (bs : List Buffer) (f : ℕ) (body : List ℕ) → buffer_flows (push_in bs f body) ≡ buffer_flows bs
flows-push_in bs f body = map-change_first (λ (b : Buffer). b.flow) (is_buffer_of f) (with_packet body) (λ b. refl) bs

pub flows-pop_in : (bs : List Buffer) (f : ℕ) → buffer_flows (pop_in bs f) ≡ buffer_flows bs
flows-pop_in bs f = map-change_first (λ (b : Buffer). b.flow) (is_buffer_of f) without_head (λ b. refl) bs

pub flows-close_in : (bs : List Buffer) (f : ℕ) → buffer_flows (close_in bs f) ≡ remove_key (nat_eq f) (buffer_flows bs)
flows-close_in bs f = map-remove_key (λ (b : Buffer). b.flow) (nat_eq f) bs
