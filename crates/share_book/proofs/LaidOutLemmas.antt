-- The flows and the buffers of a book are its tenants', from its opening on; and what each event does to the packets
-- that wait.
use Rattle.std.specs.Prelude.{◌≡◌, ◌-◌, ℕ, Bool, true, false, not, ◌&&◌, List, [], ◌∷◌, ◌++◌, length}
use Rattle.std.specs.Prelude.{map, drop, find, nat_eq, bytes_eq, Option, None, Some, option_map, option_and_then}
use Rattle.std.specs.Prelude.{is_some}
use Rattle.std.specs.Prelude.{if◌then◌else◌}
use Rattle.std.specs.Map.{lookup}
use Rattle.std.proofs.Common.{refl, ap, sym, ◌∙◌, subst, arith}
use Rattle.std.proofs.lemmas.Bool.{eqb-true}
use Rattle.std.proofs.lemmas.Bool.Decides.{nat_tests}
use Rattle.std.proofs.lemmas.List.{append-nil}
use Rattle.std.proofs.lemmas.Option.{same_Some}
use Rattle.share_base.specs.declared.command.Command.{Command}
use Rattle.share_base.specs.declared.command.Command.TheVariants.{Hold, Resume, Amend}
use Rattle.share_base.specs.declared.command.Reply.{Reply}
use Rattle.share_base.specs.declared.refusal.Refusal.{Refusal}
use Rattle.share_core.specs.Room.{has_place, has_room}
use Rattle.share_model.specs.declared.funding.OpenFlow.{OpenFlow}
use Rattle.share_model.specs.declared.rates.Rate.{Rate}
use Rattle.share_model.specs.funding.Changes.{flow_named, flow_number, is_open_as, active_as, with_activity}
use Rattle.share_model.specs.funding.Graph.{NameBytes}
use Rattle.share_model.specs.link.Arrivals.{accept}
use Rattle.share_model.specs.link.Books.{is_held}
use Rattle.share_model.specs.link.Buffers.{Buffer, buffer_of, is_buffer_of, push_in, pop_in, with_packet, without_head}
use Rattle.share_model.specs.link.Buffers.{head_of, is_busy}
use Rattle.share_model.specs.link.Commands.{command_step, command_refusal, change_by_command}
use Rattle.share_model.specs.link.Frame.{Packet}
use Rattle.share_model.specs.link.Live.{Live, by_refusal}
use Rattle.share_model.specs.link.Turns.{Sending, sending_at, sending_by, sending, whole}
use Rattle.share_model.specs.lists.Change.{change_first}
use Rattle.share_model.specs.stride.Moves.{next}
use Rattle.share_model.proofs.lemmas.link.BufferLemmas.{IsHeadBuffer, head_buffer, head_of-flow, other_buffer}
use Rattle.share_model.proofs.lemmas.lists.FirstItemLemmas.{find-change_first_other, find-holds}
use Rattle.share_model.proofs.lemmas.lists.FirstItemLemmas.{map-change_first}
use Rattle.share_model.proofs.lemmas.lists.RemovalLemmas.{other_way}
use Rattle.share_model.proofs.lemmas.lists.SumLemmas.{same_name, name_sym}
use Rattle.share_gateway.specs.Plan.{PlanView, TenantView, ascends, flows_of, has_name}
use Rattle.share_gateway.specs.PlanChanges.{is_tenant, flow_by, tenant_flow, held_as, with_hold}
use Rattle.share_gateway.specs.PlanChanges.{currency_amended, tenant_amended, with_amount}
use Rattle.share_gateway.specs.Planned.{HoldsPlan, planned_flow, planned_buffer}
use Rattle.share_book.specs.BookHistory.{payload_if, next_payload, limit_by, tenant_limit}
use Rattle.share_book.specs.Carry.{packets_by, places_by, number_in, buffer_by, places_for}
use Rattle.share_book.proofs.CarryLemmas.{pushed, popped, room_by}
use Rattle.share_book.proofs.TakeLemmas.{named_number}
use Rattle.share_book.proofs.TenantLemmas.{flow-above, numbered, flows-apart}

-- ---- Keys

abbrev pub flow_key : NameBytes × OpenFlow → NameBytes × ℕ
flow_key e = (e.0, e.1.number)

abbrev pub tenant_key : TenantView → NameBytes × ℕ
tenant_key t = (t.name, t.flow)

abbrev pub buffer_key : Buffer → ℕ × ℕ
buffer_key b = (b.flow, b.limit)

abbrev pub place_key : TenantView → ℕ × ℕ
place_key t = (t.flow, t.limit)

-- the buffers are the tenants', in their order, with their limits
abbrev pub AreShelved : PlanView → List Buffer → Type 0
AreShelved p bs = map buffer_key bs ≡ map place_key p.tenants

-- the flows and the buffers of a link are the tenants', and no frame is in part
pub record IsLaidOut (p : PlanView) (l : Live) : Type 0 where
  pub rising : ascends 0 (flows_of p.tenants) ≡ true
  pub flows : map flow_key l.graph.flows ≡ map tenant_key p.tenants
  pub buffers : AreShelved p l.buffers
  pub unparted : l.part ≡ None

map_map : {A B C : Type 0} (f : B → C) (g : A → B) (xs : List A) → map f (map g xs) ≡ map (λ x. f (g x)) xs
map_map f g [] = refl
map_map f g (x ∷ xs) = ap (λ ys. f (g x) ∷ ys) (map_map f g xs)

map_if : {A B : Type 0} (f : A → B) (b : Bool) (x : A) (o : Option A) (q : Option B) → q ≡ option_map f o
    → (if b then Some (f x) else q) ≡ option_map f (if b then Some x else o)
map_if f true x o q rest = refl
map_if f false x o q rest = rest

-- the item that is found among images is the image of the item that is found
find_map : {A B : Type 0} (f : A → B) (test : B → Bool) (xs : List A)
    → find test (map f xs) ≡ option_map f (find (λ x. test (f x)) xs)
find_map f test [] = refl
find_map f test (x ∷ xs) =
    map_if f (test (f x)) x (find (λ x. test (f x)) xs) (find test (map f xs)) (find_map f test xs)

lookup_tenant : (name : NameBytes) (ts : List TenantView)
    → lookup (bytes_eq name) (map tenant_key ts) ≡ option_map (λ (t : TenantView). t.flow) (find (is_tenant name) ts)
lookup_tenant name [] = refl
lookup_tenant name (t ∷ ts) =
    map_if (λ (t : TenantView). t.flow) (bytes_eq name t.name) t (find (is_tenant name) ts)
    (lookup (bytes_eq name) (map tenant_key ts)) (lookup_tenant name ts)

lookup_flow : (name : NameBytes) (es : List (NameBytes × OpenFlow))
    → lookup (bytes_eq name) (map flow_key es) ≡ number_in (lookup (bytes_eq name) es)
lookup_flow name [] = refl
lookup_flow name (e ∷ es) =
    map_if (λ (e : OpenFlow). e.number) (bytes_eq name e.0) e.1 (lookup (bytes_eq name) es)
    (lookup (bytes_eq name) (map flow_key es)) (lookup_flow name es)

abbrev found_flow : PlanView → NameBytes → Option ℕ
found_flow p name = option_map (λ (t : TenantView). t.flow) (find (is_tenant name) p.tenants)

abbrev or_zero : Option ℕ → ℕ
or_zero None = 0
or_zero (Some n) = n

number_zero : (o : Option OpenFlow) → flow_number o ≡ or_zero (number_in o)
number_zero None = refl
number_zero (Some e) = refl

tenant_zero : (o : Option TenantView) → flow_by o ≡ or_zero (option_map (λ (t : TenantView). t.flow) o)
tenant_zero None = refl
tenant_zero (Some t) = refl

-- ---- The packets that wait

-- the packets of a tenant that wait in these buffers
abbrev pub packets_of : PlanView → List Buffer → NameBytes → List (List ℕ)
packets_of p bs name = packets_by (buffer_of bs (tenant_flow p name))

abbrev limits_by : Option (ℕ × ℕ) → ℕ
limits_by None = 0
limits_by (Some k) = k.1

-- the buffer of a tenant
pub record IsTenantBuffer (bs : List Buffer) (t : TenantView) : Type 0 where
  pub buffer : Buffer
  pub found : buffer_of bs t.flow ≡ Some buffer
  pub limit : buffer.limit ≡ t.limit

found_buffer : (bs : List Buffer) (t : TenantView) (o : Option Buffer) → buffer_of bs t.flow ≡ o
    → option_map buffer_key o ≡ Some (place_key t) → IsTenantBuffer bs t
found_buffer bs t None found is = cc
found_buffer bs t (Some b) found is =
    record { buffer = b; found = found; limit = ap limits_by is }

module _ (p : PlanView) (bs : List Buffer) (rising : ascends 0 (flows_of p.tenants) ≡ true) (shelved : AreShelved p bs)
  where
    buffer_keys : (f : ℕ) → option_map buffer_key (buffer_of bs f)
        ≡ option_map place_key (find (λ (t : TenantView). nat_eq f t.flow) p.tenants)
    buffer_keys f =
        sym (find_map buffer_key (λ (k : ℕ × ℕ). nat_eq f k.0) bs)
        ∙ ap (find (λ (k : ℕ × ℕ). nat_eq f k.0)) shelved
        ∙ find_map place_key (λ (k : ℕ × ℕ). nat_eq f k.0) p.tenants

    pub tenant-buffer : (name : NameBytes) (t : TenantView) → find (is_tenant name) p.tenants ≡ Some t
        → IsTenantBuffer bs t
    tenant-buffer name t found =
        found_buffer bs t (buffer_of bs t.flow) refl
        (buffer_keys t.flow
        ∙ ap (option_map place_key) (numbered (is_tenant name) 0 p.tenants t rising found))

    zero_by : (o : Option TenantView) → find (λ (t : TenantView). nat_eq 0 t.flow) p.tenants ≡ o → o ≡ None
    zero_by None found = refl
    zero_by (Some t) found =
        let above = flow-above (λ (t : TenantView). nat_eq 0 t.flow) 0 p.tenants t rising found in
        let zero_flow = find-holds (λ (t : TenantView). nat_eq 0 t.flow) p.tenants t found in
        absurd (grind (arith, nat_tests, above, zero_flow))

    none_by : (o : Option Buffer) → option_map buffer_key o ≡ None → packets_by o ≡ []
    none_by None is = refl
    none_by (Some b) is = cc

    -- nothing waits of a name that the plan lacks
    pub none-waits : (name : NameBytes) → find (is_tenant name) p.tenants ≡ None → packets_of p bs name ≡ []
    none-waits name absent =
        ap (λ o. packets_by (buffer_of bs (flow_by o))) absent
        ∙ none_by (buffer_of bs 0)
        (buffer_keys 0
        ∙ ap (option_map place_key) (zero_by (find (λ (t : TenantView). nat_eq 0 t.flow) p.tenants) refl))

-- ---- One buffer

-- a packet goes to the back of its flow's buffer
push_last : (o : Option Buffer) (payload : List ℕ) → has_place o ≡ true
    → packets_by (option_map (with_packet payload) o) ≡ packets_by o ++ payload ∷ []
push_last None payload room = cc
push_last (Some b) payload room = refl

pub packets-push : (bs : List Buffer) (f : ℕ) (payload : List ℕ) → has_place (buffer_of bs f) ≡ true
    → packets_by (buffer_of (push_in bs f payload) f) ≡ packets_by (buffer_of bs f) ++ payload ∷ []
packets-push bs f payload room = ap packets_by (pushed bs f payload) ∙ push_last (buffer_of bs f) payload room

pub buffer-push_other : (bs : List Buffer) (f : ℕ) (payload : List ℕ) (g : ℕ) → nat_eq g f ≡ false
    → buffer_of (push_in bs f payload) g ≡ buffer_of bs g
buffer-push_other bs f payload g apart =
    find-change_first_other (is_buffer_of f) (is_buffer_of g) (with_packet payload)
    (other_buffer (with_packet payload) (λ b. refl) g f apart) bs

without_one : (o : Option Buffer) → packets_by (option_map without_head o) ≡ drop 1 (packets_by o)
without_one None = refl
without_one (Some b) = refl

pub packets-pop : (bs : List Buffer) (f : ℕ)
    → packets_by (buffer_of (pop_in bs f) f) ≡ drop 1 (packets_by (buffer_of bs f))
packets-pop bs f = ap packets_by (popped bs f) ∙ without_one (buffer_of bs f)

pub buffer-pop_other : (bs : List Buffer) (f g : ℕ) → nat_eq g f ≡ false → buffer_of (pop_in bs f) g ≡ buffer_of bs g
buffer-pop_other bs f g apart =
    find-change_first_other (is_buffer_of f) (is_buffer_of g) without_head
    (other_buffer without_head (λ b. refl) g f apart) bs

pub shelved-push : (p : PlanView) (bs : List Buffer) (f : ℕ) (payload : List ℕ) → AreShelved p bs
    → AreShelved p (push_in bs f payload)
shelved-push p bs f payload was =
    map-change_first buffer_key (is_buffer_of f) (with_packet payload) (λ b. refl) bs ∙ was

pub shelved-pop : (p : PlanView) (bs : List Buffer) (f : ℕ) → AreShelved p bs → AreShelved p (pop_in bs f)
shelved-pop p bs f was = map-change_first buffer_key (is_buffer_of f) without_head (λ b. refl) bs ∙ was

keys_awake : (f : ℕ) (b : Bool) (es : List (NameBytes × OpenFlow))
    → map flow_key (with_activity f b es) ≡ map flow_key es
keys_awake f b es = map-change_first flow_key (is_open_as f) (active_as b) (λ e. refl) es

-- ---- A packet that comes

module _ (p : PlanView) (l : Live) (laid : IsLaidOut p l) where
  number_is : (name : NameBytes) → number_in (flow_named l.graph name) ≡ found_flow p name
  number_is name =
      sym (lookup_flow name l.graph.flows)
      ∙ ap (lookup (bytes_eq name)) laid.flows ∙ lookup_tenant name p.tenants

  pub named-flow : (name : NameBytes) → named_number l name ≡ tenant_flow p name
  named-flow name =
      number_zero (flow_named l.graph name) ∙ ap or_zero (number_is name)
      ∙ sym (tenant_zero (find (is_tenant name) p.tenants))

  -- there is room for a packet only of a tenant
  pub record HasRoom (name : NameBytes) : Type 0 where
    pub tenant : TenantView
    pub found : find (is_tenant name) p.tenants ≡ Some tenant
    pub place : has_place (buffer_of l.buffers (tenant_flow p name)) ≡ true

  room_found : (name : NameBytes) (o : Option TenantView) → find (is_tenant name) p.tenants ≡ o
      → has_place (buffer_by l.buffers (option_map (λ (t : TenantView). t.flow) o)) ≡ true → HasRoom name
  room_found name None found room = cc
  room_found name (Some t) found room = record {
    tenant = t;
    found = found;
    place = ap (λ o. has_place (buffer_of l.buffers (flow_by o))) found ∙ room;
  }

  pub room-tenant : (name : NameBytes) → has_room l name ≡ true → HasRoom name
  room-tenant name room =
      room_found name (find (is_tenant name) p.tenants) refl
      (ap (λ o. has_place (buffer_by l.buffers o)) (sym (number_is name))
      ∙ sym (room_by l.buffers (flow_named l.graph name)) ∙ room)

  module _ (tenant : NameBytes) (payload : List ℕ) (room : has_room l tenant ≡ true) where
    pub laid-accept : IsLaidOut p (accept l (named_number l tenant) payload)
    laid-accept = record {
      rising = laid.rising;
      flows =
          keys_awake (named_number l tenant) (not (is_held l.books (named_number l tenant))) l.graph.flows ∙ laid.flows;
      buffers = shelved-push p l.buffers (named_number l tenant) payload laid.buffers;
      unparted = laid.unparted;
    }

    accept_by : (name : NameBytes) (own : Bool) → bytes_eq name tenant ≡ own
        → packets_of p (push_in l.buffers (tenant_flow p tenant) payload) name
        ≡ packets_of p l.buffers name ++ payload_if own payload
    accept_by name true test =
        let same : name ≡ tenant = same_name name tenant test in
        ap (packets_of p (push_in l.buffers (tenant_flow p tenant) payload)) same
        ∙ packets-push l.buffers (tenant_flow p tenant) payload (room-tenant tenant room).place
        ∙ ap (λ name. packets_of p l.buffers name ++ payload ∷ []) (sym same)
    accept_by name false test =
        let free = room-tenant tenant room in
        let apart : nat_eq (tenant_flow p name) (tenant_flow p tenant) ≡ false = apart_flow name test free in
        ap packets_by (buffer-push_other l.buffers (tenant_flow p tenant) payload (tenant_flow p name) apart)
        ∙ sym (append-nil (packets_of p l.buffers name))
      where
        apart_flow : (name : NameBytes) → bytes_eq name tenant ≡ false → HasRoom tenant
            → nat_eq (tenant_flow p name) (tenant_flow p tenant) ≡ false
        apart_flow name test free =
            let other : bytes_eq tenant name ≡ false = name_sym tenant name ∙ test in
            ap (λ o. nat_eq (tenant_flow p name) (flow_by o)) free.found
            ∙ other_way free.tenant.flow (tenant_flow p name)
            (flows-apart p.tenants laid.rising tenant name free.tenant free.found other)

    -- it is the last of its tenant, and of no other
    pub packets-accept : (name : NameBytes)
        → packets_of p (accept l (named_number l tenant) payload).buffers name
        ≡ packets_of p l.buffers name ++ payload_if (bytes_eq name tenant) payload
    packets-accept name =
        ap (λ f. packets_of p (push_in l.buffers f payload) name) (named-flow tenant)
        ∙ accept_by name (bytes_eq name tenant) refl

-- ---- A frame that is sent

sending_head_by : (l : Live) (s : Sending) (o : Option ℕ)
    → option_map (sending_at l 0) (option_and_then (head_of l.buffers) o) ≡ Some s
    → head_of l.buffers s.head.flow ≡ Some s.head
sending_head_by l s None is = cc
sending_head_by l s (Some f) is = by_head (head_of l.buffers f) refl is
  where
    by_head : (o : Option Packet) → head_of l.buffers f ≡ o → option_map (sending_at l 0) o ≡ Some s
        → head_of l.buffers s.head.flow ≡ Some s.head
    by_head None found is = cc
    by_head (Some h) found is =
        let head : h ≡ s.head = ap (λ (s : Sending). s.head) (same_Some (sending_at l 0 h) s is) in
        subst (λ (h : Packet). head_of l.buffers h.flow ≡ Some h) head
        (ap (head_of l.buffers) (head_of-flow l.buffers f h found) ∙ found)

sending-head : (l : Live) (s : Sending) → l.part ≡ None → sending l ≡ Some s
    → head_of l.buffers s.head.flow ≡ Some s.head
unfolding sending
sending-head l s unparted is =
    sending_head_by l s (next l.queue.clients) (sym (ap (sending_by l) unparted) ∙ is)

module _ (rates : List Rate) (p : PlanView) (l : Live) (laid : IsLaidOut p l) (s : Sending)
    (is : sending l ≡ Some s) where
  pub laid-whole : (k : ℕ) → IsLaidOut p (whole rates l s k)
  laid-whole k = record {
    rising = laid.rising;
    flows =
        keys_awake s.head.flow (is_busy (pop_in l.buffers s.head.flow) s.head.flow && not (is_held l.books s.head.flow))
        l.graph.flows
        ∙ laid.flows;
    buffers = shelved-pop p l.buffers s.head.flow laid.buffers;
    unparted = refl;
  }

  head_first : packets_by (buffer_of l.buffers s.head.flow)
      ≡ s.head.payload ∷ packets_by (buffer_of (pop_in l.buffers s.head.flow) s.head.flow)
  head_first =
      let at : IsHeadBuffer l.buffers s.head.flow s.head =
      head_buffer l.buffers s.head.flow s.head (sending-head l s laid.unparted is) in
      let all : packets_by (buffer_of l.buffers s.head.flow) ≡ s.head.payload ∷ at.head.behind =
      ap packets_by at.found ∙ at.head.packets in
      all ∙ ap (λ ps. s.head.payload ∷ ps)
      (sym (packets-pop l.buffers s.head.flow ∙ ap (drop 1) all))

  whole_by : (name : NameBytes) (own : Bool) → nat_eq (tenant_flow p name) s.head.flow ≡ own
      → packets_of p l.buffers name
      ≡ payload_if own s.head.payload ++ packets_of p (pop_in l.buffers s.head.flow) name
  whole_by name true test =
      let same : tenant_flow p name ≡ s.head.flow = eqb-true (tenant_flow p name) s.head.flow test in
      ap (λ f. packets_by (buffer_of l.buffers f)) same ∙ head_first
      ∙ ap (λ f. s.head.payload ∷ packets_by (buffer_of (pop_in l.buffers s.head.flow) f)) (sym same)
  whole_by name false test =
      ap packets_by (sym (buffer-pop_other l.buffers s.head.flow (tenant_flow p name) test))

  -- its packet was the first of its tenant
  pub packets-whole : (name : NameBytes) (k : ℕ)
      → packets_of p l.buffers name
      ≡ next_payload p name (Some s) ++ packets_of p (whole rates l s k).buffers name
  packets-whole name k = whole_by name (nat_eq (tenant_flow p name) s.head.flow) refl

-- ---- A control line

-- the commands of control lines
abbrev pub is_control : Command → Bool
is_control (Hold name) = true
is_control (Resume name) = true
is_control (Amend ticket amount) = true
is_control _ = false

-- the buffers and the flows stay
pub record StaysLaid (p : PlanView) (before after : Live) : Type 0 where
  pub laid : IsLaidOut p after
  pub buffers : after.buffers ≡ before.buffers

refused_stays : (p : PlanView) (l : Live) (o : Option Refusal) (done : Live × Reply) → StaysLaid p l done.0
    → IsLaidOut p l → StaysLaid p l (by_refusal l o done).0
refused_stays p l None done stays laid = stays
refused_stays p l (Some e) done stays laid =
    record {
      laid = record {
        rising = laid.rising;
        flows = laid.flows;
        buffers = laid.buffers;
        unparted = laid.unparted;
      };
      buffers = refl;
    }

module _ (p : PlanView) (l : Live) (laid : IsLaidOut p l) where
  awake_stays : (f : ℕ) (b : Bool) (after : Live) → after.graph.flows ≡ with_activity f b l.graph.flows
      → after.buffers ≡ l.buffers → after.part ≡ l.part → StaysLaid p l after
  awake_stays f b after flows buffers part = record {
    laid = record {
      rising = laid.rising;
      flows = ap (map flow_key) flows ∙ keys_awake f b l.graph.flows ∙ laid.flows;
      buffers = ap (map buffer_key) buffers ∙ laid.buffers;
      unparted = part ∙ laid.unparted;
    };
    buffers = buffers;
  }

  control_stays : (c : Command) → is_control c ≡ true → StaysLaid p l (change_by_command l c).0
  control_stays (Hold name) is =
      awake_stays (flow_number (flow_named l.graph name))
      (is_busy l.buffers (flow_number (flow_named l.graph name)) && not true)
      (change_by_command l (Hold name)).0 refl refl refl
  control_stays (Resume name) is =
      awake_stays (flow_number (flow_named l.graph name))
      (is_busy l.buffers (flow_number (flow_named l.graph name)) && not false)
      (change_by_command l (Resume name)).0 refl refl refl
  control_stays (Amend ticket amount) is = record {
    laid = record {
      rising = laid.rising;
      flows = laid.flows;
      buffers = laid.buffers;
      unparted = laid.unparted;
    };
    buffers = refl;
  }
  control_stays _ is = cc

  pub stays-control : (rates : List Rate) (c : Command) → is_control c ≡ true → StaysLaid p l (command_step rates l c).0
  stays-control rates c is =
      refused_stays p l (command_refusal rates l c) (change_by_command l c) (control_stays c is) laid

-- ---- Plans that keep their tenants

-- the tenants have the names, the numbers and the limits that they had
pub record KeepsTenants (p q : PlanView) : Type 0 where
  pub flows : map tenant_key q.tenants ≡ map tenant_key p.tenants
  pub limits : map place_key q.tenants ≡ map place_key p.tenants

pub keeps-held : (name : NameBytes) (held : Bool) (p : PlanView) → KeepsTenants p (with_hold name held p)
keeps-held name held p = record {
  flows = map-change_first tenant_key (is_tenant name) (held_as held) (λ t. refl) p.tenants;
  limits = map-change_first place_key (is_tenant name) (held_as held) (λ t. refl) p.tenants;
}

keeps_amount_by : (name : NameBytes) (index amount : ℕ) (p : PlanView) (of_currency : Bool)
    → KeepsTenants p (if of_currency
    then record p { currencies = change_first (has_name name) (currency_amended index amount) p.currencies }
    else record p { tenants = change_first (is_tenant name) (tenant_amended index amount) p.tenants })
keeps_amount_by name index amount p true = record { flows = refl; limits = refl }
keeps_amount_by name index amount p false = record {
  flows = map-change_first tenant_key (is_tenant name) (tenant_amended index amount) (λ t. refl) p.tenants;
  limits = map-change_first place_key (is_tenant name) (tenant_amended index amount) (λ t. refl) p.tenants;
}

pub keeps-amount : (name : NameBytes) (index amount : ℕ) (p : PlanView)
    → KeepsTenants p (with_amount name index amount p)
keeps-amount name index amount p = keeps_amount_by name index amount p (is_some (find (has_name name) p.currencies))

flows_numbers : (ts : List TenantView) → map (λ (k : NameBytes × ℕ). k.1) (map tenant_key ts) ≡ flows_of ts
flows_numbers ts = map_map (λ (k : NameBytes × ℕ). k.1) tenant_key ts

module _ (p q : PlanView) (keeps : KeepsTenants p q) where
  pub laid-kept : (l : Live) → IsLaidOut p l → IsLaidOut q l
  laid-kept l laid = record {
    rising =
        ap (ascends 0)
        (sym (flows_numbers q.tenants) ∙ ap (map (λ (k : NameBytes × ℕ). k.1)) keeps.flows ∙ flows_numbers p.tenants)
        ∙ laid.rising;
    flows = laid.flows ∙ sym keeps.flows;
    buffers = laid.buffers ∙ sym keeps.limits;
    unparted = laid.unparted;
  }

  pub flow-kept : (name : NameBytes) → tenant_flow q name ≡ tenant_flow p name
  flow-kept name =
      tenant_zero (find (is_tenant name) q.tenants)
      ∙ ap or_zero (sym (lookup_tenant name q.tenants) ∙ ap (lookup (bytes_eq name)) keeps.flows
      ∙ lookup_tenant name p.tenants)
      ∙ sym (tenant_zero (find (is_tenant name) p.tenants))

-- ---- The opening

module _ (p : PlanView) (l : Live) (holds : HoldsPlan p l) where
  pub laid-opened : ascends 0 (flows_of p.tenants) ≡ true → l.part ≡ None → IsLaidOut p l
  laid-opened rising unparted = record {
    rising = rising;
    flows = ap (map flow_key) holds.flows ∙ map_map flow_key planned_flow p.tenants;
    buffers = ap (map buffer_key) holds.buffers ∙ map_map buffer_key planned_buffer p.tenants;
    unparted = unparted;
  }

  empty_by : (o : Option TenantView) → packets_by (option_map planned_buffer o) ≡ []
  empty_by None = refl
  empty_by (Some t) = refl

  pub empty-opened : (name : NameBytes) → packets_of p l.buffers name ≡ []
  empty-opened name =
      ap (λ bs. packets_of p bs name) holds.buffers
      ∙ ap packets_by (find_map planned_buffer (is_buffer_of (tenant_flow p name)) p.tenants)
      ∙ empty_by (find (λ (t : TenantView). nat_eq (tenant_flow p name) t.flow) p.tenants)

-- ---- Places

module _ (p : PlanView) (l : Live) (laid : IsLaidOut p l) where
  places_found : (name : NameBytes) (o : Option TenantView) → find (is_tenant name) p.tenants ≡ o
      → places_by (buffer_by l.buffers (option_map (λ (t : TenantView). t.flow) o))
      ≡ limit_by o - length (packets_by (buffer_of l.buffers (flow_by o)))
  places_found name None found = omega arith
  places_found name (Some t) found =
      let own = tenant-buffer p l.buffers laid.rising laid.buffers name t found in
      ap places_by own.found
      ∙ ap (λ n. n - length own.buffer.packets) own.limit
      ∙ ap (λ o. t.limit - length (packets_by o)) (sym own.found)

  -- as many as the limit leaves
  pub places-left : (name : NameBytes) → places_for l name ≡ tenant_limit p name - length (packets_of p l.buffers name)
  places-left name =
      ap (λ o. places_by (buffer_by l.buffers o)) (number_is p l laid name)
      ∙ places_found name (find (is_tenant name) p.tenants) refl
