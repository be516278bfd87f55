-- The torn packet of a broken link: it stays the head of its flow, until the flow is closed.
use Rattle.std.specs.Prelude.{◌≡◌, ◌⊎◌, ◌<◌, ◌≤◌, ℕ, Bool, true, false, List, [], ◌∷◌, nat_eq, Option, None, Some}
use Rattle.std.specs.Prelude.{if◌then◌else◌}
use Rattle.std.specs.Option.{option_or}
use Rattle.std.specs.Set.{remove_key}
use Rattle.std.proofs.Common.{refl, ap, sym, ◌∙◌, subst, arith, inl, inr}
use Rattle.std.proofs.lemmas.Bool.{cond_both, eqb-true, ne_eqb}
use Rattle.std.proofs.lemmas.List.Folds.{find-append}
use Rattle.share_base.specs.declared.refusal.Refusal.TheVariants.{BufferFull}
use Rattle.share_base.specs.declared.command.Command.{Command}
use Rattle.share_base.specs.declared.command.Reply.{Reply}
use Rattle.share_base.specs.declared.command.Reply.TheVariants.{Packet as PacketReply, Refused}
use Rattle.share_model.specs.declared.funding.OpenFlow.{OpenFlow as FlowEntry}
use Rattle.share_model.specs.declared.rates.Rate.{Rate}
use Rattle.share_model.specs.lists.Rises.{Rises}
use Rattle.share_model.proofs.lemmas.lists.RemovalLemmas.{find-remove_other, find-absent, has_number-remove_same}
use Rattle.share_model.proofs.lemmas.lists.RemovalLemmas.{other_way}
use Rattle.share_model.specs.lists.Rises.{has_number}
use Rattle.share_model.specs.funding.Graph.{NameBytes}
use Rattle.share_model.specs.funding.Changes.{flow_named}
use Rattle.share_model.specs.link.Buffers.{Buffer, is_buffer_of, buffer_of, new_buffer, open_in, close_in, push_in}
use Rattle.share_model.specs.link.Buffers.{head_of}
use Rattle.share_model.specs.link.Buffers.{is_full}
use Rattle.share_model.proofs.lemmas.link.BufferLemmas.{buffer_flows, head_of-open_in, head_of-push_in}
use Rattle.share_model.proofs.lemmas.link.BufferLemmas.{head_of-closed_other}
use Rattle.share_model.proofs.lemmas.link.BufferLemmas.{buffer_of-absent, flows-push_in, flows-close_in}
use Rattle.share_model.proofs.lemmas.link.CommandLemmas.{command-cases}
use Rattle.share_model.specs.link.Live.{Live, with_one_event}
use Rattle.share_model.specs.link.Commands.{is_torn_of, with_graph, open_flow, close_flow, hold_flow}
use Rattle.share_model.specs.link.Commands.{command_step}
use Rattle.share_model.specs.link.Arrivals.{accept, arrive_in, arrive_by, arrive_step}
use Rattle.share_model.specs.run.Fold.{TornFrame}
use Rattle.share_model.specs.run.Sound.{Sound, IsTornHead, IsTornGone, TornIsTold}
use Rattle.share_model.proofs.lemmas.run.SoundLinkLemmas.{sound-numbered}

-- the place of the torn packet
abbrev IsTornPlaced : List Buffer → Option ℕ → TornFrame → Type 0
IsTornPlaced buffers torn t = IsTornHead buffers torn t ⊎ IsTornGone buffers torn t

told_kept : (l l' : Live) (o : Option TornFrame) → l'.broken ≡ l.broken → l.graph.next_flow ≤ l'.graph.next_flow
    → (l.torn ≡ None → l'.torn ≡ None)
    → ((t : TornFrame) → t.head.flow < l.graph.next_flow → IsTornPlaced l.buffers l.torn t
    → IsTornPlaced l'.buffers l'.torn t) → TornIsTold l o → TornIsTold l' o
told_kept l l' None broken more none place was = (broken ∙ was.0, none was.1)
told_kept l l' (Some t) broken more none place was = record {
  broken = broken ∙ was.broken;
  given = omega (arith, was.given);
  place = place t was.given was.place;
}

-- Openings

below_self : (f g : ℕ) → f < g → f ≡ g → ⊥
below_self f g below same = omega arith

opened_absent : (bs : List Buffer) (next limit f : ℕ) → f < next → buffer_of bs f ≡ None
    → buffer_of (open_in bs next limit) f ≡ None
opened_absent bs next limit f below absent =
    find-append (is_buffer_of f) bs (new_buffer next limit ∷ [])
    ∙ (ap (λ o. option_or o (if nat_eq f next then Some (new_buffer next limit) else None)) absent
    ∙ ap (λ b. if b then Some (new_buffer next limit) else None) (ne_eqb f next (below_self f next below)))

place_opened : (bs : List Buffer) (torn : Option ℕ) (next limit : ℕ) (t : TornFrame) → t.head.flow < next
    → IsTornPlaced bs torn t → IsTornPlaced (open_in bs next limit) torn t
place_opened bs torn next limit t below (inl at) =
    inl (record { named = at.named; head = head_of-open_in bs next limit t.head.flow t.head at.head })
place_opened bs torn next limit t below (inr gone) =
    inr (record { unnamed = gone.unnamed; closed = opened_absent bs next limit t.head.flow below gone.closed })

-- Closings

-- a flow that is closed has no buffer
pub close_in-same : (limit : ℕ) (bs : List Buffer) (f g : ℕ) → f ≡ g → Rises limit (buffer_flows bs)
    → buffer_of (close_in bs g) f ≡ None
close_in-same limit bs f g same rises =
    find-absent (λ (b : Buffer). b.flow) f (close_in bs g)
    (ap (has_number f) (flows-close_in bs g)
    ∙ (ap (λ n. has_number n (remove_key (nat_eq g) (buffer_flows bs))) same
    ∙ has_number-remove_same limit g (buffer_flows bs) rises))

closed_absent : (limit : ℕ) (bs : List Buffer) (f g : ℕ) (b : Bool) → nat_eq f g ≡ b → Rises limit (buffer_flows bs)
    → buffer_of bs f ≡ None → buffer_of (close_in bs g) f ≡ None
closed_absent limit bs f g true test rises absent = close_in-same limit bs f g (eqb-true f g test) rises
closed_absent limit bs f g false test rises absent = find-remove_other (λ (b : Buffer). b.flow) g f test bs ∙ absent

place_named : (limit : ℕ) (bs : List Buffer) (torn : Option ℕ) (g : ℕ) (t : TornFrame) (b : Bool)
    → nat_eq g t.head.flow ≡ b → Rises limit (buffer_flows bs) → torn ≡ Some t.head.flow
    → head_of bs t.head.flow ≡ Some t.head
    → IsTornPlaced (close_in bs g) (if is_torn_of g torn then None else torn) t
place_named limit bs torn g t true test rises named head = inr (record {
  unnamed =
      ap (λ o. if is_torn_of g o then None else o) named ∙ ap (λ b. if b then None else Some t.head.flow) test;
  closed = close_in-same limit bs t.head.flow g (sym (eqb-true g t.head.flow test)) rises;
})
place_named limit bs torn g t false test rises named head = inl (record {
  named = ap (λ o. if is_torn_of g o then None else o) named ∙ ap (λ b. if b then None else Some t.head.flow) test;
  head = head_of-closed_other bs g t.head.flow (other_way g t.head.flow test) ∙ head;
})

place_closed : (limit : ℕ) (bs : List Buffer) (torn : Option ℕ) (g : ℕ) (t : TornFrame) → Rises limit (buffer_flows bs)
    → IsTornPlaced bs torn t → IsTornPlaced (close_in bs g) (if is_torn_of g torn then None else torn) t
place_closed limit bs torn g t rises (inl at) =
    place_named limit bs torn g t (nat_eq g t.head.flow) refl rises at.named at.head
place_closed limit bs torn g t rises (inr gone) = inr (record {
  unnamed = ap (λ o. if is_torn_of g o then None else o) gone.unnamed;
  closed = closed_absent limit bs t.head.flow g (nat_eq t.head.flow g) refl rises gone.closed;
})

-- the buffers are in the order of flow numbers
pub buffers-rise : {life : ℕ} {rates : List Rate} {l : Live} → Sound life rates l
    → Rises l.graph.next_flow (buffer_flows l.buffers)
buffers-rise {l = l} sound = subst (Rises l.graph.next_flow) (sym sound.flows.buffered) (sound-numbered sound)

-- Commands and arrivals

torn_refused : (l : Live) (o : Option TornFrame) → TornIsTold l o → TornIsTold (with_one_event l) o
torn_refused l o was = told_kept l (with_one_event l) o refl (omega arith) (λ none. none) (λ t below place. place) was

pub torn-commanded : {life : ℕ} {rates : List Rate} {l : Live} → Sound life rates l → (c : Command)
    → (o : Option TornFrame) → TornIsTold l o → TornIsTold (command_step rates l c).0 o
torn-commanded {rates = rates} {l = l} sound c o was =
    command-cases (λ (l' : Live). TornIsTold l' o) rates l c (torn_refused l o was)
    (λ g funded. told_kept l (with_graph l g) o refl (omega (arith, funded.next_flow)) (λ none. none)
    (λ t below place. place) was)
    (λ name limit tariff allowed. told_kept l (open_flow l name limit tariff) o refl (omega arith) (λ none. none)
    (λ t below place. place_opened l.buffers l.torn l.graph.next_flow limit t below place) was)
    (λ f may. told_kept l (close_flow l f) o refl (omega arith)
    (λ none. ap (λ o. if is_torn_of f o then None else o) none)
    (λ t below place. place_closed l.graph.next_flow l.buffers l.torn f t (buffers-rise sound) place) was)
    (λ f held stands. told_kept l (hold_flow l f held) o refl (omega arith) (λ none. none) (λ t below place. place) was)

place_pushed : (bs : List Buffer) (torn : Option ℕ) (f : ℕ) (body : List ℕ) (t : TornFrame) → IsTornPlaced bs torn t
    → IsTornPlaced (push_in bs f body) torn t
place_pushed bs torn f body t (inl at) =
    inl (record { named = at.named; head = head_of-push_in bs f body t.head.flow t.head at.head })
place_pushed bs torn f body t (inr gone) = inr (record {
  unnamed = gone.unnamed;
  closed = buffer_of-absent bs (push_in bs f body) t.head.flow (flows-push_in bs f body) gone.closed;
})

torn_in : (l : Live) (f : ℕ) (body : List ℕ) (b : Option Buffer) (o : Option TornFrame) → TornIsTold l o
    → TornIsTold (arrive_in l f body b).0 o
torn_in l f body None o was = torn_refused l o was
torn_in l f body (Some b) o was =
    cond_both (is_full b) (with_one_event l, Refused BufferFull) (accept l f body, PacketReply f b.next)
    (λ (d : Live × Reply). TornIsTold d.0 o) (λ _. torn_refused l o was)
    (λ _. told_kept l (accept l f body) o refl (omega arith) (λ none. none)
    (λ t below place. place_pushed l.buffers l.torn f body t place) was)

torn_by : (l : Live) (body : List ℕ) (e : Option FlowEntry) (o : Option TornFrame) → TornIsTold l o
    → TornIsTold (arrive_by l body e).0 o
torn_by l body None o was = torn_refused l o was
torn_by l body (Some e) o was = torn_in l e.number body (buffer_of l.buffers e.number) o was

pub torn-arrived : (l : Live) (name : NameBytes) (body : List ℕ) (o : Option TornFrame) → TornIsTold l o
    → TornIsTold (arrive_step l name body).0 o
torn-arrived l name body o was = torn_by l body (flow_named l.graph name) o was

-- a link that is whole has none
pub torn-none : (l : Live) (o : Option TornFrame) → l.broken ≡ false → TornIsTold l o → o ≡ None
torn-none l None unbroken was = refl
torn-none l (Some t) unbroken was = let b : true ≡ false = sym was.broken ∙ unbroken in cc
