-- The client of a flow that competes with the same tickets before and after an event changes by a charge alone.
use Rattle.std.specs.Prelude.{◌≡◌, ◌≢◌, ◌<◌, ℕ, true, false, List, [], ◌∷◌, nat_eq, Option, None, Some}
use Rattle.std.specs.Prelude.{IsSome, unwrap_or}
use Rattle.std.specs.FinMap.{get}
use Rattle.std.specs.Set.{remove_key}
use Rattle.std.proofs.Common.{refl, ap, sym, ◌∙◌, subst, arith, inl, inr}
use Rattle.std.proofs.lemmas.Bool.{cases_eq, cond_both}
use Rattle.share_base.specs.declared.refusal.Refusal.TheVariants.{BufferFull}
use Rattle.share_base.specs.declared.command.Command.{Command}
use Rattle.share_base.specs.declared.command.Reply.{Reply}
use Rattle.share_base.specs.declared.command.Reply.TheVariants.{Packet as PacketReply, Refused}
use Rattle.share_model.specs.declared.funding.OpenFlow.{OpenFlow as FlowEntry}
use Rattle.share_model.specs.declared.rates.Rate.{Rate}
use Rattle.share_model.specs.declared.stride.Client.{Client}
use Rattle.share_model.specs.lists.Rises.{has_number}
use Rattle.share_model.proofs.lemmas.lists.FirstItemLemmas.{rises-fresh}
use Rattle.share_model.proofs.lemmas.lists.RemovalLemmas.{has_number-remove_same}
use Rattle.share_model.specs.funding.Graph.{NameBytes, flow_numbers}
use Rattle.share_model.specs.funding.Changes.{flow_named}
use Rattle.share_model.specs.link.Buffers.{Buffer, buffer_of, is_full}
use Rattle.share_model.proofs.lemmas.link.CommandLemmas.{command-cases}
use Rattle.share_model.specs.link.Live.{Live, with_one_event, with_level_queue, tickets_of_all}
use Rattle.share_model.specs.link.Commands.{close_flow}
use Rattle.share_model.specs.link.Commands.{command_step}
use Rattle.share_model.specs.link.Arrivals.{accept, arrive_in, arrive_by, arrive_step}
use Rattle.share_model.specs.stride.Moves.{Stride, client, new_client}
use Rattle.share_model.proofs.lemmas.stride.MoveLemmas.{client-with_client_other, client-remove_other}
use Rattle.share_model.specs.stride.Level.{level_one, level_all, HasTickets, AreDistinctFlows}
use Rattle.share_model.proofs.lemmas.stride.LevellingLemmas.{client-level_one_other, client-level_all_other}
use Rattle.share_model.proofs.lemmas.stride.LevellingLemmas.{has_tickets-level_one}
use Rattle.share_model.proofs.lemmas.stride.LevellingLemmas.{has_tickets-competing, level_one_stays}
use Rattle.share_model.proofs.lemmas.run.QueueLemmas.{tickets_of_all-distinct, level-flow}
use Rattle.share_model.specs.run.Shares.{CompetesWith}
use Rattle.share_model.specs.run.Sound.{Sound}
use Rattle.share_model.proofs.lemmas.run.SoundLinkLemmas.{sound-numbered}
use Rattle.share_model.proofs.lemmas.run.SoundClosingLemmas.{numbers-without}

-- A levelling leaves a client that keeps its tickets

same_tickets : (c : Client) (wanted many : ℕ) → HasTickets c wanted → c.competes ≡ true → c.tickets ≡ many
    → wanted ≡ many
same_tickets c wanted many has competes same = sym (has.tickets (has.competes.0 competes)) ∙ same

level_one_kept : (q : Stride) (f wanted many : ℕ) → HasTickets (client q f) many
    → (client (level_one q f wanted) f).competes ≡ true → (client (level_one q f wanted) f).tickets ≡ many
    → client (level_one q f wanted) f ≡ client q f
level_one_kept q f wanted many has competes same =
    let wants_it : wanted ≡ many =
    same_tickets (client (level_one q f wanted) f) wanted many (has_tickets-level_one q f wanted) competes same in
    ap (λ (n : Stride). client n f)
    (level_one_stays q f wanted (subst (HasTickets (client q f)) (sym wants_it) has))

level_all_kept : (q : Stride) (ws : List (ℕ × ℕ)) (f many : ℕ) → AreDistinctFlows ws → HasTickets (client q f) many
    → (client (level_all q ws) f).competes ≡ true → (client (level_all q ws) f).tickets ≡ many
    → client (level_all q ws) f ≡ client q f
level_all_kept q [] f many distinct has competes same = refl
level_all_kept q (want ∷ ws) f many distinct has competes same =
    let once = level_one q want.0 want.1 in
    elim (cases_eq f want.0) [
      | inl here ↦
          let after : client (level_all once ws) f ≡ client once f =
          subst (λ n. client (level_all once ws) n ≡ client once n) (sym here)
          (client-level_all_other once ws want.0 distinct.0) in
          after
          ∙ subst (λ n. client (level_one q n want.1) f ≡ client q f) here
          (level_one_kept q f want.1 many has
          (subst (λ n. (client (level_one q n want.1) f).competes ≡ true) (sym here)
          (sym (ap (λ (c : Client). c.competes) after) ∙ competes))
          (subst (λ n. (client (level_one q n want.1) f).tickets ≡ many) (sym here)
          (sym (ap (λ (c : Client). c.tickets) after) ∙ same)))
      | inr apart ↦
          let before : client once f ≡ client q f = client-level_one_other q want.0 want.1 f apart in
          level_all_kept once ws f many distinct.1 (subst (λ (c : Client). HasTickets c many) (sym before) has)
          competes same ∙ before
    ]

-- Flows that compete

there_by : (o : Option Client) → (unwrap_or o new_client).competes ≡ true → IsSome o
there_by None competes = cc
there_by (Some c) competes = refl

-- a flow that competes is open
pub competes-stands : {life : ℕ} {rates : List Rate} {l : Live} → Sound life rates l → (f : ℕ)
    → (client l.queue f).competes ≡ true → has_number f (flow_numbers l.graph.flows) ≡ true
competes-stands {l = l} sound f competes =
    sym (sound.queue.clients f) ∙ there_by (get l.queue.clients f) competes

-- and has tickets
competes_some : {life : ℕ} {rates : List Rate} {l : Live} → Sound life rates l → (f many : ℕ)
    → CompetesWith l.queue f many → 0 < many
competes_some {l = l} sound f many now =
    let has = level-flow l.queue l.graph f sound.level (competes-stands sound f now.competes) in
    let some = has.competes.0 now.competes in
    let same = has.tickets some in
    omega (arith, some, same, now.tickets)

-- a client that is as it was, whatever the levelling after
pub with_level_queue-kept : {life : ℕ} {rates : List Rate} {l : Live} (m : Live) (f many : ℕ) (c : Client)
    → Sound life rates l
    → client m.queue f ≡ c → c.competes ≡ (client l.queue f).competes → c.tickets ≡ (client l.queue f).tickets
    → CompetesWith l.queue f many → Sound life rates (with_level_queue m)
    → CompetesWith (with_level_queue m).queue f many
    → client (with_level_queue m).queue f ≡ c
with_level_queue-kept m f many c sound is competes tickets was after now =
    level_all_kept m.queue (tickets_of_all m.graph) f many
    (tickets_of_all-distinct m.graph m.graph.next_flow (sound-numbered after))
    (subst (λ (c : Client). HasTickets c many) (sym is)
    (has_tickets-competing c many (competes_some sound f many was) (competes ∙ was.competes) (tickets ∙ was.tickets)))
    now.competes now.tickets ∙ is

-- Commands

other_than_next : {life : ℕ} {rates : List Rate} {l : Live} → Sound life rates l → (f : ℕ)
    → (client l.queue f).competes ≡ true → f ≢ l.graph.next_flow
other_than_next {l = l} sound f competes same =
    let none : true ≡ false =
    sym (competes-stands sound f competes)
    ∙ (ap (λ n. has_number n (flow_numbers l.graph.flows)) same
    ∙ rises-fresh l.graph.next_flow (flow_numbers l.graph.flows) (sound-numbered sound)) in
    cc

other_than_closed : {life : ℕ} {rates : List Rate} {l : Live} → Sound life rates l → (f g : ℕ)
    → Sound life rates (close_flow l g) → (client (close_flow l g).queue f).competes ≡ true → f ≢ g
other_than_closed {l = l} sound f g after competes same =
    let none : true ≡ false =
    sym (competes-stands after f competes)
    ∙ (ap (has_number f) (numbers-without g l.graph.flows)
    ∙ (ap (λ n. has_number n (remove_key (nat_eq g) (flow_numbers l.graph.flows))) same
    ∙ has_number-remove_same l.graph.next_flow g (flow_numbers l.graph.flows) (sound-numbered sound))) in
    cc

-- the client after a command, if the flow competes with the same tickets
abbrev StaysClient : ℕ → List Rate → ℕ → ℕ → Live → Live → Type 0
StaysClient life rates f many l l' =
    Sound life rates l' → CompetesWith l'.queue f many → client l'.queue f ≡ client l.queue f

pub client-commanded : {life : ℕ} {rates : List Rate} {l : Live} → Sound life rates l → (f many : ℕ)
    → CompetesWith l.queue f many → (c : Command) → StaysClient life rates f many l (command_step rates l c).0
client-commanded {life = life} {rates = rates} {l = l} sound f many was c =
    command-cases (StaysClient life rates f many l) rates l c (λ after now. refl)
    (λ g funded after now. with_level_queue-kept (record (with_one_event l) { graph = g }) f many (client l.queue f)
    sound refl refl
    refl was after now)
    (λ name limit tariff allowed after now. with_level_queue-kept _ f many (client l.queue f) sound
    (client-with_client_other l.queue l.graph.next_flow new_client f (other_than_next sound f was.competes)) refl refl
    was after now)
    (λ g may after now. with_level_queue-kept _ f many (client l.queue f) sound
    (client-remove_other (level_one l.queue g 0) g f (other_than_closed sound f g after now.competes)
    ∙ client-level_one_other l.queue g 0 f (other_than_closed sound f g after now.competes)) refl refl was after now)
    (λ g held stands after now. with_level_queue-kept _ f many (client l.queue f) sound refl refl refl was after now)

arrived_in : {life : ℕ} {rates : List Rate} {l : Live} → Sound life rates l → (f many : ℕ)
    → CompetesWith l.queue f many → (n : ℕ) (body : List ℕ) (o : Option Buffer)
    → StaysClient life rates f many l (arrive_in l n body o).0
arrived_in sound f many was n body None = λ after now. refl
arrived_in {life = life} {rates = rates} {l = l} sound f many was n body (Some b) =
    cond_both (is_full b) (with_one_event l, Refused BufferFull) (accept l n body, PacketReply n b.next)
    (λ (d : Live × Reply). StaysClient life rates f many l d.0) (λ _ after now. refl)
    (λ _ after now. with_level_queue-kept _ f many (client l.queue f) sound refl refl refl was after now)

arrived_by : {life : ℕ} {rates : List Rate} {l : Live} → Sound life rates l → (f many : ℕ)
    → CompetesWith l.queue f many → (body : List ℕ) (o : Option FlowEntry)
    → StaysClient life rates f many l (arrive_by l body o).0
arrived_by sound f many was body None = λ after now. refl
arrived_by {l = l} sound f many was body (Some e) =
    arrived_in sound f many was e.number body (buffer_of l.buffers e.number)

pub client-arrived : {life : ℕ} {rates : List Rate} {l : Live} → Sound life rates l → (f many : ℕ)
    → CompetesWith l.queue f many → (name : NameBytes) (body : List ℕ)
    → StaysClient life rates f many l (arrive_step l name body).0
client-arrived {l = l} sound f many was name body = arrived_by sound f many was body (flow_named l.graph name)
