-- Laws of runs, by the cases of an event: what holds of the empty state, and is kept in each case, holds of every run.
use Rattle.std.specs.Prelude.{◌≡◌, ◌<◌, ◌+◌, ℕ, Bool, true, false, List, [], ◌∷◌, ◌++◌, length, Option, None, Some}
use Rattle.std.proofs.Common.{refl, sym, subst}
use Rattle.std.proofs.lemmas.Bool.{cond_both, eqb-true}
use Rattle.std.proofs.lemmas.List.{append-nil}
use Rattle.share_base.specs.declared.refusal.Refusal.TheVariants.{BufferFull}
use Rattle.share_base.specs.declared.command.Command.{Command}
use Rattle.share_base.specs.declared.command.Reply.{Reply}
use Rattle.share_base.specs.declared.command.Reply.TheVariants.{Packet, Refused}
use Rattle.share_base.specs.declared.command.Event.{Event}
use Rattle.share_base.specs.declared.command.Event.TheVariants.{Commanded, Arrived, Written, Faulted}
use Rattle.share_base.specs.declared.version.Version.{Version}
use Rattle.share_model.specs.declared.rates.Rate.{Rate}
use Rattle.share_model.specs.declared.funding.OpenFlow.{OpenFlow as FlowEntry}
use Rattle.share_model.specs.link.Fields.{IsBody}
use Rattle.share_model.specs.link.Tariff.{AreInRange}
use Rattle.share_model.specs.link.Buffers.{Buffer, buffer_of, is_full}
use Rattle.share_model.specs.funding.Graph.{NameBytes, Graph}
use Rattle.share_model.specs.funding.Changes.{flow_named}
use Rattle.share_model.specs.link.Commands.{IsFunded, IsClosable}
use Rattle.share_model.proofs.lemmas.link.CommandLemmas.{command-cases}
use Rattle.share_model.specs.link.Live.{Live, with_one_event}
use Rattle.share_model.specs.link.Turns.{Sending}
use Rattle.share_model.specs.link.Commands.{command_step}
use Rattle.share_model.specs.link.Commands.{with_graph, open_flow_refusal, open_flow, close_flow, hold_flow}
use Rattle.share_model.specs.funding.Graph.{flow_numbers}
use Rattle.share_model.specs.lists.Rises.{has_number}
use Rattle.share_model.specs.link.Arrivals.{accept, arrive_in}
use Rattle.share_model.specs.link.Arrivals.{arrive_by, arrive_step}
use Rattle.share_model.specs.link.Turns.{frame_of, is_whole}
use Rattle.share_model.specs.link.Turns.{whole, in_part, torn_link}
use Rattle.share_model.specs.run.Fold.{Sent, TornFrame, State, empty_state, torn_by, step, state_after, run}
use Rattle.share_model.specs.run.Events.{Sends, MayCome, MayFollow}
use Rattle.share_model.specs.run.Sound.{SoundState}
use Rattle.share_model.proofs.lemmas.run.EventLemmas.{state-step, state-empty}
use Rattle.share_model.proofs.lemmas.run.ByteLemmas.{sent_of, written_as, step-written, step-failed}

-- P of the state after an event, in each case of it
pub record StepCases (P : State → Type 0) (rates : List Rate) (s : State) : Type 0 where
  pub refused : P (record { live = with_one_event s.live; done = s.done; torn = s.torn })
  pub funded : (g : Graph) → IsFunded s.live.graph g
      → P (record { live = with_graph s.live g; done = s.done; torn = s.torn })
  pub opened : (name : NameBytes) (limit tariff : ℕ) → open_flow_refusal rates s.live name limit tariff ≡ None
      → P (record { live = open_flow s.live name limit tariff; done = s.done; torn = s.torn })
  pub closed : (f : ℕ) → IsClosable s.live f
      → P (record { live = close_flow s.live f; done = s.done; torn = s.torn })
  pub held : (f : ℕ) (held : Bool) → has_number f (flow_numbers s.live.graph.flows) ≡ true
      → P (record { live = hold_flow s.live f held; done = s.done; torn = s.torn })
  pub accepted : (f : ℕ) (body : List ℕ) → IsBody s.live.version body → (b : Buffer)
      → buffer_of s.live.buffers f ≡ Some b
      → P (record { live = accept s.live f body; done = s.done; torn = s.torn })
  pub finished : (snd : Sending) (k : ℕ) → Sends s.live snd → snd.out + k ≡ length (frame_of snd)
      → P (record { live = whole rates s.live snd k; done = s.done ++ sent_of snd ∷ []; torn = s.torn })
  pub begun : (snd : Sending) (k : ℕ) → Sends s.live snd
      → P (record { live = in_part s.live snd k; done = s.done; torn = s.torn })
  pub tore : (snd : Sending) → Sends s.live snd
      → P (record { live = torn_link rates s.live snd; done = s.done; torn = Some (torn_by snd) })

-- the facts that two laws keep are kept together
pub both-cases : (P Q : State → Type 0) (rates : List Rate) (s : State) → StepCases P rates s → StepCases Q rates s
    → StepCases (λ s. P s × Q s) rates s
both-cases P Q rates s p q = record {
  refused = (p.refused, q.refused);
  funded = λ g funded. (p.funded g funded, q.funded g funded);
  opened = λ name limit tariff allowed. (p.opened name limit tariff allowed, q.opened name limit tariff allowed);
  closed = λ f may. (p.closed f may, q.closed f may);
  held = λ f held stands. (p.held f held stands, q.held f held stands);
  accepted = λ f body short b found. (p.accepted f body short b found, q.accepted f body short b found);
  finished = λ snd k sends whole. (p.finished snd k sends whole, q.finished snd k sends whole);
  begun = λ snd k sends. (p.begun snd k sends, q.begun snd k sends);
  tore = λ snd sends. (p.tore snd sends, q.tore snd sends);
}

at_done : (P : State → Type 0) (l : Live) (done : List Sent) (t : Option TornFrame)
    → P (record { live = l; done = done; torn = t }) → P (record { live = l; done = done ++ []; torn = t })
at_done P l done t is =
    subst (λ (ds : List Sent). P (record { live = l; done = ds; torn = t })) (sym (append-nil done)) is

command_case : (P : State → Type 0) (rates : List Rate) (s : State) → StepCases P rates s → (c : Command)
    → P (record { live = (command_step rates s.live c).0; done = s.done; torn = s.torn })
command_case P rates s cases c =
    command-cases (λ (l : Live). P (record { live = l; done = s.done; torn = s.torn })) rates s.live c cases.refused
    cases.funded cases.opened cases.closed cases.held

arrive_in_case : (P : State → Type 0) (rates : List Rate) (s : State) → StepCases P rates s → (f : ℕ) (body : List ℕ)
    → IsBody s.live.version body → (o : Option Buffer) → buffer_of s.live.buffers f ≡ o
    → P (record { live = (arrive_in s.live f body o).0; done = s.done; torn = s.torn })
arrive_in_case P rates s cases f body short None found = cases.refused
arrive_in_case P rates s cases f body short (Some b) found =
    cond_both (is_full b) (with_one_event s.live, Refused BufferFull) (accept s.live f body, Packet f b.next)
    (λ (d : Live × Reply). P (record { live = d.0; done = s.done; torn = s.torn })) (λ _. cases.refused)
    (λ _. cases.accepted f body short b found)

arrive_case : (P : State → Type 0) (rates : List Rate) (s : State) → StepCases P rates s → (body : List ℕ)
    → IsBody s.live.version body
    → (o : Option FlowEntry) → P (record { live = (arrive_by s.live body o).0; done = s.done; torn = s.torn })
arrive_case P rates s cases body short None = cases.refused
arrive_case P rates s cases body short (Some e) =
    arrive_in_case P rates s cases e.number body short (buffer_of s.live.buffers e.number) refl

write_case : (P : State → Type 0) (rates : List Rate) (s : State) → StepCases P rates s → (snd : Sending) (k : ℕ)
    → Sends s.live snd → (b : Bool) → is_whole snd k ≡ b → P (written_as rates s snd k b)
write_case P rates s cases snd k sends true test =
    cases.finished snd k sends (eqb-true (snd.out + k) (length (frame_of snd)) test)
write_case P rates s cases snd k sends false test =
    at_done P (in_part s.live snd k) s.done s.torn (cases.begun snd k sends)

-- P holds after any event that the link may make
pub step-cases : (P : State → Type 0) (rates : List Rate) (s : State) (e : Event) → MayCome s.live e
    → StepCases P rates s → P (step rates s e)
step-cases P rates s (Commanded c) may cases =
    at_done P (command_step rates s.live c).0 s.done s.torn
    (command_case P rates s cases c)
step-cases P rates s (Arrived name body) may cases =
    at_done P (arrive_step s.live name body.payload).0 s.done s.torn
    (arrive_case P rates s cases body.payload may.1 (flow_named s.live.graph name))
step-cases P rates s (Written k) may cases =
    subst P (sym (step-written rates s k may.frame may.sends.is))
    (write_case P rates s cases may.frame k may.sends (is_whole may.frame k) refl)
step-cases P rates s Faulted may cases =
    subst P (sym (step-failed rates s may.frame may.sends.is))
    (at_done P (torn_link rates s.live may.frame) s.done (Some (torn_by may.frame))
    (cases.tore may.frame may.sends))

module _ (P : State → Type 0) (life : ℕ) (rates : List Rate) (range : AreInRange rates)
    (keeps : (s : State) → SoundState life rates s → s.live.counts.events < life → P s → StepCases P rates s) where
  -- P holds after any events that may follow a state of which it holds
  pub after-cases : (es : List Event) (s : State) → SoundState life rates s → P s → MayFollow life rates s es
      → P (state_after rates s es)
  unfolding MayFollow state_after
  after-cases [] s sound was may = was
  after-cases (e ∷ es) s sound was may =
      after-cases es (step rates s e) (state-step range sound may.0 e may.1)
      (step-cases P rates s e may.1 (keeps s sound may.0 was)) may.2

  -- and of every run, if it holds of the empty state
  pub run-cases : {version : Version} → P (empty_state version) → (es : List Event)
      → MayFollow life rates (empty_state version) es → P (run version rates es)
  run-cases {version = version} first es may =
      after-cases es (empty_state version) (state-empty version life rates) first may
