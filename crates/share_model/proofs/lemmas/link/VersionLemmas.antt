-- No event of a link changes the version of its frames, and so no run and no call does.
use Rattle.std.specs.Prelude.{◌≡◌, ◌==◌, ℕ, Bool, true, false, List, [], ◌∷◌, Option, None, Some, MatchBool}
use Rattle.std.proofs.Common.{◌∙◌, refl, ap, inl, inr}
use Rattle.share_base.specs.declared.refusal.Refusal.{Refusal}
use Rattle.share_base.specs.declared.refusal.Refusal.TheVariants.{Spent as SpentRefusal}
use Rattle.share_base.specs.declared.command.Command.{Command}
use Rattle.share_base.specs.declared.command.Command.TheVariants.{MakeCurrency, RemoveCurrency, MakeTicket}
use Rattle.share_base.specs.declared.command.Command.TheVariants.{RemoveTicket, FundCurrency, FundFlow, Unfund}
use Rattle.share_base.specs.declared.command.Command.TheVariants.{OpenFlow, CloseFlow, Hold, Resume, Amend}
use Rattle.share_base.specs.declared.command.Reply.{Reply}
use Rattle.share_base.specs.declared.command.Reply.TheVariants.{Refused}
use Rattle.share_base.specs.declared.command.Turn.{Turn}
use Rattle.share_base.specs.declared.command.Turn.TheVariants.{Broken, Spent}
use Rattle.share_base.specs.declared.command.Event.{Event}
use Rattle.share_base.specs.declared.command.Event.TheVariants.{Commanded, Arrived, Written, Faulted}
use Rattle.share_base.specs.declared.version.Version.{Version}
use Rattle.share_model.specs.declared.funding.OpenFlow.{OpenFlow as FlowEntry}
use Rattle.share_model.specs.declared.rates.Rate.{Rate}
use Rattle.share_model.specs.declared.writer.Answer.{Answer}
use Rattle.share_model.specs.declared.writer.Answer.TheVariants.{Accepted, Interrupted, Failed}
use Rattle.share_model.specs.funding.Changes.{flow_named}
use Rattle.share_model.specs.link.Arrivals.{arrive_in, arrive_by, arrive_step}
use Rattle.share_model.specs.link.Buffers.{Buffer, buffer_of, is_full}
use Rattle.share_model.specs.link.Calls.{is_spent, Stepped, Steps, CommandCall, step_by_answer, OffersSome, TurnCall}
use Rattle.share_model.specs.link.Calls.{Tears, TearCall}
use Rattle.share_model.specs.link.Commands.{command_refusal, change_by_command, command_step}
use Rattle.share_model.specs.link.Live.{Live, by_refusal}
use Rattle.share_model.specs.link.Step.{write_by, fault_by, live_step}
use Rattle.share_model.specs.link.Turns.{Sending, sending, is_whole, write_step, fault_step}
use Rattle.share_model.specs.link.View.{LinkView}
use Rattle.share_model.specs.run.Fold.{empty_state, State, state_after, step, run}

-- Steps

changed : (l : Live) (c : Command) → (change_by_command l c).0.version ≡ l.version
changed l (MakeCurrency name) = refl
changed l (RemoveCurrency name) = refl
changed l (MakeTicket amount currency) = refl
changed l (RemoveTicket ticket) = refl
changed l (FundCurrency ticket currency) = refl
changed l (FundFlow ticket flow) = refl
changed l (Unfund ticket) = refl
changed l (OpenFlow name limit tariff) = refl
changed l (CloseFlow name) = refl
changed l (Hold name) = refl
changed l (Resume name) = refl
changed l (Amend ticket amount) = refl

refused_or : (l : Live) (o : Option Refusal) (next : Live × Reply) → next.0.version ≡ l.version
    → (by_refusal l o next).0.version ≡ l.version
refused_or l None next same = same
refused_or l (Some e) next same = refl

command_version : (rates : List Rate) (l : Live) (c : Command) → (command_step rates l c).0.version ≡ l.version
command_version rates l c = refused_or l (command_refusal rates l c) (change_by_command l c) (changed l c)

came_in : (l : Live) (f : ℕ) (body : List ℕ) (o : Option Buffer) → (arrive_in l f body o).0.version ≡ l.version
came_in l f body None = refl
came_in l f body (Some b) = by (is_full b) refl
  where
    by : (t : Bool) → is_full b ≡ t → (arrive_in l f body (Some b)).0.version ≡ l.version
    by true full = rw full refl
    by false room = rw room refl

came_by : (l : Live) (body : List ℕ) (o : Option FlowEntry) → (arrive_by l body o).0.version ≡ l.version
came_by l body None = refl
came_by l body (Some e) = came_in l e.number body (buffer_of l.buffers e.number)

arrive_version : (l : Live) (name body : List ℕ) → (arrive_step l name body).0.version ≡ l.version
arrive_version l name body = came_by l body (flow_named l.graph name)

write_version : (rates : List Rate) (l : Live) (s : Sending) (k : ℕ) → (write_step rates l s k).0.version ≡ l.version
write_version rates l s k = by (is_whole s k) refl
  where
    by : (t : Bool) → is_whole s k ≡ t → (write_step rates l s k).0.version ≡ l.version
    by true whole = rw whole refl
    by false part = rw part refl

written_by : (rates : List Rate) (l : Live) (k : ℕ) (o : Option Sending) → (write_by rates l k o).0.version ≡ l.version
written_by rates l k None = refl
written_by rates l k (Some s) = write_version rates l s k

faulted_by : (rates : List Rate) (l : Live) (o : Option Sending) → (fault_by rates l o).0.version ≡ l.version
faulted_by rates l None = refl
faulted_by rates l (Some s) = refl

event_version : (rates : List Rate) (l : Live) (e : Event) → (live_step rates l e).0.version ≡ l.version
event_version rates l (Commanded c) = command_version rates l c
event_version rates l (Arrived flow body) = arrive_version l flow body.payload
event_version rates l (Written k) = written_by rates l k (sending l)
event_version rates l Faulted = faulted_by rates l (sending l)

-- Runs

after_version : (rates : List Rate) (s : State) (es : List Event)
    → (state_after rates s es).live.version ≡ s.live.version
unfolding state_after
after_version rates s [] = refl
after_version rates s (e ∷ es) = after_version rates (step rates s e) es ∙ event_version rates s.live e

-- a run is of the version of its empty link
pub run-version : (version : Version) (rates : List Rate) (es : List Event)
    → (run version rates es).live.version ≡ version
run-version version rates es = after_version rates (empty_state version) es

-- Calls

module _ {W : Type 0} (old new : LinkView W) where
  same_version : new ≡ old → new.live.version ≡ old.live.version
  same_version same = ap (λ (k : LinkView W). k.live.version) same

  stepped_version : {A : Type 0} (next : Live × A) (answer : A) → next.0.version ≡ old.live.version
      → Stepped next old answer new → new.live.version ≡ old.live.version
  stepped_version next answer same did = ap (λ (l : Live). l.version) did.live ∙ same

  steps_by : (next : Live × Reply) (reply : Reply) (t : Bool) → next.0.version ≡ old.live.version
      → MatchBool t ((reply ≡ Refused SpentRefusal) × (new ≡ old)) (Stepped next old reply new)
      → new.live.version ≡ old.live.version
  steps_by next reply true same did = same_version did.1
  steps_by next reply false same did = stepped_version next reply same did

  pub command-version : (c : Command) (reply : Reply) → CommandCall old c reply new
      → new.live.version ≡ old.live.version
  command-version c reply (inl did) = same_version did.unchanged
  command-version c reply (inr did) =
      steps_by (command_step old.rates old.live c) reply (is_spent old) (command_version old.rates old.live c) did

  pub arrive-version : (name body : List ℕ) (reply : Reply) → Steps (λ rates l. arrive_step l name body) old reply new
      → new.live.version ≡ old.live.version
  arrive-version name body reply did =
      steps_by (arrive_step old.live name body) reply (is_spent old) (arrive_version old.live name body) did

  tears_by : (o : Option Sending) (turn : Turn) → Tears old o turn new → new.live.version ≡ old.live.version
  tears_by None turn did = same_version did.1
  tears_by (Some s) turn did = stepped_version (fault_step old.rates old.live s) turn refl did

  torn_by : (spent broken : Bool) (turn : Turn)
      → MatchBool spent ((turn ≡ Spent) × (new ≡ old))
      (MatchBool broken ((turn ≡ Broken) × (new ≡ old)) (Tears old (sending old.live) turn new))
      → new.live.version ≡ old.live.version
  torn_by true broken turn did = same_version did.1
  torn_by false true turn did = same_version did.1
  torn_by false false turn did = tears_by (sending old.live) turn did

  pub tear-version : (turn : Turn) → TearCall old turn new → new.live.version ≡ old.live.version
  tear-version turn did = torn_by (is_spent old) old.live.broken turn did

  module _ (answers : W → List ℕ → Answer → W → Type 0) (most : ℕ) (turn : Turn) where
    accepted_by : (s : Sending) (k : ℕ) (t : Bool) → (k == 0) ≡ t
        → (step_by_answer old.rates old.live s (Accepted k)).0.version ≡ old.live.version
    accepted_by s k true none = rw none refl
    accepted_by s k false some = rw some (write_version old.rates old.live s k)

    answered_by : (s : Sending) (answer : Answer)
        → (step_by_answer old.rates old.live s answer).0.version ≡ old.live.version
    answered_by s (Accepted k) = accepted_by s k (k == 0) refl
    answered_by s Interrupted = refl
    answered_by s Failed = refl

    offers_by : (o : Option Sending) → OffersSome answers old most o turn new → new.live.version ≡ old.live.version
    offers_by None did = same_version did.1
    offers_by (Some s) did = ap (λ (l : Live). l.version) did.live ∙ answered_by s did.answer

    turned_by : (spent broken : Bool)
        → MatchBool spent ((turn ≡ Spent) × (new ≡ old))
        (MatchBool broken ((turn ≡ Broken) × (new ≡ old)) (OffersSome answers old most (sending old.live) turn new))
        → new.live.version ≡ old.live.version
    turned_by true broken did = same_version did.1
    turned_by false true did = same_version did.1
    turned_by false false did = offers_by (sending old.live) did

    pub turn-version : TurnCall answers old most turn new → new.live.version ≡ old.live.version
    turn-version did = turned_by (is_spent old) old.live.broken did
