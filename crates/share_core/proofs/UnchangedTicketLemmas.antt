-- Commands that change the tickets of no flow: the link is level after them as it was before.
use Rattle.std.proofs.Common.{◌≡◌, ◌<◌, ◌∙◌, ℕ, false, List, [], ◌∷◌, length, map, take, None, ap, refl, sym, subst}
use Rattle.std.specs.Prelude.{MatchBool}
use Rattle.share_base.specs.declared.command.Command.{Command}
use Rattle.share_base.specs.declared.command.Reply.{Reply}
use Rattle.share_base.specs.declared.command.Reply.TheVariants.{Refused}
use Rattle.share_base.specs.declared.refusal.Refusal.TheVariants.{Spent}
use Rattle.share_model.specs.declared.funding.OpenFlow.{OpenFlow}
use Rattle.share_model.specs.declared.rates.Rate.{Rate}
use Rattle.share_model.specs.funding.Graph.{NameBytes, Graph, tickets}
use Rattle.share_model.specs.link.Calls.{is_spent, Stepped, CommandStep}
use Rattle.share_model.specs.link.Live.{Live, with_one_event, by_refusal}
use Rattle.share_model.specs.link.Commands.{with_graph, command_refusal, command_step}
use Rattle.share_model.specs.link.Commands.{change_by_command}
use Rattle.share_model.specs.link.Live.{tickets_of_all}
use Rattle.share_model.specs.link.View.{LinkView}
use Rattle.share_model.specs.run.Sound.{Sound}
use Rattle.share_model.specs.stride.Level.{level_all, IsLevel}
use Rattle.share_model.proofs.lemmas.stride.LevellingLemmas.{level_stays}
use Rattle.share_core.specs.Levels.{AreTicketsOf}
use Rattle.share_core.proofs.FundingLemmas.{sound-done}

wants_by : (before now : ℕ → ℕ) → ((f : ℕ) → now f ≡ before f) → (es : List (NameBytes × OpenFlow))
    → map {B = ℕ × ℕ} (λ (e : NameBytes × OpenFlow). (e.1.number, now e.1.number)) es
    ≡ map {B = ℕ × ℕ} (λ (e : NameBytes × OpenFlow). (e.1.number, before e.1.number)) es
wants_by before now same [] = refl
wants_by before now same (e ∷ es) =
    ap (λ (t : ℕ). (e.1.number, t) ∷ map {B = ℕ × ℕ} (λ (e : NameBytes × OpenFlow). (e.1.number, now e.1.number)) es)
    (same e.1.number)
    ∙ ap (λ (ws : List (ℕ × ℕ)). (e.1.number, before e.1.number) ∷ ws) (wants_by before now same es)

-- the same flows, each with the tickets that it had
pub record AreUnmoved (before now : Graph) : Type 0 where
  pub flows : now.flows ≡ before.flows
  pub tickets : (f : ℕ) → tickets now f ≡ tickets before f

tickets_of_all-unmoved : (before now : Graph) → AreUnmoved before now → tickets_of_all now ≡ tickets_of_all before
tickets_of_all-unmoved before now unmoved =
    ap (map {B = ℕ × ℕ} (λ (e : NameBytes × OpenFlow). (e.1.number, tickets now e.1.number))) unmoved.flows
    ∙ wants_by (tickets before) (tickets now) unmoved.tickets before.flows

-- no client takes a move
queue-unmoved : {life : ℕ} {rates : List Rate} {l : Live} → Sound life rates l → (now : Graph)
    → AreUnmoved l.graph now → level_all l.queue (tickets_of_all now) ≡ l.queue
queue-unmoved {l = l} was now unmoved =
    level_stays l.queue (tickets_of_all now)
    (subst (IsLevel l.queue) (sym (tickets_of_all-unmoved l.graph now unmoved)) was.level)

-- and what is kept beside the queue stays
pub kept-unmoved : (levelled_with : List ℕ) (before now : Graph) → AreUnmoved before now
    → AreTicketsOf levelled_with before
    → AreTicketsOf levelled_with now
kept-unmoved levelled_with before now unmoved kept =
    ap (λ (es : List (NameBytes × OpenFlow)). take (length es) levelled_with) unmoved.flows ∙ kept
    ∙ ap (map {B = ℕ} (λ (want : ℕ × ℕ). want.1)) (sym (tickets_of_all-unmoved before now unmoved))

-- the link with this graph is sound
pub sound-unmoved : {life : ℕ} {rates : List Rate} {l : Live} → Sound life rates l → l.counts.events < life
    → (c : Command) → command_refusal rates l c ≡ None → (now : Graph) → (change_by_command l c).0 ≡ with_graph l now
    → AreUnmoved l.graph now → Sound life rates (record (with_one_event l) { graph = now })
sound-unmoved {life = life} {rates = rates} {l = l} was few c allowed now is unmoved =
    subst (λ q. Sound life rates (record (with_one_event l) { graph = now; queue = q })) (queue-unmoved was now unmoved)
    (subst (Sound life rates) is (sound-done was few c allowed))

-- the view of a link in contracts
abbrev seen : ℕ → List Rate → Live → LinkView (Unit {0})
seen life rates l = record { life = life; rates = rates; live = l; writer = tt }

-- and is what the command's step leads to
pub steps-unmoved : {life : ℕ} {rates : List Rate} {l : Live} → Sound life rates l → (old : LinkView (Unit {0}))
    → seen life rates l ≡ old → is_spent old ≡ false
    → (c : Command) → command_refusal rates l c ≡ None → (now : Graph) (reply : Reply)
    → change_by_command l c ≡ (with_graph l now, reply) → AreUnmoved l.graph now
    → CommandStep old c reply (seen life rates (record (with_one_event l) { graph = now }))
steps-unmoved {life = life} {rates = rates} {l = l} was old same living c allowed now reply is unmoved =
    let new = seen life rates (record (with_one_event l) { graph = now }) in
    let step : command_step rates l c ≡ (with_graph l now, reply) =
    ap (λ o. by_refusal l o (change_by_command l c)) allowed ∙ is in
    let stays : with_graph l now ≡ record (with_one_event l) { graph = now } =
    ap (λ q. record (with_one_event l) { graph = now; queue = q }) (queue-unmoved was now unmoved) in
    let stepped : Stepped (command_step rates l c) (seen life rates l) reply new = record {
      live = sym (ap (λ (p : Live × Reply). p.0) step ∙ stays);
      answer_is = sym (ap (λ (p : Live × Reply). p.1) step);
      rest = record { life = refl; rates = refl; writer = refl };
    } in
    subst (λ (k : LinkView (Unit {0})). is_spent k ≡ false → CommandStep k c reply new) same
    (λ alive. subst (λ b. MatchBool b ((reply ≡ Refused Spent) × (new ≡ seen life rates l))
    (Stepped (command_step rates l c) (seen life rates l) reply new)) (sym alive) stepped) living
