-- Links after commands that are not refused, and their queues before they are levelled.
use Rattle.std.proofs.Common.{◌≡◌, ◌<◌, ◌∙◌, ℕ, List, None, ap, sym, subst}
use Rattle.share_base.specs.declared.command.Command.{Command}
use Rattle.share_model.specs.declared.rates.Rate.{Rate}
use Rattle.share_model.specs.funding.Graph.{Graph, flow_numbers}
use Rattle.share_model.specs.link.Live.{Live, by_refusal, tickets_of_all}
use Rattle.share_model.specs.link.Commands.{command_refusal, change_by_command}
use Rattle.share_model.proofs.lemmas.run.QueueLemmas.{tickets_of_all-can_level}
use Rattle.share_model.specs.run.Sound.{Sound, QueueIsSound}
use Rattle.share_model.proofs.lemmas.run.SoundClosingLemmas.{sound-commanded}
use Rattle.share_model.specs.stride.Level.{CanLevel}
use Rattle.share_core.specs.Levels.{AreTicketsOf, AreLevelAt}
use Rattle.share_core.proofs.LevellingLemmas.{level-by}

-- a command that nothing refuses
pub sound-done : {life : ℕ} {rates : List Rate} {l : Live} → Sound life rates l → l.counts.events < life
    → (c : Command) → command_refusal rates l c ≡ None → Sound life rates (change_by_command l c).0
sound-done {life = life} {rates = rates} {l = l} was few c allowed =
    subst (λ o. Sound life rates (by_refusal l o (change_by_command l c)).0) allowed (sound-commanded was few c)

-- the flows are still clients after a change of currencies and tickets
pub can-level : {life : ℕ} {rates : List Rate} {l : Live} → Sound life rates l → (now made : Graph) → now ≡ made
    → made.flows ≡ l.graph.flows → CanLevel l.queue (tickets_of_all now)
can-level {life = life} {l = l} was now made is flows =
    tickets_of_all-can_level now (subst (λ ns. QueueIsSound life l.counts.events ns l.queue)
    (ap flow_numbers (sym flows ∙ ap (λ (g : Graph). g.flows) (sym is))) was.queue)

-- and compete with what was kept
pub level-before : {life : ℕ} {rates : List Rate} {l : Live} → Sound life rates l → (levelled_with : List ℕ)
    → AreTicketsOf levelled_with l.graph → (now made : Graph) → now ≡ made → made.flows ≡ l.graph.flows
    → AreLevelAt l.queue (tickets_of_all now) levelled_with
level-before {l = l} was levelled_with kept now made is flows =
    level-by l.queue l.graph now levelled_with (ap flow_numbers (ap (λ (g : Graph). g.flows) is ∙ flows)) was.level kept
