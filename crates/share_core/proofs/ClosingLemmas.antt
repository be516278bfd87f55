-- A flow that is closed, and the queue from which its client is removed.
use Rattle.std.proofs.Common.{◌≡◌, ◌+◌, ◌<◌, ◌≤◌, ◌^◌, ℕ, Bool, true, false, List, sym, subst, arith}
use Rattle.std.proofs.Common.{IsTrue, refl}
use Rattle.share_model.specs.declared.rates.Rate.{Rate}
use Rattle.share_model.specs.funding.Changes.{remove_flow}
use Rattle.share_model.specs.funding.Graph.{flow_numbers}
use Rattle.share_model.specs.link.Commands.{IsClosable}
use Rattle.share_model.specs.link.Live.{Live, tickets_of_all}
use Rattle.share_model.specs.link.Books.{account_of}
use Rattle.share_model.specs.link.View.{LinkView}
use Rattle.share_model.specs.lists.Rises.{has_number}
use Rattle.share_model.proofs.lemmas.run.PacketCountLemmas.{accounts-close_in}
use Rattle.share_model.proofs.lemmas.run.QueueLemmas.{queue-closed, tickets_of_all-can_level}
use Rattle.share_model.specs.run.Sound.{Sound, QueueIsSound}
use Rattle.share_model.proofs.lemmas.run.SoundLinkLemmas.{sound-numbered}
use Rattle.share_model.proofs.lemmas.run.SoundClosingLemmas.{numbers-without}
use Rattle.share_model.specs.stride.Moves.{Stride, client, remove}
use Rattle.share_model.specs.stride.Level.{level_one, CanLevel}
use Rattle.share_model.proofs.lemmas.stride.LevellingLemmas.{has_tickets-level_one}

pub closable : (k n : LinkView (Unit {0})) (f : ℕ) → k ≡ n → IsClosable n.live f → IsClosable k.live f
closable k n f same may = subst (λ (k : LinkView (Unit {0})). IsClosable k.live f) (sym same) may

idle : (competes : Bool) → (IsTrue competes → 0 < 0) → competes ≡ false
idle false none = refl
idle true none = absurd (omega (arith, none refl))

-- a client without tickets does not compete
pub levelled-idle : (q : Stride) (f : ℕ) → (client (level_one q f 0) f).competes ≡ false
levelled-idle q f =
    let has = has_tickets-level_one q f 0 in idle (client (level_one q f 0) f).competes (has.competes.0)

module _ {life : ℕ} {rates : List Rate} {l : Live} (sound : Sound life rates l) where
  -- the other flows are clients still
  pub can-close : (f : ℕ) → has_number f (flow_numbers l.graph.flows) ≡ true
      → CanLevel (remove (level_one l.queue f 0) f) (tickets_of_all (remove_flow l.graph f))
  can-close f stands =
      tickets_of_all-can_level (remove_flow l.graph f)
      (subst (λ ns. QueueIsSound life (l.counts.events + 1) ns (remove (level_one l.queue f 0) f))
      (sym (numbers-without f l.graph.flows))
      (queue-closed l.graph.next_flow f stands (sound-numbered sound) sound.queue))

  -- its account goes to those of the flows that were closed before
  pub past_few : life ≤ 2 ^ 24 → (f : ℕ) → l.counts.past + account_of l.books f < 2 ^ 54
  past_few short f = omega (arith, sound.books.accounts, accounts-close_in l.books f, sound.counts.events, short)
