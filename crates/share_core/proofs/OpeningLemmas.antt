-- A flow that is opened, and the queue to which its client is added.
use Rattle.std.proofs.Common.{◌≡◌, ◌<◌, ◌+◌, ◌∙◌, ℕ, Bool, true, false, List, [], ◌∷◌, length, nat_le, nat_eq}
use Rattle.std.proofs.Common.{None, Some, IsSome}
use Rattle.std.proofs.Common.{Result}
use Rattle.std.proofs.Common.{Ok, Err, OnOk, IfErr, inl, refl, sym, ap, subst, arith}
use Rattle.std.proofs.lemmas.Bool.Decides.{nat_tests}
use Rattle.std.proofs.lemmas.List.{length-map}
use Rattle.std.specs.FinMap.{get, len}
use Rattle.share_base.specs.declared.refusal.Refusal.{Refusal}
use Rattle.share_base.specs.declared.command.Command.TheVariants.{OpenFlow as OpensFlow}
use Rattle.share_base.specs.declared.command.Reply.TheVariants.{Refused}
use Rattle.share_base.specs.declared.refusal.Refusal.TheVariants.{NoMemory}
use Rattle.share_model.specs.declared.funding.OpenFlow.{OpenFlow}
use Rattle.share_model.specs.declared.rates.Rate.{Rate}
use Rattle.share_model.specs.funding.Graph.{NameBytes, flow_numbers}
use Rattle.share_model.specs.funding.Changes.{add_flow}
use Rattle.share_model.specs.link.Live.{Live, tickets_of_all}
use Rattle.share_model.specs.link.Commands.{open_flow_refusal}
use Rattle.share_model.specs.link.Calls.{is_spent, CommandCall}
use Rattle.share_model.specs.link.View.{LinkView}
use Rattle.share_model.specs.link.Buffers.{Buffer, buffer_of, open_in, close_in}
use Rattle.share_model.specs.lists.Rises.{has_number}
use Rattle.share_model.proofs.lemmas.lists.FirstItemLemmas.{rises-fresh, is_some-find_number}
use Rattle.share_model.proofs.lemmas.run.QueueLemmas.{queue-added, tickets_of_all-can_level}
use Rattle.share_model.specs.run.Sound.{Sound, QueueIsSound}
use Rattle.share_model.proofs.lemmas.run.SoundLinkLemmas.{sound-numbered}
use Rattle.share_model.proofs.lemmas.run.SoundCommandLemmas.{numbers-added, openable}
use Rattle.share_model.specs.stride.Moves.{Stride, add, add_refusal}
use Rattle.share_model.specs.stride.Level.{CanLevel}
use Rattle.share_model.proofs.lemmas.lists.RemovalLemmas.{none_from}

-- a queue with room refuses no client
has_room : (q : Stride) → len q.clients < 64 → add_refusal q ≡ None
has_room q few = by_test (nat_le 64 (len q.clients)) refl
  where
    by_test : (b : Bool) → nat_le 64 (len q.clients) ≡ b → add_refusal q ≡ None
    by_test true is = absurd (grind (arith, nat_tests, few))
    by_test false is = rw is refl

pub added : (old new : Stride) (f : ℕ) (r : Result (Unit {0}) Refusal)
    → OnOk r ((new ≡ add old f) × (add_refusal old ≡ None))
    → IfErr r (λ e. (new ≡ old) × (add_refusal old ≡ Some e)) → add_refusal old ≡ None → new ≡ add old f
added old new f (Ok u) done refused room = done.0
added old new f (Err e) done refused room = absurd (no_refusal (sym refused.1 ∙ room))
  where
    no_refusal : Some e ≡ None → ⊥
    no_refusal is = cc

-- a buffer that is opened is there, and if it is closed again the buffers are what they were
pub open_in-found : (bs : List Buffer) (f limit : ℕ) → buffer_of bs f ≡ None → IsSome (buffer_of (open_in bs f limit) f)
open_in-found [] f limit none = grind (arith, nat_tests)
open_in-found (b ∷ bs) f limit none = by_test (nat_eq f b.flow) refl none (open_in-found bs f limit)
  where
    by_test : (t : Bool) → nat_eq f b.flow ≡ t → buffer_of (b ∷ bs) f ≡ None
        → (buffer_of bs f ≡ None → IsSome (buffer_of (open_in bs f limit) f))
        → IsSome (buffer_of (open_in (b ∷ bs) f limit) f)
    by_test true is none rest = rw is refl
    by_test false is none rest = rw is (rest (rw is at none))

pub close_in-open_in : (bs : List Buffer) (f limit : ℕ) → buffer_of bs f ≡ None → close_in (open_in bs f limit) f ≡ bs
close_in-open_in [] f limit none = grind (arith, nat_tests)
close_in-open_in (b ∷ bs) f limit none = by_test (nat_eq f b.flow) refl none (close_in-open_in bs f limit)
  where
    no_buffer : Some b ≡ None → ⊥
    no_buffer is = cc

    by_test : (t : Bool) → nat_eq f b.flow ≡ t → buffer_of (b ∷ bs) f ≡ None
        → (buffer_of bs f ≡ None → close_in (open_in bs f limit) f ≡ bs)
        → close_in (open_in (b ∷ bs) f limit) f ≡ b ∷ bs
    by_test true is none rest = absurd (no_buffer (rw is at none))
    by_test false is none rest = rw is (ap (λ bs. b ∷ bs) (rest (rw is at none)))

module _ {life : ℕ} {rates : List Rate} {l : Live} (sound : Sound life rates l) where
  fresh : has_number l.graph.next_flow (flow_numbers l.graph.flows) ≡ false
  fresh = rises-fresh l.graph.next_flow (flow_numbers l.graph.flows) (sound-numbered sound)

  -- the next flow is no client yet, and there is room for it
  pub next-unjoined : get l.queue.clients l.graph.next_flow ≡ None
  next-unjoined =
      none_from (get l.queue.clients l.graph.next_flow) (sound.queue.clients l.graph.next_flow ∙ fresh)

  -- and has no buffer
  pub next-unbuffered : buffer_of l.buffers l.graph.next_flow ≡ None
  next-unbuffered =
      none_from (buffer_of l.buffers l.graph.next_flow)
      (is_some-find_number (λ (b : Buffer). b.flow) l.graph.next_flow l.buffers
      ∙ (ap (has_number l.graph.next_flow) sound.flows.buffered ∙ fresh))

  client_count : len l.queue.clients ≡ length l.graph.flows
  client_count = sound.queue.count ∙ length-map l.graph.flows (λ (e : NameBytes × OpenFlow). e.1.number)

  -- all can be levelled once it is open
  pub can-open : length l.graph.flows < 64 → (name : NameBytes)
      → CanLevel (add l.queue l.graph.next_flow) (tickets_of_all (add_flow l.graph name))
  can-open room name =
      tickets_of_all-can_level (add_flow l.graph name)
      (subst (λ ns. QueueIsSound life (l.counts.events + 1) ns (add l.queue l.graph.next_flow))
      (sym (numbers-added l.graph name))
      (queue-added l.graph.next_flow fresh (omega (arith, room, sym sound.queue.count ∙ client_count)) sound.queue))

  -- there is room for a flow that may be opened
  pub allowed-room : (name : NameBytes) (limit tariff : ℕ) → open_flow_refusal rates l name limit tariff ≡ None
      → length l.graph.flows < 64
  allowed-room name limit tariff allowed = (openable rates l name limit tariff allowed).space

  pub queue-room : (name : NameBytes) (limit tariff : ℕ) → open_flow_refusal rates l name limit tariff ≡ None
      → add_refusal l.queue ≡ None
  queue-room name limit tariff allowed =
      has_room l.queue (omega (arith, client_count, allowed-room name limit tariff allowed))

pub allowed_of : (k n : LinkView (Unit {0})) (name : NameBytes) (limit tariff : ℕ) → k ≡ n
    → open_flow_refusal n.rates n.live name limit tariff ≡ None
    → open_flow_refusal k.rates k.live name limit tariff ≡ None
allowed_of k n name limit tariff same allowed =
    subst (λ (k : LinkView (Unit {0})). open_flow_refusal k.rates k.live name limit tariff ≡ None) (sym same) allowed

-- nothing changed if no memory was found
pub found_none : (k n new : LinkView (Unit {0})) (name : NameBytes) (limit tariff : ℕ) → k ≡ n → new ≡ k
    → is_spent n ≡ false → open_flow_refusal n.rates n.live name limit tariff ≡ None
    → CommandCall n (OpensFlow name limit tariff) (Refused NoMemory) new
found_none k n new name limit tariff same unchanged living allowed = inl record {
  reply_is = refl;
  unchanged = unchanged ∙ same;
  living = living;
  takes = refl;
  allowed = allowed;
}
