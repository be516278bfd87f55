-- Packets that come for a flow by its name.
use Rattle.std.proofs.Common.{◌≡◌, ◌<◌, ◌≤◌, ◌^◌, ◌∙◌, ℕ, true, List, map, length, find, Option, None, Some, option_map}
use Rattle.std.proofs.Common.{IsSome, IfSome, false, bytes_eq, refl, sym, ap, subst, arith}
use Rattle.std.specs.Prelude.{Bool, if◌then◌else◌}
use Rattle.std.proofs.lemmas.List.{length-map}
use Rattle.std.proofs.lemmas.Option.{same_Some}
use Rattle.share_base.specs.declared.command.Reply.{Reply}
use Rattle.share_base.specs.declared.command.Reply.TheVariants.{Refused, Packet as PacketReply}
use Rattle.share_base.specs.declared.refusal.Refusal.TheVariants.{BufferFull}
use Rattle.share_model.specs.declared.link.Book.{Book}
use Rattle.share_model.specs.declared.rates.Rate.{Rate}
use Rattle.share_model.specs.link.Live.{Live, with_one_event}
use Rattle.share_model.specs.link.Books.{is_book_of}
use Rattle.share_model.specs.link.Arrivals.{accept, arrive_in}
use Rattle.share_model.specs.link.Fields.{IsBody}
use Rattle.share_model.specs.lists.Rises.{has_number}
use Rattle.share_model.proofs.lemmas.lists.FirstItemLemmas.{each-find, is_some-find_number}
use Rattle.std.specs.FinMap.{get}
use Rattle.share_model.specs.declared.funding.OpenFlow.{OpenFlow}
use Rattle.share_model.specs.link.Buffers.{Buffer, buffer_of, is_buffer_of, is_full}
use Rattle.share_model.specs.funding.Graph.{NameBytes, Graph, flow_numbers}
use Rattle.share_model.specs.funding.Changes.{flow_named}
use Rattle.share_model.specs.run.Sound.{Sound, IsSoundBuffer}
use Rattle.share_model.proofs.lemmas.run.SoundLinkLemmas.{flow-buffered}
use Rattle.share_model.proofs.lemmas.run.SoundCommandLemmas.{sound-accept}
use Rattle.share_model.proofs.lemmas.link.BufferLemmas.{number-of_named}
use Rattle.share_model.specs.link.Calls.{Stepped}
use Rattle.share_model.specs.link.View.{LinkView}
use Rattle.share_core.specs.Room.{has_place, free_by}

-- the entry of which a number was read
pub record HasNumber (o : Option OpenFlow) (f : ℕ) : Type 0 where
  pub entry : OpenFlow
  pub found : o ≡ Some entry
  pub number : entry.number ≡ f

pub entry_of : (o : Option OpenFlow) (f : ℕ) → option_map (λ (e : OpenFlow). e.number) o ≡ Some f → HasNumber o f
entry_of None f is = absurd (cc)
entry_of (Some e) f is = record { entry = e; found = refl; number = cc }

-- an open flow has a buffer
pub buffered : (k : LinkView (Unit {0})) → Sound k.life k.rates k.live → (name : NameBytes) (f : ℕ)
    → option_map (λ (e : OpenFlow). e.number) (flow_named k.live.graph name) ≡ Some f
    → IsSome (buffer_of k.live.buffers f)
buffered k sound name f is =
    let has = entry_of (flow_named k.live.graph name) f is in
    subst (λ (n : ℕ). IsSome (buffer_of k.live.buffers n)) has.number (flow-buffered sound name has.found)

-- and stands among the flows
pub open_stands : (g : Graph) (name : NameBytes) (f : ℕ)
    → option_map (λ (e : OpenFlow). e.number) (flow_named g name) ≡ Some f → has_number f (flow_numbers g.flows) ≡ true
open_stands g name f is =
    let has = entry_of (flow_named g name) f is in
    subst (λ (n : ℕ). has_number n (flow_numbers g.flows) ≡ true) has.number
    (number-of_named (bytes_eq name) g.flows has.entry has.found)

same_length : {A B C : Type 0} (f : A → C) (g : B → C) (xs : List A) (ys : List B) → map f xs ≡ map g ys
    → length xs ≡ length ys
same_length f g xs ys same = sym (length-map xs f) ∙ ap length same ∙ length-map ys g

-- as many books as open flows
pub book_count : {life : ℕ} {rates : List Rate} {l : Live} → Sound life rates l
    → length l.books ≡ length l.graph.flows
book_count {l = l} sound =
    same_length (λ (b : Book). b.flow) (λ (e : NameBytes × OpenFlow). e.1.number) l.books l.graph.flows
    sound.flows.booked

-- the next number of a buffer fits its field
pub few_numbers : {life : ℕ} {rates : List Rate} {l : Live} → Sound life rates l → life ≤ 2 ^ 24 → (f : ℕ)
    → IfSome (buffer_of l.buffers f) (λ b. is_full b ≡ false → b.next < 2 ^ 32)
few_numbers {l = l} sound short f = by_buffer (buffer_of l.buffers f) refl
  where
    by_buffer : (o : Option Buffer) → buffer_of l.buffers f ≡ o → IfSome o (λ b. is_full b ≡ false → b.next < 2 ^ 32)
    by_buffer None found = tt
    by_buffer (Some b) found =
        let is = each-find (IsSoundBuffer l.version l.counts.events) (is_buffer_of f) l.buffers b sound.buffers found in
        λ _. omega (arith, is.numbers, sound.counts.events, short)

-- the outcome of a packet for a flow with a buffer: it takes the next number, or the buffer is full
module _ (l : Live) (f : ℕ) (body : List ℕ) where
  pub came : (o : Option Buffer) (n : ℕ) → IsSome o → IfSome o (λ b. (n ≡ b.next) × (is_full b ≡ false))
      → (accept l f body, PacketReply f n) ≡ arrive_in l f body o
  came None n some is = absurd (cc)
  came (Some b) n some is = rw (is.1, is.0) refl

  pub came_full : (o : Option Buffer) → IsSome o → IfSome o (λ b. is_full b ≡ true)
      → (with_one_event l, Refused BufferFull) ≡ arrive_in l f body o
  came_full None some full = absurd (cc)
  came_full (Some b) some full = rw full refl

-- the event of a packet that a full buffer, which stays as it is, handed back
pub refused_full : (k n new : LinkView (Unit {0})) (f : ℕ) (body : List ℕ) (reply : Reply) (bs : List Buffer) → k ≡ n
    → bs ≡ k.live.buffers → IsSome (buffer_of k.live.buffers f)
    → IfSome (buffer_of k.live.buffers f) (λ b. is_full b ≡ true)
    → Stepped (with_one_event (record k.live { buffers = bs }), Refused BufferFull)
    (record k { live = record k.live { buffers = bs } }) reply new
    → Stepped (arrive_in n.live f body (buffer_of n.live.buffers f)) n reply new
refused_full k n new f body reply bs same unchanged some full did =
    subst (λ (n : LinkView (Unit {0})). Stepped (arrive_in n.live f body (buffer_of n.live.buffers f)) n reply new) same
    (subst (λ (next : Live × Reply). Stepped next k reply new)
    (came_full k.live f body (buffer_of k.live.buffers f) some full)
    (subst (λ (bs : List Buffer). Stepped (with_one_event (record k.live { buffers = bs }), Refused BufferFull)
    (record k { live = record k.live { buffers = bs } }) reply new) unchanged did))

-- the event of a packet that took the next number
pub took_number : (k n new : LinkView (Unit {0})) (f : ℕ) (body : List ℕ) (number : ℕ) → k ≡ n
    → IsSome (buffer_of k.live.buffers f)
    → IfSome (buffer_of k.live.buffers f) (λ b. (number ≡ b.next) × (is_full b ≡ false))
    → new ≡ record k { live = accept k.live f body }
    → Stepped (arrive_in n.live f body (buffer_of n.live.buffers f)) n (PacketReply f number) new
took_number k n new f body number same some taken is =
    subst (λ (n : LinkView (Unit {0})). Stepped (arrive_in n.live f body (buffer_of n.live.buffers f)) n
    (PacketReply f number) new) same
    (subst (λ (next : Live × Reply). Stepped next k (PacketReply f number) new)
    (came k.live f body (buffer_of k.live.buffers f) number some taken)
    (subst (λ (new : LinkView (Unit {0})). Stepped (accept k.live f body, PacketReply f number) k
    (PacketReply f number) new) (sym is)
    (record { live = refl; answer_is = refl; rest = record { life = refl; rates = refl; writer = refl } })))

-- a packet that comes for an open flow
pub sound-came : {life : ℕ} {rates : List Rate} {l : Live} → Sound life rates l → l.counts.events < life → (f : ℕ)
    (body : List ℕ) → IsBody l.version body → IsSome (buffer_of l.buffers f) → Sound life rates (accept l f body)
sound-came {life = life} {rates = rates} {l = l} sound few f body is there = by_buffer
    (buffer_of l.buffers f) refl there
  where
    by_buffer : (o : Option Buffer) → buffer_of l.buffers f ≡ o → IsSome o → Sound life rates (accept l f body)
    by_buffer None found some = absurd (cc)
    by_buffer (Some b) found some = sound-accept sound few f body is b found

-- a payload is one of the version that the link was seen to have
pub body_in : (k n : LinkView (Unit {0})) (body : List ℕ) → k ≡ n → IsBody n.live.version body
    → IsBody k.live.version body
body_in k n body same is = subst (λ (k : LinkView (Unit {0})). IsBody k.live.version body) (sym same) is

-- an open flow is a client of the queue, and has a buffer and a book
module _ {life : ℕ} {rates : List Rate} {l : Live} (sound : Sound life rates l) (f : ℕ)
    (stands : has_number f (flow_numbers l.graph.flows) ≡ true) where
  pub stands-joined : IsSome (get l.queue.clients f)
  stands-joined = sound.queue.clients f ∙ stands

  pub stands-buffered : IsSome (buffer_of l.buffers f)
  stands-buffered =
      is_some-find_number (λ (b : Buffer). b.flow) f l.buffers ∙ (ap (has_number f) sound.flows.buffered ∙ stands)

  pub stands-booked : IsSome (find (is_book_of f) l.books)
  stands-booked =
      is_some-find_number (λ (b : Book). b.flow) f l.books ∙ (ap (has_number f) sound.flows.booked ∙ stands)

-- ---- A flow that is free

some_of : (b : Bool) (m n : ℕ) → (if b then Some m else None) ≡ Some n → (b ≡ true) × (m ≡ n)
some_of true m n is = (refl, same_Some m n is)
some_of false m n is = cc

there_of : (o : Option Buffer) → has_place o ≡ true → IsSome o
there_of None free = cc
there_of (Some b) free = refl

-- has a buffer
pub free-there : (bs : List Buffer) (o : Option OpenFlow) (n : ℕ) → free_by bs o ≡ Some n → IsSome (buffer_of bs n)
free-there bs None n is = cc
free-there bs (Some e) n is =
    let both = some_of (has_place (buffer_of bs e.number)) e.number n is in
    subst (λ (n : ℕ). IsSome (buffer_of bs n)) both.1 (there_of (buffer_of bs e.number) both.0)
