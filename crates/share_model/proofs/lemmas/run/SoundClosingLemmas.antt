-- A flow that is closed leaves what holds of every link; and so any command does.
use Rattle.std.specs.Prelude.{◌≡◌, ◌<◌, ◌+◌, ℕ, Bool, true, false, List, nat_eq, Option, None, Some}
use Rattle.std.specs.Prelude.{if◌then◌else◌}
use Rattle.std.specs.Set.{remove_key}
use Rattle.std.proofs.Common.{refl, ap, sym, ◌∙◌, subst, arith}
use Rattle.share_base.specs.declared.command.Command.{Command}
use Rattle.share_base.specs.declared.version.Version.{Version}
use Rattle.share_model.specs.declared.funding.OpenFlow.{OpenFlow as FlowEntry}
use Rattle.share_model.specs.declared.link.Book.{Book}
use Rattle.share_model.specs.declared.link.Part.{Part}
use Rattle.share_model.specs.declared.rates.Rate.{Rate}
use Rattle.share_model.proofs.lemmas.lists.CountLemmas.{Each-remove}
use Rattle.share_model.proofs.lemmas.lists.RemovalLemmas.{map-remove_key, values-remove_key, other_way}
use Rattle.share_model.proofs.lemmas.lists.RemovalLemmas.{has_number-remove_same}
use Rattle.share_model.proofs.lemmas.lists.FirstItemLemmas.{each_map, each-other}
use Rattle.share_model.specs.lists.Rises.{Rises, has_number}
use Rattle.share_model.specs.funding.Graph.{NameBytes, flow_numbers}
use Rattle.share_model.specs.funding.Changes.{without_flow}
use Rattle.share_model.proofs.lemmas.funding.FlowLemmas.{well_formed-remove_flow}
use Rattle.share_model.specs.link.Buffers.{Buffer, is_buffer_of, close_in}
use Rattle.share_model.proofs.lemmas.link.BufferLemmas.{flows-close_in, head_of-closed_other, fillings, fillings-same}
use Rattle.share_model.proofs.lemmas.link.BufferLemmas.{buffer_flows}
use Rattle.share_model.proofs.lemmas.link.HoldLemmas.{is_held-closed_other}
use Rattle.share_model.specs.link.Commands.{IsClosable}
use Rattle.share_model.proofs.lemmas.link.CommandLemmas.{command-cases}
use Rattle.share_model.specs.link.Live.{Live}
use Rattle.share_model.specs.link.Books.{is_book_of, is_held}
use Rattle.share_model.specs.link.Commands.{is_part_of, is_torn_of, close_flow, command_step}
use Rattle.share_model.specs.stride.Moves.{remove}
use Rattle.share_model.specs.stride.Level.{level_one}
use Rattle.share_model.specs.run.Sound.{QueueIsSound, FlowsAreTied, IsSoundBuffer, IsOnShelf, PartIsSound, TornIsNamed}
use Rattle.share_model.specs.run.Sound.{Sound, is_awake}
use Rattle.share_model.proofs.lemmas.run.PacketCountLemmas.{close_in-balance, accounts-close_in}
use Rattle.share_model.proofs.lemmas.run.QueueLemmas.{queue-closed}
use Rattle.share_model.proofs.lemmas.run.SoundLinkLemmas.{sound-numbered}
use Rattle.share_model.proofs.lemmas.run.SoundCommandLemmas.{sound-with_level_queue, buffers-later}
use Rattle.share_model.proofs.lemmas.run.SoundCommandLemmas.{sound-with_one_event}
use Rattle.share_model.proofs.lemmas.run.SoundCommandLemmas.{sound-with_graph}
use Rattle.share_model.proofs.lemmas.run.SoundCommandLemmas.{sound-open_flow}
use Rattle.share_model.proofs.lemmas.run.SoundHoldLemmas.{sound-hold_flow}

pub numbers-without : (f : ℕ) (es : List (NameBytes × FlowEntry))
    → flow_numbers (without_flow f es) ≡ remove_key (nat_eq f) (flow_numbers es)
numbers-without f es = map-remove_key (λ (e : NameBytes × FlowEntry). e.1.number) (nat_eq f) es

-- the flows that stay are held as before
stay_held : (limit f : ℕ) (bs : List Buffer) (books : List Book) → Rises limit (buffer_flows bs)
    → fillings (is_held (remove_key (is_book_of f) books)) (close_in bs f) ≡ fillings (is_held books) (close_in bs f)
stay_held limit f bs books rises =
    let gone : has_number f (buffer_flows (close_in bs f)) ≡ false =
    ap (has_number f) (flows-close_in bs f) ∙ has_number-remove_same limit f (buffer_flows bs) rises in
    fillings-same (is_held books) (is_held (remove_key (is_book_of f) books)) (close_in bs f)
    (each_map (λ g. nat_eq f g ≡ false) (λ g. is_held (remove_key (is_book_of f) books) g ≡ is_held books g)
    (λ g apart. is_held-closed_other books f g apart) (buffer_flows (close_in bs f))
    (each-other f (buffer_flows (close_in bs f)) gone))

flows_closed : (limit f : ℕ) {es : List (NameBytes × FlowEntry)} {bs : List Buffer} {books : List Book}
    → FlowsAreTied es bs books → Rises limit (flow_numbers es)
    → FlowsAreTied (without_flow f es) (close_in bs f) (remove_key (is_book_of f) books)
flows_closed limit f {es = es} {bs = bs} {books = books} was rises = record {
  buffered = flows-close_in bs f ∙ (ap (remove_key (nat_eq f)) was.buffered ∙ sym (numbers-without f es));
  booked =
      map-remove_key (λ (b : Book). b.flow) (nat_eq f) books
      ∙ (ap (remove_key (nat_eq f)) was.booked ∙ sym (numbers-without f es));
  active =
      values-remove_key (λ (e : NameBytes × FlowEntry). e.1.number) (λ (b : Buffer). b.flow)
      (λ (e : NameBytes × FlowEntry). e.1.active) (is_awake books) f es bs (sym was.buffered) was.active
      ∙ sym (stay_held limit f bs books (subst (Rises limit) (sym was.buffered) rises));
}

part_closed : (v : Version) (bs : List Buffer) (f : ℕ) (o : Option Part) → is_part_of f o ≡ false
    → PartIsSound v bs o → PartIsSound v (close_in bs f) o
part_closed v bs f None unsent was = tt
part_closed v bs f (Some p) unsent was = record {
  head = was.head;
  found = head_of-closed_other bs f p.flow (other_way f p.flow unsent) ∙ was.found;
  some = was.some;
  few = was.few;
}

torn_named : (bs : List Buffer) (broken : Bool) (f g : ℕ) (b : Bool) → nat_eq f g ≡ b → TornIsNamed bs broken (Some g)
    → TornIsNamed (close_in bs f) broken (if b then None else Some g)
torn_named bs broken f g true test was = tt
torn_named bs broken f g false test was = record {
  broken_is = was.broken_is;
  head = was.head;
  found = head_of-closed_other bs f g (other_way f g test) ∙ was.found;
}

torn_closed : (bs : List Buffer) (broken : Bool) (f : ℕ) (o : Option ℕ) → TornIsNamed bs broken o
    → TornIsNamed (close_in bs f) broken (if is_torn_of f o then None else o)
torn_closed bs broken f None was = tt
torn_closed bs broken f (Some g) was = torn_named bs broken f g (nat_eq f g) refl was

pub sound-close_flow : {life : ℕ} {rates : List Rate} {l : Live} → Sound life rates l → l.counts.events < life
    → (f : ℕ) → IsClosable l f → Sound life rates (close_flow l f)
sound-close_flow {life = life} {rates = rates} {l = l} was few f may = sound-with_level_queue (record {
  some = omega arith;
  counts = record {
    events = omega (arith, few);
    accepted = omega (arith, was.counts.accepted);
    sent = omega (arith, was.counts.sent);
    balance =
        close_in-balance l.counts.accepted l.counts.written l.counts.dropped l.buffers l.broken l.torn f was.torn.named
        was.counts.balance;
  };
  funding = record {
    kept = well_formed-remove_flow l.graph was.funding.kept f;
    next_ticket = omega (arith, was.funding.next_ticket);
    next_flow = omega (arith, was.funding.next_flow);
  };
  flows = flows_closed l.graph.next_flow f was.flows (sound-numbered was);
  queue =
      subst (λ ns. QueueIsSound life (l.counts.events + 1) ns (remove (level_one l.queue f 0) f))
      (sym (numbers-without f l.graph.flows))
      (queue-closed l.graph.next_flow f may.stands (sound-numbered was) was.queue);
  buffers =
      Each-remove (IsSoundBuffer l.version (l.counts.events + 1)) (is_buffer_of f) l.buffers
      (buffers-later l.version l.counts.events l.buffers was.buffers);
  books = record {
    known = Each-remove (IsOnShelf rates) (is_book_of f) l.books was.books.known;
    accounts = omega (arith, was.books.accounts, accounts-close_in l.books f);
  };
  part = part_closed l.version l.buffers f l.part may.unsent was.part;
  torn = record {
    named = torn_closed l.buffers l.broken f l.torn was.torn.named;
    unparted = was.torn.unparted;
  };
})

pub sound-commanded : {life : ℕ} {rates : List Rate} {l : Live} → Sound life rates l → l.counts.events < life
    → (c : Command) → Sound life rates (command_step rates l c).0
sound-commanded {life = life} {rates = rates} {l = l} was few c =
    command-cases (Sound life rates) rates l c (sound-with_one_event was few) (sound-with_graph was few)
    (sound-open_flow was few) (sound-close_flow was few) (sound-hold_flow was few)
