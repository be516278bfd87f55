-- A flow that is held, or whose hold ends, keeps the invariant of every link.
use Rattle.std.specs.Prelude.{◌≡◌, ◌<◌, ◌+◌, ℕ, Bool, true, false, not, ◌&&◌, List, [], ◌∷◌, find, map, nat_eq}
use Rattle.std.specs.Prelude.{is_some, if◌then◌else◌}
use Rattle.std.proofs.Common.{refl, ap, sym, ◌∙◌, subst, arith}
use Rattle.std.proofs.lemmas.List.Sums.{sum_by-cons}
use Rattle.share_model.specs.declared.link.Book.{Book}
use Rattle.share_model.specs.declared.rates.Rate.{Rate}
use Rattle.share_model.specs.declared.funding.OpenFlow.{OpenFlow as FlowEntry}
use Rattle.share_model.specs.funding.Graph.{NameBytes, flow_numbers}
use Rattle.share_model.specs.funding.Changes.{with_activity}
use Rattle.share_model.specs.link.Books.{is_book_of, is_held, with_hold, books_with_hold}
use Rattle.share_model.specs.link.Buffers.{Buffer, is_buffer_of, has_packet, is_busy, is_some_packet}
use Rattle.share_model.specs.link.Commands.{hold_flow}
use Rattle.share_model.specs.link.Live.{Live}
use Rattle.share_model.specs.lists.Change.{change_first}
use Rattle.share_model.specs.lists.Rises.{Rises, has_number}
use Rattle.share_model.specs.run.Sound.{Sound, FlowsAreTied, QueueIsSound, IsOnShelf, accounts_in}
use Rattle.share_model.proofs.lemmas.funding.FlowLemmas.{well_formed-set_active}
use Rattle.share_model.proofs.lemmas.link.BufferLemmas.{numbers-with_activity, activities-changed}
use Rattle.share_model.proofs.lemmas.link.HoldLemmas.{is_held-with_hold, is_held-with_hold_other}
use Rattle.share_model.proofs.lemmas.lists.FirstItemLemmas.{map-change_first, each-change_first, is_some-find_number}
use Rattle.share_model.proofs.lemmas.run.PacketCountLemmas.{counts-later}
use Rattle.share_model.proofs.lemmas.run.QueueLemmas.{queue-later}
use Rattle.share_model.proofs.lemmas.run.SoundLinkLemmas.{sound-numbered}
use Rattle.share_model.proofs.lemmas.run.SoundCommandLemmas.{sound-with_level_queue, buffers-later, found-own}

same_account : (held : Bool) (b : Book) (books books' : List Book) (k : Bool) → accounts_in books' ≡ accounts_in books
    → accounts_in (if k then with_hold held b ∷ books else b ∷ books') ≡ accounts_in (b ∷ books)
same_account held b books books' true rest = refl
same_account held b books books' false rest =
    sum_by-cons (λ (b : Book). b.account) b books'
    ∙ (ap (λ n. b.account + n) rest ∙ sym (sum_by-cons (λ (b : Book). b.account) b books))

accounts_held : (f : ℕ) (held : Bool) (books : List Book)
    → accounts_in (books_with_hold books f held) ≡ accounts_in books
unfolding change_first
accounts_held f held [] = refl
accounts_held f held (b ∷ books) =
    same_account held b books (books_with_hold books f held) (nat_eq f b.flow) (accounts_held f held books)

booked_held : (f : ℕ) (held : Bool) (books : List Book)
    → map (λ (b : Book). b.flow) (books_with_hold books f held) ≡ map (λ (b : Book). b.flow) books
booked_held f held books = map-change_first (λ (b : Book). b.flow) (is_book_of f) (with_hold held) (λ b. refl) books

unchanged_by : (b : Buffer) (bs bs' : List Buffer) (k : Bool) → bs' ≡ bs
    → (if k then b ∷ bs else b ∷ bs') ≡ b ∷ bs
unchanged_by b bs bs' true rest = refl
unchanged_by b bs bs' false rest = ap (λ bs. b ∷ bs) rest

unchanged : (f : ℕ) (bs : List Buffer) → change_first (is_buffer_of f) (λ b. b) bs ≡ bs
unfolding change_first
unchanged f [] = refl
unchanged f (b ∷ bs) =
    unchanged_by b bs (change_first (is_buffer_of f) (λ b. b) bs) (nat_eq f b.flow) (unchanged f bs)

flows_held : (limit f : ℕ) (held : Bool) {es : List (NameBytes × FlowEntry)} {bs : List Buffer} {books : List Book}
    → FlowsAreTied es bs books → Rises limit (flow_numbers es) → has_number f (flow_numbers es) ≡ true
    → FlowsAreTied (with_activity f (is_busy bs f && not held) es) bs (books_with_hold books f held)
flows_held limit f held {es = es} {bs = bs} {books = books} was rises stands =
    let awake = is_busy bs f && not held in
    let booked : is_some (find (is_book_of f) books) ≡ true =
    is_some-find_number (λ (b : Book). b.flow) f books ∙ (ap (has_number f) was.booked ∙ stands) in
    record {
      buffered = was.buffered ∙ sym (numbers-with_activity f awake es);
      booked = booked_held f held books ∙ (was.booked ∙ sym (numbers-with_activity f awake es));
      active =
          activities-changed limit f awake (is_held books) (is_held (books_with_hold books f held)) (λ b. b) es bs
          (record { numbers = was.buffered; active = was.active }) rises
          (λ g apart. is_held-with_hold_other books f g held apart)
          (λ b found. ap (λ g. is_some_packet b.packets && not (is_held (books_with_hold books f held) g))
          (found-own bs f b found)
          ∙ (ap (λ h. is_some_packet b.packets && not h) (is_held-with_hold books f held booked)
          ∙ ap (λ some. some && not held) (sym (ap has_packet found))))
          ∙ ap (λ bs. map (λ (b : Buffer). is_some_packet b.packets
          && not (is_held (books_with_hold books f held) b.flow)) bs) (unchanged f bs);
    }

pub sound-hold_flow : {life : ℕ} {rates : List Rate} {l : Live} → Sound life rates l → l.counts.events < life
    → (f : ℕ) (held : Bool) → has_number f (flow_numbers l.graph.flows) ≡ true → Sound life rates (hold_flow l f held)
sound-hold_flow {life = life} {rates = rates} {l = l} was few f held stands = sound-with_level_queue (record {
  some = omega arith;
  counts = counts-later was.counts few;
  funding = record {
    kept = well_formed-set_active l.graph was.funding.kept f (is_busy l.buffers f && not held);
    next_ticket = omega (arith, was.funding.next_ticket);
    next_flow = omega (arith, was.funding.next_flow);
  };
  flows = flows_held l.graph.next_flow f held was.flows (sound-numbered was) stands;
  queue =
      subst (λ ns. QueueIsSound life (l.counts.events + 1) ns l.queue)
      (sym (numbers-with_activity f (is_busy l.buffers f && not held) l.graph.flows)) (queue-later was.queue);
  buffers = buffers-later l.version l.counts.events l.buffers was.buffers;
  books = record {
    known =
        each-change_first (IsOnShelf rates) (IsOnShelf rates) (is_book_of f) (with_hold held) (λ b k. k) (λ b k. k)
        l.books was.books.known;
    accounts = omega (arith, was.books.accounts, accounts_held f held l.books);
  };
  part = was.part;
  torn = was.torn;
})
