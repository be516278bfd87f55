-- The flows of a sound link fit the columns of their lines.
use Rattle.std.proofs.Common.{◌≡◌, ◌<◌, ◌≤◌, ◌+◌, ◌^◌, ℕ, ℤ, pos, negsuc, Bool, true, false, List, length, Option, None}
use Rattle.std.proofs.Common.{Some, arith, refl}
use Rattle.std.specs.Prelude.{◌+ℤ◌, ◌-ℤ◌, find, slice_get, unsigned_abs, unwrap_or}
use Rattle.std.specs.FinMap.{get}
use Rattle.std.proofs.lemmas.Int.{ints}
use Rattle.std.proofs.lemmas.Nat.{mul-le}
use borrow.Author.Differences.{up, down}
use Rattle.share_model.specs.declared.funding.OpenFlow.{OpenFlow}
use Rattle.share_model.specs.declared.link.Book.{Book}
use Rattle.share_model.specs.declared.rates.Rate.{Rate}
use Rattle.share_model.specs.declared.stride.Client.{Client}
use Rattle.share_model.specs.funding.Graph.{NameBytes, flow_numbers, tickets}
use Rattle.share_model.specs.link.Live.{Live}
use Rattle.share_model.specs.link.Books.{account_in, account_of, is_book_of}
use Rattle.share_model.specs.link.Commands.{waiting_of}
use Rattle.share_model.proofs.lemmas.lists.FirstItemLemmas.{rises-below}
use Rattle.share_model.specs.run.Sound.{Sound}
use Rattle.share_model.proofs.lemmas.run.SoundLinkLemmas.{sound-numbered, book-account}
use Rattle.share_model.specs.stride.Bound.{distance, IsBounded, IsSound}
use Rattle.share_model.proofs.lemmas.stride.BoundLemmas.{distance-idle, distance-competing, rises}
use Rattle.share_model.proofs.lemmas.stride.DivisionLemmas.{stride_of-le}
use Rattle.share_model.specs.stride.Moves.{Stride, new_client, client, position}
use Rattle.share_model.specs.text.Report.{flow_shown}
use Rattle.share_model.proofs.lemmas.run.QueueLemmas.{tickets-few}
use Rattle.share_report.specs.Widths.{FitsColumns}
use Rattle.share_report.proofs.FlowLemmas.{has_number-at}

account_few : {life : ℕ} {rates : List Rate} {l : Live} → Sound life rates l → life ≤ 2 ^ 24 → (f : ℕ)
    → account_of l.books f < 10 ^ 17
account_few {l = l} sound short f = by_book (find (is_book_of f) l.books) refl
  where
    by_book : (o : Option Book) → find (is_book_of f) l.books ≡ o → account_in o < 10 ^ 17
    by_book None is = omega arith
    by_book (Some b) is = omega (arith, book-account sound f is, sound.counts.events, short)

-- ---- Places

abs_within : (z : ℤ) (bound : ℕ) → up z ≤ bound → down z ≤ bound → unsigned_abs z ≤ bound
abs_within (pos n) bound above below = above
abs_within (negsuc n) bound above below = below

-- the distance of a client from the global pass
record IsNear (z : ℤ) : Type 0 where
  above : up z ≤ 2 ^ 81
  below : down z ≤ 2 ^ 81

distance_few : (s : Stride) (c : Client) → IsSound s → IsBounded s.pass s.last s.clock c → IsNear (distance s.pass c)
distance_few s c sound bounded =
    let stride : c.stride ≤ 2 ^ 40 = omega (arith, bounded.stride, stride_of-le c.tickets) in
    let early = mul-le c.stride (1 + s.last) (2 ^ 40) (2 ^ 41) stride (omega (arith, sound.time, sound.clock)) in
    let late = mul-le c.stride (1 + s.clock) (2 ^ 40) (2 ^ 41) stride (omega (arith, sound.clock)) in
    record { above = omega (arith, bounded.above, late); below = omega (arith, bounded.below, early) }

place_by : (s : Stride) (c : Client) (b : Bool) → c.competes ≡ b → IsSound s → IsNear (distance s.pass c)
    → unsigned_abs (position c).place < 10 ^ 25
place_by s c true is sound near =
    let away = distance-competing s.pass c is in
    let above = rw away at near.above in
    let below = rw away at near.below in
    let back : c.pass ≡ c.pass -ℤ pos s.pass +ℤ pos s.pass = omega (arith, ints) in
    let r = rises c.pass (c.pass -ℤ pos s.pass) s.pass back in
    let pass : s.pass ≤ 2 ^ 80 = omega (arith, sound.pass, sound.time, sound.clock) in
    let within = abs_within c.pass (2 ^ 82) (omega (arith, r.0, above, pass)) (omega (arith, r.1, below)) in
    rw is (omega (arith, within))
place_by s c false is sound near =
    let away = distance-idle s.pass c is in
    let above = rw away at near.above in
    let below = rw away at near.below in
    let within = abs_within c.remain (2 ^ 81) above below in rw is (omega (arith, within))

place_few : (s : Stride) (f : ℕ) → IsSound s → unsigned_abs (position (client s f)).place < 10 ^ 25
place_few s f sound = by_client (get s.clients f) refl
  where
    by_client : (o : Option Client) → get s.clients f ≡ o
        → unsigned_abs (position (unwrap_or o new_client)).place < 10 ^ 25
    by_client None is = omega arith
    by_client (Some c) is = place_by s c c.competes refl sound (distance_few s c sound (sound.clients f c is))

pub flow_fits : (life : ℕ) (rates : List Rate) (l : Live) (n : ℕ) (e : NameBytes × OpenFlow) → life ≤ 2 ^ 24
    → Sound life rates l → slice_get l.graph.flows n ≡ Some e → length e.0 ≤ 16 → waiting_of l e.1.number < 10 ^ 4
    → FitsColumns (flow_shown l e)
flow_fits life rates l n e short sound at name waiting =
    let f = e.1.number in
    let given = rises-below l.graph.next_flow f (flow_numbers l.graph.flows) (sound-numbered sound)
    (has_number-at l.graph.flows n e at) in
    record {
      flow = omega (arith, given, sound.funding.next_flow, sound.counts.events, short);
      name = name;
      tickets = omega (arith, tickets-few l.graph f);
      waiting = waiting;
      account = account_few sound short f;
      place = place_few l.queue f (sound.queue.sound short);
    }
