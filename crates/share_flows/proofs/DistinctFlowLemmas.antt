-- Buffers of which no two are of the same flow: one of a flow is the first of it.
use Rattle.std.proofs.Common.{◌≡◌, ◌∙◌, ◌<◌, ℕ, zero, suc, true, false, List, [], ◌∷◌, map, length, get_or, set}
use Rattle.std.proofs.Common.{remove, position, nat_eq, nat_lt, is_some, None, Some, Result, Ok, Err, IfOk, IfErr}
use Rattle.std.proofs.Common.{refl, sym, ap, subst, arith}
use Rattle.std.specs.Cmp.{nat_eq_equiv}
use Rattle.std.specs.List.{IsDistinct, AllByRecursion, position_or_len, list_any}
use Rattle.std.proofs.lemmas.Bool.Decides.{nat_tests}
use Rattle.std.proofs.lemmas.List.{length-map, map-append}
use Rattle.std.proofs.lemmas.List.Sums.{position_or_len_is}
use Rattle.std.proofs.lemmas.Map.Keys.{IsDistinct-push, apart_from_distinct}
use Rattle.std.proofs.Math.ListN.{get_or-map}
use Rattle.std.proofs.Math.Seq.{map-set_same}
use Rattle.share_flows.specs.Stamps.{BufferView}
use Rattle.share_base.specs.Body.{BodyView}
use Rattle.share_model.specs.link.Buffers.{is_buffer_of, buffer_of, new_buffer, is_full, with_packet, open_in}
use Rattle.share_model.proofs.lemmas.lists.FirstItemLemmas.{is_some-find_number}
use Rattle.share_flows.specs.BufferHandles.{AreApart}

pub apart-none : (bs : List BufferView) → bs ≡ [] → AreApart bs
unfolding IsDistinct
apart-none bs none = rw none tt

-- a buffer is changed, and is of the same flow still
pub apart-set : (bs : List BufferView) (i : ℕ) (new old : BufferView) → new.flow ≡ (get_or bs i old).flow → AreApart bs
    → AreApart (set bs i new)
apart-set bs i new old same apart =
    subst (IsDistinct nat_eq) (sym (map-set_same (λ (b : BufferView). b.flow) bs i new old same)) apart

-- a packet comes to a buffer, or is handed back
pub flow-pushed : (r : Result ℕ BodyView) (old new : BufferView) (body : BodyView)
    → IfOk r (λ n. (n ≡ old.next) × (is_full old ≡ false) × (new ≡ with_packet body old))
    → IfErr r (λ back. (back ≡ body) × (is_full old ≡ true) × (new ≡ old)) → new.flow ≡ old.flow
flow-pushed (Ok n) old new body ok full = ap (λ (b : BufferView). b.flow) ok.2
flow-pushed (Err back) old new body ok full = ap (λ (b : BufferView). b.flow) full.2

none_are : (f : ℕ) (bs : List BufferView) → buffer_of bs f ≡ None
    → list_any (nat_eq f) (map (λ (b : BufferView). b.flow) bs) ≡ false
none_are f bs none = sym (is_some-find_number (λ (b : BufferView). b.flow) f bs) ∙ ap is_some none

-- the buffer of a flow that has none comes to the others
pub apart-open_in : (bs : List BufferView) (f limit : ℕ) → buffer_of bs f ≡ None → AreApart bs
    → AreApart (open_in bs f limit)
apart-open_in bs f limit none apart =
    subst (IsDistinct nat_eq) (sym (map-append (λ (b : BufferView). b.flow) bs (new_buffer f limit ∷ [])))
    (IsDistinct-push nat_eq_equiv (map (λ (b : BufferView). b.flow) bs) f apart (none_are f bs none))

all-remove : (n : ℕ) (bs : List BufferView) (i : ℕ)
    → AllByRecursion (λ m. nat_eq n m ≡ false) (map (λ (b : BufferView). b.flow) bs)
    → AllByRecursion (λ m. nat_eq n m ≡ false) (map (λ (b : BufferView). b.flow) (remove bs i))
all-remove n [] zero all = tt
all-remove n [] (suc i) all = tt
all-remove n (b ∷ bs) zero all = all.1
all-remove n (b ∷ bs) (suc i) all = (all.0, all-remove n bs i all.1)

-- a buffer is taken out
pub apart-remove : (bs : List BufferView) (i : ℕ) → AreApart bs → AreApart (remove bs i)
unfolding IsDistinct
apart-remove [] zero apart = tt
apart-remove [] (suc i) apart = tt
apart-remove (b ∷ bs) zero apart = apart.1
apart-remove (b ∷ bs) (suc i) apart = (all-remove b.flow bs i apart.0, apart-remove bs i apart.1)

-- a buffer of a flow is the first of it
module _ (bs : List BufferView) (f i : ℕ) (b : BufferView) (apart : AreApart bs) (inside : i < length bs)
    (is : is_buffer_of f (get_or bs i b) ≡ true) where
  flow_at : (k : ℕ) → get_or (map (λ (b : BufferView). b.flow) bs) k b.flow ≡ (get_or bs k b).flow
  flow_at k = get_or-map (λ (b : BufferView). b.flow) bs k b

  before : (k : ℕ) → k < i → is_buffer_of f (get_or bs k b) ≡ false
  before k less =
      let differ : nat_eq (get_or (map (λ (b : BufferView). b.flow) bs) k b.flow)
      (get_or (map (λ (b : BufferView). b.flow) bs) i b.flow) ≡ false =
      apart_from_distinct nat_eq (map (λ (b : BufferView). b.flow) bs) k i b.flow apart less
      (omega (arith, inside, length-map bs (λ (b : BufferView). b.flow))) in
      let flows_differ : nat_eq (get_or bs k b).flow (get_or bs i b).flow ≡ false = rw (flow_at k, flow_at i) at differ
      in
      grind (arith, nat_tests, is, flows_differ)

  pub by_place : position (is_buffer_of f) bs ≡ Some i
  by_place =
      let first : position_or_len (is_buffer_of f) bs ≡ i =
      position_or_len_is (is_buffer_of f) bs i b (omega (arith, inside)) before (λ _. is) in
      let less : nat_lt i (length bs) ≡ true = grind (arith, nat_tests, inside) in
      rw (first, less) refl
