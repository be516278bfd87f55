-- Each open flow has a client and a book, and the lines of the flows are added one after the other.
use Rattle.std.proofs.Common.{◌≡◌, ◌<◌, ◌≤◌, ◌+◌, ◌*◌, ℕ, zero, suc, true, List, [], ◌∷◌, ◌++◌, length}
use Rattle.std.proofs.Common.{take, map, Option, None, Some, arith, sym, ◌∙◌, ap, subst, refl, inl, inr}
use Rattle.std.specs.Prelude.{flat_map, slice_get, option_map, find, is_some}
use Rattle.std.specs.FinMap.{get}
use Rattle.std.proofs.lemmas.List.{take_all, take_more, flat_map_more, length-map}
use Rattle.std.proofs.lemmas.Option.{same_Some, slice_get-map, slice_get_within, slice_get_cases, get_or_from_slice_get}
use Rattle.share_model.specs.declared.funding.OpenFlow.{OpenFlow}
use Rattle.share_model.specs.declared.link.Book.{Book}
use Rattle.share_model.specs.declared.link.Row.{Row}
use Rattle.share_model.specs.declared.rates.Rate.{Rate}
use Rattle.share_model.specs.funding.Graph.{NameBytes, flow_numbers}
use Rattle.share_model.specs.link.Live.{Live}
use Rattle.share_model.specs.link.Books.{is_book_of}
use Rattle.share_model.specs.link.Totals.{row_of, row}
use Rattle.share_model.specs.lists.Rises.{has_number}
use Rattle.share_model.proofs.lemmas.lists.FirstItemLemmas.{has_number-head, has_number-later, is_some-find_number}
use Rattle.share_model.specs.run.Sound.{Sound}
use Rattle.share_model.specs.declared.link.FlowLine.{FlowLine}
use Rattle.share_model.specs.text.Report.{flow_line, flow_shown}

-- ---- The engine's facts of a flow

pub has_number-at : (es : List (NameBytes × OpenFlow)) (n : ℕ) (e : NameBytes × OpenFlow) → slice_get es n ≡ Some e
    → has_number e.1.number (flow_numbers es) ≡ true
has_number-at [] n e at = cc
has_number-at (x ∷ es) zero e at =
    let P : NameBytes × OpenFlow → Type 0 = λ y. has_number y.1.number (flow_numbers (x ∷ es)) ≡ true in
    subst P (same_Some x e at) (has_number-head x.1.number (flow_numbers es))
has_number-at (x ∷ es) (suc n) e at =
    has_number-later e.1.number x.1.number (flow_numbers es) (has_number-at es n e at)

row_is_open : (l : Live) (n : ℕ) (r : Row) → row l n ≡ Some r → has_number r.flow (flow_numbers l.graph.flows) ≡ true
row_is_open l n r there = by_entry (slice_get l.graph.flows n) refl there
  where
    by_entry : (o : Option (NameBytes × OpenFlow)) → slice_get l.graph.flows n ≡ o → option_map (row_of l) o ≡ Some r
        → has_number r.flow (flow_numbers l.graph.flows) ≡ true
    by_entry None at there = cc
    by_entry (Some e) at there =
        let P : Row → Type 0 = λ s. has_number s.flow (flow_numbers l.graph.flows) ≡ true in
        subst P (same_Some (row_of l e) r there) (has_number-at l.graph.flows n e at)

pub client_there : {life : ℕ} {rates : List Rate} {l : Live} → Sound life rates l → (n : ℕ) (r : Row)
    → row l n ≡ Some r → is_some (get l.queue.clients r.flow) ≡ true
client_there {l = l} sound n r there = sound.queue.clients r.flow ∙ row_is_open l n r there

pub book_there : {life : ℕ} {rates : List Rate} {l : Live} → Sound life rates l → (n : ℕ) (r : Row)
    → row l n ≡ Some r → is_some (find (is_book_of r.flow) l.books) ≡ true
book_there {l = l} sound n r there =
    is_some-find_number (λ (b : Book). b.flow) r.flow l.books
    ∙ (ap (has_number r.flow) sound.flows.booked ∙ row_is_open l n r there)

pub is_there : {A B : Type 0} (f : A → B) (o : Option A) → is_some o ≡ true → None ≡ option_map f o → ⊥
is_there f None there none = cc
is_there f (Some a) there none = cc

-- ---- Their lines

-- the lines of the first n flows were added
pub record FlowsUpTo (l : Live) (old text : List ℕ) (n : ℕ) : Type 0 where
  pub few : n ≤ length l.graph.flows
  pub is : text ≡ old ++ flat_map flow_line (take n (map (flow_shown l) l.graph.flows))
  pub room : length text ≤ length old + n * 216

-- a flow is shown there, so it is open
pub flow_within : (l : Live) (n : ℕ) (f : FlowLine) → Some f ≡ option_map (flow_shown l) (slice_get l.graph.flows n)
    → n < length l.graph.flows
flow_within l n f there =
    let at : slice_get (map (flow_shown l) l.graph.flows) n ≡ Some f =
    slice_get-map (flow_shown l) l.graph.flows n ∙ sym there in
    let within = slice_get_within (map (flow_shown l) l.graph.flows) n f at in
    let same = length-map l.graph.flows (flow_shown l) in omega (arith, within, same)

pub flows_more : (l : Live) (old text next : List ℕ) (n : ℕ) (f : FlowLine) → FlowsUpTo l old text n
    → Some f ≡ option_map (flow_shown l) (slice_get l.graph.flows n) → next ≡ text ++ flow_line f
    → length next ≤ length text + 216 → FlowsUpTo l old next (n + 1)
flows_more l old text next n f so there pushed long =
    let shown = map (flow_shown l) l.graph.flows in
    let at : slice_get shown n ≡ Some f = slice_get-map (flow_shown l) l.graph.flows n ∙ sym there in
    let within = slice_get_within shown n f at in
    let first : take (n + 1) shown ≡ take n shown ++ f ∷ [] =
    take_more shown n f within ∙ ap (λ x. take n shown ++ x ∷ []) (get_or_from_slice_get shown n f f at) in
    let is : next ≡ old ++ flat_map flow_line (take (n + 1) shown) =
    pushed ∙ ap (λ r. r ++ flow_line f) so.is ∙ flat_map_more flow_line old (take n shown) f
    ∙ ap (λ xs. old ++ flat_map flow_line xs) (sym first) in
    let here = flow_within l n f there in
    record { few = omega (arith, here); is = is; room = omega (arith, long, so.room) }

-- no flow is shown there, so the lines of all flows were added
pub flows_all : (l : Live) (old text : List ℕ) (n : ℕ) → FlowsUpTo l old text n
    → None ≡ option_map (flow_shown l) (slice_get l.graph.flows n)
    → text ≡ old ++ flat_map flow_line (map (flow_shown l) l.graph.flows)
flows_all l old text n so none =
    let shown = map (flow_shown l) l.graph.flows in
    let at : slice_get shown n ≡ None = slice_get-map (flow_shown l) l.graph.flows n ∙ sym none in
    so.is ∙ ap (λ xs. old ++ flat_map flow_line xs) (take_all n shown (past shown n at))
  where
    some_is_none : {P : Type 0} (x : FlowLine) → Some x ≡ None → P
    some_is_none x is = cc

    past : (xs : List FlowLine) (n : ℕ) → slice_get xs n ≡ None → length xs ≤ n
    past xs n at = elim (slice_get_cases xs n).1 [
      | inl found ↦ some_is_none found.0 (sym found.2 ∙ at)
      | inr none ↦ none.0
    ]
