-- Levelling one flow after the other: what is left to do, and that it can be done.
use Rattle.std.proofs.Common.{◌≡◌, ◌≢◌, ◌<◌, ◌≤◌, ◌+◌, ◌-◌, ◌^◌, ◌∙◌, ℕ, zero, suc, Bool, List, [], ◌∷◌, ◌++◌, length}
use Rattle.std.proofs.Common.{map, set, get_or, slice_get, Option, None, Some, IsSome, refl, sym, ap, subst, add-one}
use Rattle.std.proofs.Common.{take, drop, arith}
use Rattle.std.proofs.lemmas.List.{length-map, drop_all, take_all, take_more_set, get_or-set_other, set-get_or}
use Rattle.std.proofs.lemmas.Option.{same_Some}
use Rattle.std.specs.FinMap.{get}
use Rattle.share_model.specs.declared.funding.OpenFlow.{OpenFlow}
use Rattle.share_model.specs.lists.Each.{Each}
use Rattle.share_model.specs.lists.Rises.{Rises}
use Rattle.share_model.specs.funding.Graph.{NameBytes, Graph, flow_numbers, tickets}
use Rattle.share_model.specs.funding.Changes.{set_active}
use Rattle.share_model.specs.funding.WellFormed.{IsWellFormed}
use Rattle.share_model.proofs.lemmas.link.BufferLemmas.{numbers-with_activity}
use Rattle.share_model.specs.link.Live.{tickets_of_all}
use Rattle.share_model.proofs.lemmas.run.QueueLemmas.{tickets_of_all-distinct}
use Rattle.share_model.specs.stride.Moves.{Stride, client}
use Rattle.share_model.specs.stride.Level.{moved_if, level_one, level_all, CanLevel, IsLevel, HasTickets}
use Rattle.share_model.specs.stride.Level.{AreDistinctFlows}
use Rattle.share_model.proofs.lemmas.stride.LevellingLemmas.{can_level-level_one, client-level_one_other}
use Rattle.share_model.proofs.lemmas.stride.LevellingLemmas.{level_move-none}
use Rattle.share_core.specs.Found.{IfFound}
use Rattle.share_core.specs.Levels.{AreTicketsOf, IsLevelAt, AreLevelAt, AreSameFrom}

-- the flows from a place on are still to be levelled, and then all are
pub record AreLeft (start now : Stride) (tickets_of_all : List (ℕ × ℕ)) (place : ℕ) : Type 0 where
  pub rest : level_all now (drop place tickets_of_all) ≡ level_all start tickets_of_all
  pub can : CanLevel now (drop place tickets_of_all)

pub tickets_of_all-count : (g : Graph) → length (tickets_of_all g) ≡ length g.flows
tickets_of_all-count g =
    length-map {B = ℕ × ℕ} g.flows (λ (e : NameBytes × OpenFlow). (e.1.number, tickets g e.1.number))

drop-get : {A : Type 0} (xs : List A) (n : ℕ) → n < length xs
    → (x : A) × (slice_get xs n ≡ Some x) × (drop n xs ≡ x ∷ drop (suc n) xs)
drop-get [] n few = absurd (omega arith)
drop-get (x ∷ xs) zero few = (x, refl, refl)
drop-get (x ∷ xs) (suc n) few = drop-get xs n (omega arith)

pub left-start : (start : Stride) (tickets_of_all : List (ℕ × ℕ)) → CanLevel start tickets_of_all
    → AreLeft start start tickets_of_all 0
left-start start tickets_of_all can = record { rest = refl; can = can }

-- the next flow can be levelled
pub left-can : (start now : Stride) (tickets_of_all : List (ℕ × ℕ)) (place : ℕ) → place < length tickets_of_all
    → AreLeft start now tickets_of_all place
    → IfFound (slice_get tickets_of_all place) (λ want. IsSome (get now.clients want.0) × (want.1 ≤ 2 ^ 20))
left-can start now tickets_of_all place few left =
    let at = drop-get tickets_of_all place few in
    let can = subst (CanLevel now) at.2 left.can in
    subst (λ o. IfFound o (λ (want : ℕ × ℕ). IsSome (get now.clients want.0) × (want.1 ≤ 2 ^ 20))) (sym at.1) can.0

-- and the others are left then
pub left-next : (start now new : Stride) (tickets_of_all : List (ℕ × ℕ)) (place : ℕ) → place < length tickets_of_all
    → AreLeft start now tickets_of_all place
    → IfFound (slice_get tickets_of_all place) (λ want. new ≡ level_one now want.0 want.1)
    → AreLeft start new tickets_of_all (place + 1)
left-next start now new tickets_of_all place few left moved =
    let at = drop-get tickets_of_all place few in
    let can = subst (CanLevel now) at.2 left.can in
    let is = subst (λ o. IfFound o (λ (want : ℕ × ℕ). new ≡ level_one now want.0 want.1)) at.1 moved in
    let one_more : suc place ≡ place + 1 = omega arith in
    let others = drop (suc place) tickets_of_all in
    subst (AreLeft start new tickets_of_all) one_more (record {
      rest = ap (λ s. level_all s others) is
          ∙ (ap (level_all now) (sym at.2) ∙ left.rest);
      can = subst (λ s. CanLevel s others) (sym is) (can_level-level_one now at.0.0 at.0.1 others can.0.0 can.1);
    })

-- none is left at the end
pub left-none : (start now : Stride) (tickets_of_all : List (ℕ × ℕ)) (place : ℕ) → length tickets_of_all ≤ place
    → AreLeft start now tickets_of_all place → now ≡ level_all start tickets_of_all
left-none start now tickets_of_all place all left = ap (level_all now) (sym (drop_all place tickets_of_all all))
    ∙ left.rest

-- ---- The tickets that are kept beside the queue

-- the flows before a place were levelled, and what they were levelled with is kept
pub record AreDone (start now : Stride) (tickets_of_all : List (ℕ × ℕ)) (levelled_with : List ℕ) (place : ℕ) : Type 0
  where
    pub left : AreLeft start now tickets_of_all place
    pub kept : take place levelled_with ≡ map (λ (want : ℕ × ℕ). want.1) (take place tickets_of_all)
    pub few : length tickets_of_all ≤ 64
    pub long : length levelled_with ≡ 64

-- and the others compete with what is kept for them
pub record AreDoneChanged (start now : Stride) (tickets_of_all : List (ℕ × ℕ)) (levelled_with : List ℕ)
    (place : ℕ) : Type 0 where
  pub before : AreDone start now tickets_of_all levelled_with place
  pub after : (k : ℕ) → place ≤ k → IsLevelAt now tickets_of_all levelled_with k

one_more : (tickets_of_all : List (ℕ × ℕ)) (place : ℕ) (want : ℕ × ℕ) → slice_get tickets_of_all place ≡ Some want
    → map (λ (want : ℕ × ℕ). want.1) (take (suc place) tickets_of_all)
    ≡ map (λ (want : ℕ × ℕ). want.1) (take place tickets_of_all) ++ want.1 ∷ []
one_more [] place want is = absurd cc
one_more (w ∷ tickets_of_all) zero want is = ap (λ (want : ℕ × ℕ). want.1 ∷ []) (same_Some w want is)
one_more (w ∷ tickets_of_all) (suc place) want is = ap (λ ns. w.1 ∷ ns) (one_more tickets_of_all place want is)

pub done-start : (start : Stride) (tickets_of_all : List (ℕ × ℕ)) (levelled_with : List ℕ) → length tickets_of_all ≤ 64
    → length levelled_with ≡ 64 → CanLevel start tickets_of_all → AreDone start start tickets_of_all levelled_with 0
done-start start tickets_of_all levelled_with few long can =
    record { left = left-start start tickets_of_all can; kept = refl; few = few; long = long }

pub done-next : (start now new : Stride) (tickets_of_all : List (ℕ × ℕ)) (levelled_with next : List ℕ) (place : ℕ)
    → place < length tickets_of_all → AreDone start now tickets_of_all levelled_with place
    → IfFound (slice_get tickets_of_all place) (λ want. new ≡ level_one now want.0 want.1)
    → IfFound (slice_get tickets_of_all place) (λ want. next ≡ set levelled_with place want.1)
    → length next ≡ 64
    → AreDone start new tickets_of_all next (place + 1)
done-next start now new tickets_of_all levelled_with next place few done moved written long =
    let at = drop-get tickets_of_all place few in
    let is = subst (λ o. IfFound o (λ (want : ℕ × ℕ). next ≡ set levelled_with place want.1)) at.1 written in
    record {
      left = left-next start now new tickets_of_all place few done.left moved;
      kept = ap (take (place + 1)) is
          ∙ take_more_set levelled_with place at.0.1 (omega (arith, few, done.few, done.long))
          ∙ ap (λ ns. ns ++ at.0.1 ∷ []) done.kept ∙ sym (one_more tickets_of_all place at.0 at.1)
          ∙ ap (λ k. map (λ (want : ℕ × ℕ). want.1) (take k tickets_of_all)) (sym (add-one place));
      few = done.few;
      long = long;
    }

each-at : {A : Type 0} (P : A → Type 0) (xs : List A) (k : ℕ) (x : A) → Each P xs → slice_get xs k ≡ Some x → P x
each-at P [] k x all is = absurd cc
each-at P (y ∷ ys) zero x all is = subst P (same_Some y x is) all.0
each-at P (y ∷ ys) (suc k) x all is = each-at P ys k x all.1 is

distinct-at : (tickets_of_all : List (ℕ × ℕ)) → AreDistinctFlows tickets_of_all → (i k : ℕ) → i < k → (v w : ℕ × ℕ)
    → slice_get tickets_of_all i ≡ Some v → slice_get tickets_of_all k ≡ Some w → w.0 ≢ v.0
distinct-at [] distinct i k before v w at_i at_k = absurd cc
distinct-at (e ∷ es) distinct zero zero before v w at_i at_k = absurd (omega (arith, before))
distinct-at (e ∷ es) distinct zero (suc k) before v w at_i at_k =
    λ same. each-at (λ (other : ℕ × ℕ). e.0 ≢ other.0) es k w distinct.0 at_k
    (ap (λ (p : ℕ × ℕ). p.0) (same_Some e v at_i) ∙ sym same)
distinct-at (e ∷ es) distinct (suc i) zero before v w at_i at_k = absurd (omega (arith, before))
distinct-at (e ∷ es) distinct (suc i) (suc k) before v w at_i at_k =
    distinct-at es distinct.1 i k (omega (arith, before)) v w at_i at_k

-- a move of the flow at a place leaves those after it as they were
stays-behind : (now : Stride) (tickets_of_all : List (ℕ × ℕ)) (levelled_with : List ℕ) (place k : ℕ) (want : ℕ × ℕ)
    → AreDistinctFlows tickets_of_all → slice_get tickets_of_all place ≡ Some want → place < k
    → IsLevelAt now tickets_of_all levelled_with k
    → IsLevelAt (level_one now want.0 want.1) tickets_of_all (set levelled_with place want.1) k
stays-behind now tickets_of_all levelled_with place k want distinct at behind is = by_flow (slice_get tickets_of_all k)
    refl is
  where
    by_flow : (o : Option (ℕ × ℕ)) → slice_get tickets_of_all k ≡ o
        → IfFound o (λ other. HasTickets (client now other.0) (get_or levelled_with k 0))
        → IfFound o (λ other. HasTickets (client (level_one now want.0 want.1) other.0)
        (get_or (set levelled_with place want.1) k 0))
    by_flow None at_k has = tt
    by_flow (Some other) at_k has =
        let apart = distinct-at tickets_of_all distinct place k behind want other at at_k in
        let elsewhere : k ≢ place = λ same. absurd (omega (arith, behind, same)) in
        rw (
          client-level_one_other now want.0 want.1 other.0 apart,
          get_or-set_other levelled_with place k want.1 0 elsewhere,
        ) has

pub changed-next : (start now new : Stride) (tickets_of_all : List (ℕ × ℕ)) (levelled_with next : List ℕ) (place : ℕ)
    → AreDistinctFlows tickets_of_all → place < length tickets_of_all
    → AreDoneChanged start now tickets_of_all levelled_with place
    → IfFound (slice_get tickets_of_all place) (λ want. new ≡ level_one now want.0 want.1)
    → IfFound (slice_get tickets_of_all place) (λ want. next ≡ set levelled_with place want.1)
    → length next ≡ 64
    → AreDoneChanged start new tickets_of_all next (place + 1)
changed-next start now new tickets_of_all levelled_with next place distinct few done moved written long =
    let at = drop-get tickets_of_all place few in
    let moved_is = subst (λ o. IfFound o (λ (want : ℕ × ℕ). new ≡ level_one now want.0 want.1)) at.1 moved in
    let written_is = subst (λ o. IfFound o (λ (want : ℕ × ℕ). next ≡ set levelled_with place want.1)) at.1 written in
    record {
      before = done-next start now new tickets_of_all levelled_with next place few done.before moved written long;
      after = λ k behind. rw (moved_is, written_is)
          (stays-behind now tickets_of_all levelled_with place k at.0 distinct at.1 (omega (arith, behind))
          (done.after k (omega (arith, behind))));
    }

-- a client that has the tickets of its flow takes no move
pub one-stays : (now : Stride) (tickets_of_all : List (ℕ × ℕ)) (levelled_with : List ℕ) (place share : ℕ)
    → IsLevelAt now tickets_of_all levelled_with place → get_or levelled_with place 0 ≡ share
    → IfFound (slice_get tickets_of_all place) (λ want. want.1 ≡ share)
    → IfFound (slice_get tickets_of_all place) (λ want. now ≡ level_one now want.0 want.1)
one-stays now tickets_of_all levelled_with place share is same share_is = by_flow (slice_get tickets_of_all place) is
    share_is
  where
    by_flow : (o : Option (ℕ × ℕ)) → IfFound o (λ want. HasTickets (client now want.0) (get_or levelled_with place 0))
        → IfFound o (λ want. want.1 ≡ share) → IfFound o (λ want. now ≡ level_one now want.0 want.1)
    by_flow None has is = tt
    by_flow (Some want) has is =
        let holds = subst (HasTickets (client now want.0)) (same ∙ sym is) has in
        sym (ap (moved_if now want.0) (level_move-none (client now want.0) want.1 holds))

-- flows whose tickets are as they were take no move
changed_same : (start now : Stride) (tickets_of_all : List (ℕ × ℕ)) (levelled_with : List ℕ) (place n : ℕ)
    → AreDistinctFlows tickets_of_all → place + n ≤ length tickets_of_all
    → AreSameFrom levelled_with (map (λ (want : ℕ × ℕ). want.1) tickets_of_all) place (place + n)
    → AreDoneChanged start now tickets_of_all levelled_with place
    → AreDoneChanged start now tickets_of_all levelled_with (place + n)
changed_same start now tickets_of_all levelled_with place zero distinct few same done =
    subst (AreDoneChanged start now tickets_of_all levelled_with) (omega arith) done
changed_same start now tickets_of_all levelled_with place (suc n) distinct few same done =
    let inside : place < length tickets_of_all = omega (arith, few) in
    let at = drop-get tickets_of_all place inside in
    let own : get_or levelled_with place 0 ≡ at.0.1 = same place (omega arith) (omega arith)
    ∙ mapped tickets_of_all place at.0 at.1 in
    let holds = subst (λ o. IfFound o (λ (want : ℕ × ℕ). want.1 ≡ at.0.1)) (sym at.1) refl in
    let stays = one-stays now tickets_of_all levelled_with place at.0.1 (done.after place (omega arith)) own holds in
    let kept = subst (λ o. IfFound o (λ (want : ℕ × ℕ). levelled_with ≡ set levelled_with place want.1)) (sym at.1)
    (sym (set-get_or levelled_with place 0) ∙ ap (set levelled_with place) own) in
    let one = changed-next start now now tickets_of_all levelled_with levelled_with place distinct inside done stays
    kept done.before.long in
    let further = changed_same start now tickets_of_all levelled_with (place + 1) n distinct (omega (arith, few))
    (λ k after before. same k (omega (arith, after)) (omega (arith, before))) one in
    subst (AreDoneChanged start now tickets_of_all levelled_with) (omega arith) further
  where
    mapped : (tickets_of_all : List (ℕ × ℕ)) (k : ℕ) (want : ℕ × ℕ) → slice_get tickets_of_all k ≡ Some want
        → get_or (map (λ (want : ℕ × ℕ). want.1) tickets_of_all) k 0 ≡ want.1
    mapped [] k want is = absurd cc
    mapped (w ∷ ws) zero want is = ap (λ (want : ℕ × ℕ). want.1) (same_Some w want is)
    mapped (w ∷ ws) (suc k) want is = mapped ws k want is

-- ---- Before a levelling

tickets_by : (value : ℕ → ℕ) (es : List (NameBytes × OpenFlow))
    → map (λ (e : NameBytes × OpenFlow). value e.1.number) es
    ≡ map (λ (want : ℕ × ℕ). want.1) (map (λ (e : NameBytes × OpenFlow). (e.1.number, value e.1.number)) es)
tickets_by value [] = refl
tickets_by value (e ∷ es) = ap (λ ns. value e.1.number ∷ ns) (tickets_by value es)

-- the wanted values of the flows are their tickets
pub tickets_of_all-tickets : (g : Graph)
    → map (λ (e : NameBytes × OpenFlow). tickets g e.1.number) g.flows
    ≡ map (λ (want : ℕ × ℕ). want.1) (tickets_of_all g)
tickets_of_all-tickets g = tickets_by (tickets g) g.flows

numbers_by : (value : ℕ → ℕ) (es : List (NameBytes × OpenFlow))
    → map (λ (want : ℕ × ℕ). want.0) (map (λ (e : NameBytes × OpenFlow). (e.1.number, value e.1.number)) es)
    ≡ flow_numbers es
numbers_by value [] = refl
numbers_by value (e ∷ es) = ap (λ ns. e.1.number ∷ ns) (numbers_by value es)

level_by : (q : Stride) (olds news : List (ℕ × ℕ)) (levelled_with : List ℕ)
    → map (λ (want : ℕ × ℕ). want.0) olds ≡ map (λ (want : ℕ × ℕ). want.0) news → IsLevel q olds
    → take (length olds) levelled_with ≡ map (λ (want : ℕ × ℕ). want.1) olds → AreLevelAt q news levelled_with
level_by q olds [] levelled_with numbers level kept k = tt
level_by q [] (n ∷ ns) levelled_with numbers level kept k = absurd cc
level_by q (o ∷ os) (n ∷ ns) [] numbers level kept k = absurd cc
level_by q (o ∷ os) (n ∷ ns) (l ∷ ls) numbers level kept zero =
    let same : o.0 ≡ n.0 = cc in
    let tickets : o.1 ≡ l = cc in
    subst (λ t. HasTickets (client q n.0) t) tickets (subst (λ f. HasTickets (client q f) o.1) same level.0)
level_by q (o ∷ os) (n ∷ ns) (l ∷ ls) numbers level kept (suc k) =
    level_by q os ns ls (cc) level.1 (cc) k

-- if the flows stand as they were, their clients compete with what was kept
pub level-by : (q : Stride) (g now : Graph) (levelled_with : List ℕ) → flow_numbers now.flows ≡ flow_numbers g.flows
    → IsLevel q (tickets_of_all g) → AreTicketsOf levelled_with g → AreLevelAt q (tickets_of_all now) levelled_with
level-by q g now levelled_with same level kept =
    level_by q (tickets_of_all g) (tickets_of_all now) levelled_with
    (numbers_by (tickets g) g.flows ∙ sym same ∙ sym (numbers_by (tickets now) now.flows)) level
    (ap (λ k. take k levelled_with) (tickets_of_all-count g) ∙ kept)

pub level-settled : (q : Stride) (g now : Graph) (f : ℕ) (t : Bool) (levelled_with : List ℕ) → now ≡ set_active g f t
    → IsLevel q (tickets_of_all g) → AreTicketsOf levelled_with g → AreLevelAt q (tickets_of_all now) levelled_with
level-settled q g now f t levelled_with is =
    level-by q g now levelled_with (ap (λ (g : Graph). flow_numbers g.flows) is ∙ numbers-with_activity f t g.flows)

pub well_formed-distinct : (g : Graph) → IsWellFormed g → AreDistinctFlows (tickets_of_all g)
unfolding Rises
well_formed-distinct g kept = tickets_of_all-distinct g g.next_flow kept.numbered.flows.2

-- all were levelled at the end
pub kept-all : (start now : Stride) (g : Graph) (levelled_with : List ℕ) (place : ℕ) → place ≡ length g.flows
    → AreDone start now (tickets_of_all g) levelled_with place → AreTicketsOf levelled_with g
kept-all start now g levelled_with place all done =
    ap (λ k. take k levelled_with) (sym all) ∙ done.kept
    ∙ ap (map (λ (want : ℕ × ℕ). want.1))
    (take_all place (tickets_of_all g) (omega (arith, all, tickets_of_all-count g)))

pub tickets-count : (g : Graph) (ts : List ℕ) → ts ≡ map (λ (e : NameBytes × OpenFlow). tickets g e.1.number) g.flows
    → length ts ≡ length g.flows
tickets-count g ts is = ap length is ∙ length-map g.flows (λ (e : NameBytes × OpenFlow). tickets g e.1.number)

-- the flows up to a place whose tickets are as they were need no look
pub changed-to : (start now : Stride) (g : Graph) (levelled_with ts : List ℕ) (place to : ℕ) → IsWellFormed g
    → ts ≡ map (λ (e : NameBytes × OpenFlow). tickets g e.1.number) g.flows → place ≤ to → to ≤ length ts
    → AreSameFrom levelled_with ts place to → AreDoneChanged start now (tickets_of_all g) levelled_with place
    → AreDoneChanged start now (tickets_of_all g) levelled_with to
changed-to start now g levelled_with ts place to kept is before inside same done =
    let count = tickets-count g ts is in
    let n = to - place in
    let there : place + n ≡ to = omega (arith, before) in
    let wanted = is ∙ tickets_of_all-tickets g in
    let within : place + n ≤ length (tickets_of_all g) = omega (arith, there, inside, count, tickets_of_all-count g) in
    let same_there : AreSameFrom levelled_with (map (λ (want : ℕ × ℕ). want.1) (tickets_of_all g)) place (place + n) =
    λ k after before. same k after (omega (arith, before, there)) ∙ ap (λ ns. get_or ns k 0) wanted in
    subst (AreDoneChanged start now (tickets_of_all g) levelled_with) there
    (changed_same start now (tickets_of_all g) levelled_with place n (well_formed-distinct g kept) within
    same_there done)
