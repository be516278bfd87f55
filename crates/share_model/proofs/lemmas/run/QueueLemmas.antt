-- The invariant of the queue of every link: each change of it that an event makes keeps it.
use Rattle.std.specs.Prelude.{◌≡◌, ◌≢◌, ◌<◌, ◌≤◌, ◌+◌, ◌-◌, ◌*◌, ◌/◌, ◌^◌, ℕ, pos, ◌+ℤ◌, Bool, true, false, ◌||◌, List}
use Rattle.std.specs.Prelude.{[], ◌∷◌, ◌++◌, length, map}
use Rattle.std.specs.Prelude.{nat_eq, Option, None, Some, is_some, IsSome, IsTrue, if◌then◌else◌}
use Rattle.std.specs.Set.{remove_key}
use Rattle.std.proofs.Common.{refl, ap, sym, ◌∙◌, subst, arith, inl, inr, length-append}
use Rattle.std.proofs.lemmas.Bool.{cases_eq, cond_both, eqb-true, eqb-false}
use Rattle.std.specs.Ordering.{nat_cmp}
use Rattle.std.specs.FinMap.{FinMap, get, insert, len, len-empty, len-remove, get-empty}
use Rattle.std.specs.Cmp.{nat_cmp_total}
use Rattle.share_model.specs.declared.funding.OpenFlow.{OpenFlow}
use Rattle.share_model.specs.declared.stride.Client.{Client}
use Rattle.share_model.specs.lists.Each.{Each}
use Rattle.share_model.specs.lists.Rises.{Rises}
use Rattle.share_model.specs.lists.Rises.{has_number}
use Rattle.share_model.proofs.lemmas.lists.FirstItemLemmas.{has_number-head, has_number-later, has_number-last}
use Rattle.share_model.proofs.lemmas.lists.FirstItemLemmas.{each_map}
use Rattle.share_model.proofs.lemmas.lists.RemovalLemmas.{has_number-remove_other, has_number-remove_same}
use Rattle.share_model.proofs.lemmas.lists.RemovalLemmas.{length-remove_number, none_from}
use Rattle.share_model.specs.funding.Graph.{NameBytes, Graph, flow_numbers, tickets}
use Rattle.share_model.specs.stride.Moves.{Stride, Move, empty_queue, client, update, charge, after_charge, add, remove}
use Rattle.share_model.specs.stride.Moves.{new_client, IsNextFlow}
use Rattle.share_model.proofs.lemmas.stride.MapLemmas.{get-insert_same, get-insert_other, get-remove_same}
use Rattle.share_model.proofs.lemmas.stride.MapLemmas.{get-remove_other}
use Rattle.share_model.proofs.lemmas.stride.MapLemmas.{len-insert_found, len-insert_new}
use Rattle.share_model.proofs.lemmas.stride.MoveLemmas.{moved_is, change_of, client_is, is_there, client-charge_same}
use Rattle.share_model.proofs.lemmas.stride.MoveLemmas.{client-charge_other}
use Rattle.share_model.proofs.lemmas.stride.SoundQueueLemmas.{IsSound-empty_queue, IsSound-add, IsSound-charge}
use Rattle.share_model.proofs.lemmas.stride.SoundQueueLemmas.{IsSound-remove}
use Rattle.share_model.specs.stride.Level.{level_move, moved_if, level_one, level_all, CanLevel, HasTickets, IsLevel}
use Rattle.share_model.specs.stride.Level.{AreDistinctFlows}
use Rattle.share_model.proofs.lemmas.stride.LevellingLemmas.{is_there-level_one, is_there-level_all, clock-level_one}
use Rattle.share_model.proofs.lemmas.stride.LevellingLemmas.{clock-level_all}
use Rattle.share_model.proofs.lemmas.stride.LevellingLemmas.{can_level-level_one, IsSound-level_one, IsSound-level_all}
use Rattle.share_model.specs.link.Live.{tickets_of_all}
use Rattle.share_model.specs.run.Sound.{QueueIsSound}

-- ---- The flows that are levelled

abbrev wants_of : (ℕ → ℕ) → List (NameBytes × OpenFlow) → List (ℕ × ℕ)
wants_of value es = map (λ (e : NameBytes × OpenFlow). (e.1.number, value e.1.number)) es

apart_above : (n : ℕ) (value : ℕ → ℕ) (es : List (NameBytes × OpenFlow)) → Each (λ m. n < m) (flow_numbers es)
    → Each (λ (want : ℕ × ℕ). n ≢ want.0) (wants_of value es)
apart_above n value [] above = tt
apart_above n value (e ∷ es) above = (λ same. differ same above.0, apart_above n value es above.1)
  where
    differ : {m : ℕ} → n ≡ m → n < m → ⊥
    differ same below = omega arith

distinct_by : (value : ℕ → ℕ) (limit : ℕ) (es : List (NameBytes × OpenFlow)) → Rises limit (flow_numbers es)
    → AreDistinctFlows (wants_of value es)
unfolding Rises
distinct_by value limit [] rises = tt
distinct_by value limit (e ∷ es) rises =
    (apart_above e.1.number value es rises.1, distinct_by value limit es rises.2)

-- no flow has two entries
pub tickets_of_all-distinct : (g : Graph) (limit : ℕ) → Rises limit (flow_numbers g.flows)
    → AreDistinctFlows (tickets_of_all g)
tickets_of_all-distinct g limit rises = distinct_by (tickets g) limit g.flows rises

-- a flow has at most 2^20 tickets
pub tickets-few : (g : Graph) (f : ℕ) → tickets g f ≤ 2 ^ 20
unfolding tickets
tickets-few g f = omega arith

can_level_by : (q : Stride) (value : ℕ → ℕ) → ((f : ℕ) → value f ≤ 2 ^ 20) → (es : List (NameBytes × OpenFlow))
    → ((f : ℕ) → has_number f (flow_numbers es) ≡ true → IsSome (get q.clients f)) → CanLevel q (wants_of value es)
can_level_by q value few [] there = tt
can_level_by q value few (e ∷ es) there = (
  (there e.1.number (has_number-head e.1.number (flow_numbers es)), few e.1.number),
  can_level_by q value few es (λ f has. there f (has_number-later f e.1.number (flow_numbers es) has)),
)

pub tickets_of_all-can_level : {life events : ℕ} {q : Stride} (g : Graph)
    → QueueIsSound life events (flow_numbers g.flows) q
    → CanLevel q (tickets_of_all g)
tickets_of_all-can_level {q = q} g sound =
    can_level_by q (tickets g) (tickets-few g) g.flows (λ f has. sound.clients f ∙ has)

level_at : (q : Stride) (value : ℕ → ℕ) (f : ℕ) (es : List (NameBytes × OpenFlow)) → IsLevel q (wants_of value es)
    → has_number f (flow_numbers es) ≡ true → HasTickets (client q f) (value f)
level_at q value f [] level has = cc
level_at q value f (e ∷ es) level has = by_head (nat_eq f e.1.number) refl has (level_at q value f es level.1)
  where
    by_head : (b : Bool) → nat_eq f e.1.number ≡ b → (b || has_number f (flow_numbers es)) ≡ true
        → (has_number f (flow_numbers es) ≡ true → HasTickets (client q f) (value f))
        → HasTickets (client q f) (value f)
    by_head true test has rest =
        subst (λ n. HasTickets (client q n) (value n)) (sym (eqb-true f e.1.number test)) level.0
    by_head false test has rest = rest has

-- an open flow competes with exactly its tickets
pub level-flow : (q : Stride) (g : Graph) (f : ℕ) → IsLevel q (tickets_of_all g) → has_number f (flow_numbers g.flows)
    ≡ true
    → HasTickets (client q f) (tickets g f)
level-flow q g f level has = level_at q (tickets g) f g.flows level has

-- ---- Levelling

some_of : {A : Type 0} (o : Option A) → IsSome o → (x : A) × (o ≡ Some x)
some_of None is = cc
some_of (Some x) is = (x, refl)

-- a client that is put in place of another leaves their number
len_put : (m : FinMap nat_cmp Client) (f : ℕ) (c : Client) → IsSome (get m f) → len (insert m f c) ≡ len m
len_put m f c there = let old = some_of (get m f) there in len-insert_found m f old.0 c old.1

pub len-level_one : (q : Stride) (f wanted : ℕ) → IsSome (get q.clients f)
    → len (level_one q f wanted).clients ≡ len q.clients
len-level_one q f wanted there = by_move (level_move (client q f) wanted)
  where
    by_move : (move : Option Move) → len (moved_if q f move).clients ≡ len q.clients
    by_move None = refl
    by_move (Some move) =
        ap (λ (n : Stride). len n.clients) (moved_is q f move)
        ∙ len_put q.clients f (change_of move (update q).pass (client q f)) there

pub len-level_all : (q : Stride) (ws : List (ℕ × ℕ)) → CanLevel q ws → len (level_all q ws).clients ≡ len q.clients
len-level_all q [] can = refl
len-level_all q (want ∷ ws) can =
    len-level_all (level_one q want.0 want.1) ws (can_level-level_one q want.0 want.1 ws can.0.0 can.1)
    ∙ len-level_one q want.0 want.1 can.0.0

pub queue-levelled : {life events : ℕ} {q : Stride} (g : Graph) → QueueIsSound life events (flow_numbers g.flows) q
    → QueueIsSound life events (flow_numbers g.flows) (level_all q (tickets_of_all g))
queue-levelled {q = q} g was =
    let can = tickets_of_all-can_level g was in
    record {
      clients = λ f. is_there-level_all q (tickets_of_all g) f can ∙ was.clients f;
      count = len-level_all q (tickets_of_all g) can ∙ was.count;
      clock = let same = clock-level_all q (tickets_of_all g) in omega (arith, same, was.clock);
      sound = λ short. IsSound-level_all q (tickets_of_all g) (was.sound short) can;
    }

-- ---- The other changes

pub queue-later : {life events : ℕ} {flows : List ℕ} {q : Stride} → QueueIsSound life events flows q
    → QueueIsSound life (events + 1) flows q
queue-later was =
    record { clients = was.clients; count = was.count; clock = omega (arith, was.clock); sound = was.sound }

pub queue-empty_queue : (life : ℕ) → QueueIsSound life 0 [] empty_queue
queue-empty_queue life = record {
  clients = λ f. ap is_some (get-empty {X = Client} nat_cmp f);
  count = len-empty nat_cmp Client;
  clock = omega arith;
  sound = λ short. IsSound-empty_queue;
}

-- a flow that is opened
pub queue-added : {life events : ℕ} {flows : List ℕ} {q : Stride} → (f : ℕ) → has_number f flows ≡ false
    → length flows < 64 → QueueIsSound life events flows q → QueueIsSound life (events + 1) (flows ++ f ∷ []) (add q f)
queue-added {flows = flows} {q = q} f fresh room was =
    let absent : get q.clients f ≡ None = none_from (get q.clients f) (was.clients f ∙ fresh) in
    record {
      clients = λ g. by_flow g (nat_eq g f) refl ∙ sym (has_number-last f g flows);
      count =
          len-insert_new q.clients f new_client absent
          ∙ (ap (λ n. n + 1) was.count ∙ sym (length-append flows (f ∷ [])));
      clock = omega (arith, was.clock);
      sound = λ short. IsSound-add q f (was.sound short) absent (omega (arith, was.count));
    }
  where
    by_flow : (g : ℕ) (b : Bool) → nat_eq g f ≡ b
        → is_some (get (insert q.clients f new_client) g) ≡ (b || has_number g flows)
    by_flow g true test =
        ap (λ n. is_some (get (insert q.clients f new_client) n)) (eqb-true g f test)
        ∙ ap is_some (get-insert_same q.clients f new_client)
    by_flow g false test =
        ap is_some (get-insert_other q.clients f new_client g (eqb-false g f test)) ∙ was.clients g

-- a flow that is closed
pub queue-closed : {life events : ℕ} {flows : List ℕ} {q : Stride} (limit f : ℕ) → has_number f flows ≡ true
    → Rises limit flows → QueueIsSound life events flows q
    → QueueIsSound life (events + 1) (remove_key (nat_eq f) flows) (remove (level_one q f 0) f)
queue-closed {flows = flows} {q = q} limit f stands rises was =
    let there : IsSome (get q.clients f) = was.clients f ∙ stands in
    let idle = level_one q f 0 in
    let here : IsSome (get idle.clients f) = is_there-level_one q f 0 f there ∙ there in
    let less : len (remove idle f).clients ≡ len idle.clients - 1 =
    len-remove nat_cmp_total idle.clients f
    ∙ ap (λ b. if b then len idle.clients - 1 else len idle.clients) here in
    let shorter = length-remove_number f flows stands in
    record {
      clients = λ g. by_flow g (nat_eq g f) refl there;
      count = omega (arith, less, len-level_one q f 0 there, was.count, shorter);
      clock = let same = clock-level_one q f 0 in omega (arith, same, was.clock);
      sound = λ short. IsSound-remove idle f (IsSound-level_one q f 0 (was.sound short) there (omega arith));
    }
  where
    by_flow : (g : ℕ) (b : Bool) → nat_eq g f ≡ b → IsSome (get q.clients f)
        → is_some (get (remove (level_one q f 0) f).clients g) ≡ has_number g (remove_key (nat_eq f) flows)
    by_flow g true test there =
        ap (λ n. is_some (get (remove (level_one q f 0) f).clients n)) (eqb-true g f test)
        ∙ (ap is_some (get-remove_same (level_one q f 0).clients f)
        ∙ sym (ap (λ n. has_number n (remove_key (nat_eq f) flows)) (eqb-true g f test)
        ∙ has_number-remove_same limit f flows rises))
    by_flow g false test there =
        ap is_some (get-remove_other (level_one q f 0).clients f g (eqb-false g f test))
        ∙ (is_there-level_one q f 0 g there ∙ (was.clients g ∙ sym (has_number-remove_other f g test flows)))

-- a charge of an open flow
pub queue-after_charge : {life events : ℕ} {flows : List ℕ} {q : Stride} → (f units : ℕ) → has_number f flows ≡ true
    → events < life → units ≤ 11842 → QueueIsSound life events flows q
    → QueueIsSound life (events + 1) flows (charge q f units)
queue-after_charge {events = events} {flows = flows} {q = q} f units stands below few was =
    let there : IsSome (get q.clients f) = was.clients f ∙ stands in
    record {
      clients = λ g. by_flow g (nat_eq g f) refl there ∙ was.clients g;
      count = len_put q.clients f (after_charge (client q f) units) there ∙ was.count;
      clock = omega (arith, was.clock);
      sound =
          λ short. IsSound-charge q f (client q f) units (was.sound short) (sym (is_there q f there))
          (omega (arith, was.clock));
    }
  where
    by_flow : (g : ℕ) (b : Bool) → nat_eq g f ≡ b → IsSome (get q.clients f)
        → is_some (get (charge q f units).clients g) ≡ is_some (get q.clients g)
    by_flow g true test there =
        ap (λ n. is_some (get (charge q f units).clients n)) (eqb-true g f test)
        ∙ (ap is_some (get-insert_same q.clients f (after_charge (client q f) units))
        ∙ sym (ap (λ n. is_some (get q.clients n)) (eqb-true g f test) ∙ there))
    by_flow g false test there =
        ap is_some (get-insert_other q.clients f (after_charge (client q f) units) g (eqb-false g f test))

charged_has : (c : Client) (units wanted : ℕ) → HasTickets c wanted → HasTickets (after_charge c units) wanted
charged_has c units wanted has =
    cond_both c.competes (record c { pass = c.pass +ℤ pos (c.stride * units / 1024) })
    (record c { remain = c.remain +ℤ pos (c.stride * units / 1024) }) (λ (d : Client). HasTickets d wanted)
    (λ _. record { competes = has.competes; tickets = has.tickets })
    (λ _. record { competes = has.competes; tickets = has.tickets })

-- a charge leaves the queue level
pub level-after_charge : (q : Stride) (f units : ℕ) (ws : List (ℕ × ℕ)) → IsLevel q ws → IsLevel (charge q f units) ws
level-after_charge q f units ws level =
    each_map (λ (want : ℕ × ℕ). HasTickets (client q want.0) want.1)
    (λ (want : ℕ × ℕ). HasTickets (client (charge q f units) want.0) want.1)
    (λ want has. one want.0 want.1 has) ws level
  where
    one : (g wanted : ℕ) → HasTickets (client q g) wanted → HasTickets (client (charge q f units) g) wanted
    one g wanted has =
        elim (cases_eq g f) [
          | inl same ↦
              subst (λ n. HasTickets (client (charge q f units) n) wanted) (sym same)
              (subst (λ (c : Client). HasTickets c wanted) (sym (client-charge_same q f units))
              (charged_has (client q f) units wanted
              (subst (λ n. HasTickets (client q n) wanted) same has)))
          | inr apart ↦
              subst (λ (c : Client). HasTickets c wanted) (sym (client-charge_other q f units g apart)) has
        ]

-- ---- The next flow

next_by : (q : Stride) (f : ℕ) → IsNextFlow q.clients f
    → IsSome (get q.clients f) × IsTrue (client q f).competes
next_by q f first =
    let found = first.competes.found in (
      ap is_some found,
      subst (λ (c : Client). IsTrue c.competes) (sym (client_is q f first.chosen (sym found))) first.competes.competing,
    )
