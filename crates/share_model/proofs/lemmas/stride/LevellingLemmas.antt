-- Laws of levelling: it levels, once and in any order, and keeps the queue sound.
use Rattle.std.proofs.Common.{◌≡◌, ◌≢◌, ℕ, zero, suc, ◌+◌, ◌-◌, ◌*◌, ◌/◌, ◌<◌, ◌≤◌, ◌^◌, nat_eq, true, false, List}
use Rattle.std.proofs.Common.{[], ◌∷◌, Contains, Option, None, Some, unwrap_or, is_some, IsSome, inl, inr, true≢false}
use Rattle.std.proofs.Common.{eq-eqb, refl, sym, ap, subst, ◌∙◌, arith}
use Rattle.std.specs.Prelude.{if◌then◌else◌}
use Rattle.std.proofs.lemmas.Bool.{cases_eq, eqb-true, cond_both}
use Rattle.std.specs.FinMap.{get, remove}
use Rattle.share_model.specs.declared.stride.Client.{Client}
use Rattle.share_model.specs.lists.Each.{Each}
use Rattle.share_model.proofs.lemmas.lists.FirstItemLemmas.{each_map}
use Rattle.share_model.proofs.lemmas.lists.OrderLemmas.{StepsCommute, contains_cases, each-contains, fold-permutation}
use Rattle.share_model.proofs.lemmas.stride.MapLemmas.{get-insert_same, insert-remove_other, remove_absent}
use Rattle.share_model.specs.stride.Moves.{Stride, Move, Join, Leave, Modify, after_move, client, update, after_join}
use Rattle.share_model.specs.stride.Moves.{after_leave}
use Rattle.share_model.specs.stride.Moves.{with_client, new_client, stride_of, total, remove as remove_flow}
use Rattle.share_model.proofs.lemmas.stride.MoveLemmas.{moves_commute, moved_is, change_of, client-moved_same}
use Rattle.share_model.proofs.lemmas.stride.MoveLemmas.{get-moved_other, client-remove_other, is_there}
use Rattle.share_model.specs.stride.Bound.{IsSound}
use Rattle.share_model.proofs.lemmas.stride.SoundQueueLemmas.{IsSound-update, IsSound-after_join, IsSound-after_leave}
use Rattle.share_model.proofs.lemmas.stride.SoundQueueLemmas.{IsSound-modified}
use Rattle.share_model.proofs.lemmas.stride.SoundQueueLemmas.{total-removed}
use Rattle.share_model.specs.stride.Level.{level_move, moved_if, level_one, level_all, HasTickets}
use Rattle.share_model.specs.stride.Level.{AreDistinctFlows, LevelledIsLevel, LevelStays, MovesInAnyOrder}
use Rattle.share_model.specs.stride.Level.{CanLevel, LevelledInAnyOrder, RemovalCommutes, RemovalCommutesWithLevel}

-- ---- The move that a client takes

level_move-competing : (c : Client) (n : ℕ) → c.competes ≡ true
    → level_move c (suc n) ≡ (if nat_eq c.tickets (suc n) then None else Some (Modify (suc n)))
level_move-competing c n competes =
    ap (λ b. if b then (if nat_eq c.tickets (suc n) then None else Some (Modify (suc n))) else Some (Join (suc n)))
    competes

-- a client that has the tickets takes none
pub level_move-none : (c : Client) (tickets : ℕ) → HasTickets c tickets → level_move c tickets ≡ None
level_move-none c zero has =
    cond_both c.competes (Some Leave) None (λ o. o ≡ None) (λ competes. absurd (omega (arith, has.competes.0 competes)))
    (λ _. refl)
level_move-none c (suc n) has =
    level_move-competing c n (has.competes.1 (omega arith))
    ∙ ap (λ b. if b then None else Some (Modify (suc n))) (eq-eqb c.tickets (suc n) (has.tickets (omega arith)))

-- ---- The parts that a levelling leaves

pub get-level_one_other : (s : Stride) (f tickets g : ℕ) → g ≢ f
    → get (level_one s f tickets).clients g ≡ get s.clients g
get-level_one_other s f tickets g apart = by_move (level_move (client s f) tickets)
  where
    by_move : (move : Option Move) → get (moved_if s f move).clients g ≡ get s.clients g
    by_move None = refl
    by_move (Some move) = get-moved_other s f move g apart

pub client-level_one_other : (s : Stride) (f tickets g : ℕ) → g ≢ f → client (level_one s f tickets) g ≡ client s g
client-level_one_other s f tickets g apart = ap (λ o. unwrap_or o new_client) (get-level_one_other s f tickets g apart)

pub get-level_all_other : (s : Stride) (wants : List (ℕ × ℕ)) (g : ℕ) → Each (λ (want : ℕ × ℕ). g ≢ want.0) wants
    → get (level_all s wants).clients g ≡ get s.clients g
get-level_all_other s [] g apart = refl
get-level_all_other s (want ∷ wants) g apart =
    get-level_all_other (level_one s want.0 want.1) wants g apart.1
    ∙ get-level_one_other s want.0 want.1 g apart.0

pub client-level_all_other : (s : Stride) (wants : List (ℕ × ℕ)) (g : ℕ) → Each (λ (want : ℕ × ℕ). g ≢ want.0) wants
    → client (level_all s wants) g ≡ client s g
client-level_all_other s wants g apart = ap (λ o. unwrap_or o new_client) (get-level_all_other s wants g apart)

pub clock-level_one : (s : Stride) (f tickets : ℕ) → (level_one s f tickets).clock ≡ s.clock
clock-level_one s f tickets = by_move (level_move (client s f) tickets)
  where
    by_move : (move : Option Move) → (moved_if s f move).clock ≡ s.clock
    by_move None = refl
    by_move (Some move) = ap (λ (n : Stride). n.clock) (moved_is s f move)

pub clock-level_all : (s : Stride) (wants : List (ℕ × ℕ)) → (level_all s wants).clock ≡ s.clock
clock-level_all s [] = refl
clock-level_all s (want ∷ wants) =
    clock-level_all (level_one s want.0 want.1) wants ∙ clock-level_one s want.0 want.1

-- the flows that have a client
pub is_there-level_one : (s : Stride) (f tickets g : ℕ) → IsSome (get s.clients f)
    → is_some (get (level_one s f tickets).clients g) ≡ is_some (get s.clients g)
is_there-level_one s f tickets g there = by_move (level_move (client s f) tickets)
  where
    by_move : (move : Option Move) → is_some (get (moved_if s f move).clients g) ≡ is_some (get s.clients g)
    by_move None = refl
    by_move (Some move) =
        elim (cases_eq g f) [
          | inl same ↦
              ap (λ (k : ℕ). is_some (get (after_move s f move).clients k)) same
              ∙ ap (λ (n : Stride). is_some (get n.clients f)) (moved_is s f move)
              ∙ ap is_some (get-insert_same s.clients f (change_of move (update s).pass (client s f)))
              ∙ sym there
              ∙ ap (λ (k : ℕ). is_some (get s.clients k)) (sym same)
          | inr apart ↦ ap is_some (get-moved_other s f move g apart)
        ]

pub can_level-level_one : (s : Stride) (f tickets : ℕ) (wants : List (ℕ × ℕ)) → IsSome (get s.clients f)
    → CanLevel s wants → CanLevel (level_one s f tickets) wants
can_level-level_one s f tickets wants there all =
    each_map (λ (want : ℕ × ℕ). IsSome (get s.clients want.0) × (want.1 ≤ 2 ^ 20))
    (λ (want : ℕ × ℕ). IsSome (get (level_one s f tickets).clients want.0) × (want.1 ≤ 2 ^ 20))
    (λ want has. (is_there-level_one s f tickets want.0 there ∙ has.0, has.1)) wants all

pub is_there-level_all : (s : Stride) (wants : List (ℕ × ℕ)) (g : ℕ) → CanLevel s wants
    → is_some (get (level_all s wants).clients g) ≡ is_some (get s.clients g)
is_there-level_all s [] g all = refl
is_there-level_all s (want ∷ wants) g all =
    is_there-level_all (level_one s want.0 want.1) wants g (can_level-level_one s want.0 want.1 wants all.0.0 all.1)
    ∙ is_there-level_one s want.0 want.1 g all.0.0

-- ---- A levelling keeps the queue sound

pub IsSound-join : (s : Stride) (f tickets : ℕ) → IsSound s → IsSome (get s.clients f)
    → (client s f).competes ≡ false → 0 < tickets → tickets ≤ 2 ^ 20 → IsSound (after_move s f (Join tickets))
IsSound-join s f tickets sound there idle some few =
    IsSound-after_join (update s) f (client s f) tickets (IsSound-update s sound) (sym (is_there s f there)) idle some
    few

pub IsSound-leave : (s : Stride) (f : ℕ) → IsSound s → IsSome (get s.clients f) → (client s f).competes ≡ true
    → IsSound (after_move s f Leave)
IsSound-leave s f sound there competes =
    IsSound-after_leave (update s) f (client s f) (IsSound-update s sound) (sym (is_there s f there)) competes

pub IsSound-modify : (s : Stride) (f tickets : ℕ) → IsSound s → IsSome (get s.clients f)
    → (client s f).competes ≡ true → 0 < tickets → tickets ≤ 2 ^ 20 → IsSound (after_move s f (Modify tickets))
IsSound-modify s f tickets sound there competes some few =
    subst IsSound (sym (moved_is s f (Modify tickets)))
    (IsSound-modified (update s) f (client s f) tickets (IsSound-update s sound) (sym (is_there s f there)) competes
    some few)

pub IsSound-level_one : (s : Stride) (f tickets : ℕ) → IsSound s → IsSome (get s.clients f) → tickets ≤ 2 ^ 20
    → IsSound (level_one s f tickets)
IsSound-level_one s f zero sound there few =
    cond_both (client s f).competes (Some Leave) None (λ move. IsSound (moved_if s f move))
    (λ competes. IsSound-leave s f sound there competes) (λ _. sound)
IsSound-level_one s f (suc n) sound there few =
    cond_both (client s f).competes (if nat_eq (client s f).tickets (suc n) then None else Some (Modify (suc n)))
    (Some (Join (suc n))) (λ move. IsSound (moved_if s f move))
    (λ competes. cond_both (nat_eq (client s f).tickets (suc n)) None (Some (Modify (suc n)))
    (λ move. IsSound (moved_if s f move)) (λ _. sound)
    (λ _. IsSound-modify s f (suc n) sound there competes (omega arith) few))
    (λ idle. IsSound-join s f (suc n) sound there idle (omega arith) few)

pub IsSound-level_all : (s : Stride) (wants : List (ℕ × ℕ)) → IsSound s → CanLevel s wants
    → IsSound (level_all s wants)
IsSound-level_all s [] sound all = sound
IsSound-level_all s (want ∷ wants) sound all =
    IsSound-level_all (level_one s want.0 want.1) wants (IsSound-level_one s want.0 want.1 sound all.0.0 all.0.1)
    (can_level-level_one s want.0 want.1 wants all.0.0 all.1)

-- ---- Levelled clients are level, and stay so

pub has_tickets-idle : (c : Client) → c.competes ≡ false → HasTickets c 0
has_tickets-idle c idle = record {
  competes = (λ competes. absurd (true≢false (sym competes ∙ idle)), λ some. absurd (omega (arith, some)));
  tickets = λ some. absurd (omega (arith, some));
}

pub has_tickets-competing : (c : Client) (tickets : ℕ) → 0 < tickets → c.competes ≡ true → c.tickets ≡ tickets
    → HasTickets c tickets
has_tickets-competing c tickets some competes same =
    record { competes = (λ _. some, λ _. competes); tickets = λ _. same }

-- a move after which the client has the tickets
has_tickets-after_move : (s : Stride) (f : ℕ) (move : Move) (tickets : ℕ)
    → HasTickets (change_of move (update s).pass (client s f)) tickets
    → HasTickets (client (after_move s f move) f) tickets
has_tickets-after_move s f move tickets has =
    subst (λ (c : Client). HasTickets c tickets) (sym (client-moved_same s f move)) has

pub has_tickets-level_one : (s : Stride) (f tickets : ℕ) → HasTickets (client (level_one s f tickets) f) tickets
has_tickets-level_one s f zero =
    cond_both (client s f).competes (Some Leave) None (λ move. HasTickets (client (moved_if s f move) f) 0)
    (λ _. has_tickets-after_move s f Leave 0 (has_tickets-idle (after_leave (update s).pass (client s f)) refl))
    (λ idle. has_tickets-idle (client s f) idle)
has_tickets-level_one s f (suc n) =
    let some : 0 < suc n = omega arith in
    let pass = (update s).pass in
    cond_both (client s f).competes (if nat_eq (client s f).tickets (suc n) then None else Some (Modify (suc n)))
    (Some (Join (suc n))) (λ move. HasTickets (client (moved_if s f move) f) (suc n))
    (λ competes. cond_both (nat_eq (client s f).tickets (suc n)) None (Some (Modify (suc n)))
    (λ move. HasTickets (client (moved_if s f move) f) (suc n))
    (λ same. has_tickets-competing (client s f) (suc n) some competes (eqb-true (client s f).tickets (suc n) same))
    (λ _. has_tickets-after_move s f (Modify (suc n)) (suc n)
    (has_tickets-competing (after_join pass (after_leave pass (client s f)) (suc n)) (suc n) some refl refl)))
    (λ _. has_tickets-after_move s f (Join (suc n)) (suc n)
    (has_tickets-competing (after_join pass (client s f) (suc n)) (suc n) some refl refl))

pub levelled_is_level : LevelledIsLevel
levelled_is_level s [] distinct = tt
levelled_is_level s (want ∷ wants) distinct =
    let once = level_one s want.0 want.1 in (
      subst (λ (c : Client). HasTickets c want.1) (sym (client-level_all_other once wants want.0 distinct.0))
          (has_tickets-level_one s want.0 want.1),
      levelled_is_level once wants distinct.1,
    )

pub level_one_stays : (s : Stride) (f tickets : ℕ) → HasTickets (client s f) tickets → level_one s f tickets ≡ s
level_one_stays s f tickets has = ap (moved_if s f) (level_move-none (client s f) tickets has)

pub level_stays : LevelStays
level_stays s [] level = refl
level_stays s (want ∷ wants) level =
    ap (λ (n : Stride). level_all n wants) (level_one_stays s want.0 want.1 level.0) ∙ level_stays s wants level.1

-- ---- In any order

same_entry : {A : Type 0} (es : List (ℕ × A)) → AreDistinctFlows es → (a b : ℕ × A) → Contains es a → Contains es b
    → a.0 ≡ b.0 → a ≡ b
same_entry [] distinct a b at_a at_b same = absurd (omega (arith, at_a.1))
same_entry (e ∷ es) distinct a b at_a at_b same =
    elim (contains_cases e a es at_a) [
      | inl a_here ↦
          elim (contains_cases e b es at_b) [
            | inl b_here ↦ sym a_here ∙ b_here
            | inr b_later ↦ absurd (each-contains _ es b distinct.0 b_later (ap (λ p. p.0) a_here ∙ same))
          ]
      | inr a_later ↦
          elim (contains_cases e b es at_b) [
            | inl b_here ↦ absurd (each-contains _ es a distinct.0 a_later (ap (λ p. p.0) b_here ∙ sym same))
            | inr b_later ↦ same_entry es distinct.1 a b a_later b_later same
          ]
    ]

-- steps of a fold that commute for two flows commute for the entries of distinct flows
steps-distinct : {A : Type 0} (step : Stride → ℕ × A → Stride)
    → ((a b : ℕ × A) (s : Stride) → a.0 ≢ b.0 → step (step s a) b ≡ step (step s b) a)
    → (es : List (ℕ × A)) → AreDistinctFlows es → StepsCommute step es
steps-distinct step commute es distinct = λ a b at_a at_b s.
    elim (cases_eq a.0 b.0) [
      | inl same ↦ subst (λ c. step (step s a) c ≡ step (step s c) a) (same_entry es distinct a b at_a at_b same) refl
      | inr apart ↦ commute a b s apart
    ]

pub moves_in_any_order : MovesInAnyOrder
moves_in_any_order s moves others distinct other =
    fold-permutation (λ now entry. after_move now entry.0 entry.1) moves others
    (steps-distinct (λ now entry. after_move now entry.0 entry.1)
    (λ a b now apart. moves_commute now a.0 b.0 a.1 b.1 apart) moves distinct)
    other s

moved_if_commute : (s : Stride) (f g : ℕ) (a b : Option Move) → f ≢ g
    → moved_if (moved_if s f a) g b ≡ moved_if (moved_if s g b) f a
moved_if_commute s f g None b apart = refl
moved_if_commute s f g (Some a) None apart = refl
moved_if_commute s f g (Some a) (Some b) apart = moves_commute s f g a b apart

pub level_one_commutes : (s : Stride) (f m g n : ℕ) → f ≢ g
    → level_one (level_one s f m) g n ≡ level_one (level_one s g n) f m
level_one_commutes s f m g n apart =
    ap (λ c. moved_if (level_one s f m) g (level_move c n)) (client-level_one_other s f m g (λ same. apart (sym same)))
    ∙ moved_if_commute s f g (level_move (client s f) m) (level_move (client s g) n) apart
    ∙ ap (λ c. moved_if (level_one s g n) f (level_move c m)) (sym (client-level_one_other s g n f apart))

pub levelled_in_any_order : LevelledInAnyOrder
levelled_in_any_order s wants others distinct other =
    fold-permutation (λ now want. level_one now want.0 want.1) wants others
    (steps-distinct (λ now want. level_one now want.0 want.1)
    (λ a b now apart. level_one_commutes now a.0 a.1 b.0 b.1 apart) wants distinct)
    other s

-- ---- The removal of a client that does not compete

total-remove_idle : (s : Stride) (f : ℕ) → (client s f).competes ≡ false → total (remove s.clients f) ≡ total s.clients
total-remove_idle s f idle =
    elim (get s.clients f) as (λ o. get s.clients f ≡ o → (unwrap_or o new_client).competes ≡ false
    → total (remove s.clients f) ≡ total s.clients) [
      | None ↦ λ absent _. ap total (remove_absent s.clients f absent)
      | Some c ↦ λ found quiet. total-removed s.clients f c found quiet
    ] refl idle

update-remove : (s : Stride) (f : ℕ) → (client s f).competes ≡ false
    → update (remove_flow s f) ≡ remove_flow (update s) f
update-remove s f idle =
    ap (λ n. record (remove_flow (update s) f) { pass = s.pass + stride_of n * (s.clock - s.last) / 1024 })
    (total-remove_idle s f idle)

pub removal_commutes : RemovalCommutes
removal_commutes s f g move apart idle =
    let gone = remove_flow s f in
    moved_is gone g move
    ∙ ap (λ c. with_client (update gone) g (change_of move (update gone).pass c))
    (client-remove_other s f g (λ same. apart (sym same)))
    ∙ ap (λ u. with_client u g (change_of move u.pass (client s g))) (update-remove s f idle)
    ∙ ap (λ m. record (update s) { clients = m }) (insert-remove_other s.clients f g _ apart)
    ∙ ap (λ n. remove_flow n f) (sym (moved_is s g move))

pub removal_commutes_with_level : RemovalCommutesWithLevel
removal_commutes_with_level s f g tickets apart idle =
    ap (λ c. moved_if (remove_flow s f) g (level_move c tickets))
    (client-remove_other s f g (λ same. apart (sym same)))
    ∙ by_move (level_move (client s g) tickets)
  where
    by_move : (move : Option Move) → moved_if (remove_flow s f) g move ≡ remove_flow (moved_if s g move) f
    by_move None = refl
    by_move (Some move) = removal_commutes s f g move apart idle
