-- Each move keeps the queue sound with the total of the tickets that it keeps, and what it computes fits its types.
use Rattle.std.proofs.Common.{◌≡◌, ℕ, ◌+◌, ◌-◌, ◌*◌, ◌/◌, ◌<◌, ◌≤◌, ◌^◌, true, false, None, Some, IsSome}
use Rattle.std.proofs.Common.{refl, sym, ap, subst, ◌∙◌, arith}
use Rattle.std.specs.Prelude.{ℤ, pos, negsuc, ◌+ℤ◌, ◌-ℤ◌, unsigned_abs, if◌then◌else◌}
use Rattle.std.proofs.Math.Nat.{mul-le-mul_left}
use Rattle.std.proofs.lemmas.Int.{ints}
use borrow.Author.Differences.{up, down}
use Rattle.std.specs.Ordering.{nat_cmp}
use Rattle.std.specs.FinMap.{FinMap, get, insert, remove, len}
use Rattle.share_model.specs.declared.stride.Client.{Client}
use Rattle.share_model.proofs.lemmas.stride.MapLemmas.{get-insert_same, insert-insert_same}
use Rattle.share_model.specs.stride.Moves.{Stride, empty_queue, stride_of, update, after_join, after_leave}
use Rattle.share_model.specs.stride.Moves.{after_charge}
use Rattle.share_model.specs.stride.Moves.{charge, new_client, with_client, client, position, modify, Modify}
use Rattle.share_model.proofs.lemmas.stride.MoveLemmas.{moved_is, client_is, is_there}
use Rattle.share_model.specs.stride.Rows.{total-empty}
use Rattle.share_model.specs.stride.Bound.{IsSound, IsNearGlobalPass, distance}
use Rattle.share_model.proofs.lemmas.stride.DivisionLemmas.{stride_of-le}
use Rattle.share_model.proofs.lemmas.stride.BoundLemmas.{distance-idle, distance-competing, rises}
use Rattle.share_model.proofs.lemmas.stride.SoundQueueLemmas.{IsSound-empty_queue, IsSound-update, IsSound-after_join}
use Rattle.share_model.proofs.lemmas.stride.SoundQueueLemmas.{IsSound-after_leave}
use Rattle.share_model.proofs.lemmas.stride.SoundQueueLemmas.{IsSound-charge}
use Rattle.share_model.proofs.lemmas.stride.SoundQueueLemmas.{IsSound-add, IsSound-remove, total-after_join}
use Rattle.share_model.proofs.lemmas.stride.SoundQueueLemmas.{total-after_leave}
use Rattle.share_model.proofs.lemmas.stride.SoundQueueLemmas.{total-after_charge}
use Rattle.share_model.proofs.lemmas.stride.SoundQueueLemmas.{total-added, total-removed}
use Rattle.share_stride.specs.Fits.{IsWithin}
use Rattle.share_model.specs.declared.stride.GlobalPart.{GlobalPart}
use Rattle.share_stride.specs.Table.{Clients}
use Rattle.share_stride.specs.Queue.{IsInStep, AreInStep, state_of, after_update}

-- ---- The queue with the total that it keeps

pub IsInStep-empty_queue : IsInStep 0 empty_queue
IsInStep-empty_queue = record { total = sym total-empty; sound = IsSound-empty_queue }

-- an update of what is shared is an update of the state
pub updated_is : (clients : Clients) (global : GlobalPart) → AreInStep clients global
    → state_of clients (after_update global) ≡ update (state_of clients global)
updated_is clients global kept =
    ap (λ n. record (update (state_of clients global)) {
      pass = global.pass + stride_of n * (global.clock - global.last) / 1024;
    }) kept.total

pub AreInStep-after_update : (clients : Clients) (global : GlobalPart) → AreInStep clients global
    → AreInStep clients (after_update global)
AreInStep-after_update clients global kept = record {
  total = kept.total;
  sound = subst IsSound (sym (updated_is clients global kept)) (IsSound-update (state_of clients global) kept.sound);
}

pub IsInStep-after_join : (tickets : ℕ) (s : Stride) (f : ℕ) (c : Client) (more : ℕ) → IsInStep tickets s
    → Some c ≡ get s.clients f → c.competes ≡ false → 0 < more → more ≤ 2 ^ 20
    → IsInStep (tickets + more) (with_client s f (after_join s.pass c more))
IsInStep-after_join tickets s f c more kept found idle some few = record {
  total = ap (λ n. n + more) kept.total ∙ sym (total-after_join s.clients f c s.pass more (sym found) idle);
  sound = IsSound-after_join s f c more kept.sound (sym found) idle some few;
}

pub IsInStep-after_leave : (tickets : ℕ) (s : Stride) (f : ℕ) (c : Client) → IsInStep tickets s → Some c
    ≡ get s.clients f
    → c.competes ≡ true → IsInStep (tickets - c.tickets) (with_client s f (after_leave s.pass c))
IsInStep-after_leave tickets s f c kept found competes = record {
  total = let total = kept.total in omega (arith, total-after_leave s.clients f c s.pass (sym found) competes);
  sound = IsSound-after_leave s f c kept.sound (sym found) competes;
}

pub IsInStep-modified : (tickets : ℕ) (s : Stride) (f : ℕ) (c : Client) (more : ℕ) → IsInStep tickets s
    → Some c ≡ get s.clients f → c.competes ≡ true → 0 < more → more ≤ 2 ^ 20
    → IsInStep (tickets - c.tickets + more) (with_client s f (after_join s.pass (after_leave s.pass c) more))
IsInStep-modified tickets s f c more kept found competes some few =
    let gone = with_client s f (after_leave s.pass c) in
    let back = IsInStep-after_join (tickets - c.tickets) gone f (after_leave s.pass c) more
    (IsInStep-after_leave tickets s f c kept found competes)
    (sym (get-insert_same s.clients f (after_leave s.pass c))) refl some few in
    subst (λ (clients : FinMap nat_cmp Client). IsInStep (tickets - c.tickets + more) (record s { clients = clients }))
    (insert-insert_same s.clients f (after_leave s.pass c) (after_join s.pass (after_leave s.pass c) more)) back

pub IsInStep-after_charge : (tickets : ℕ) (s : Stride) (f : ℕ) (c : Client) (units : ℕ) → IsInStep tickets s
    → Some c ≡ get s.clients f → s.clock + units ≤ 2 ^ 40
    → IsInStep tickets (record s { clients = insert s.clients f (after_charge c units); clock = s.clock + units })
IsInStep-after_charge tickets s f c units kept found fits = record {
  total = kept.total ∙ sym (total-after_charge s.clients f c units (sym found));
  sound = IsSound-charge s f c units kept.sound (sym found) fits;
}

pub IsInStep-charge : (tickets : ℕ) (s : Stride) (f units : ℕ) → IsInStep tickets s → IsSome (get s.clients f)
    → s.clock + units ≤ 2 ^ 40 → IsInStep tickets (charge s f units)
IsInStep-charge tickets s f units kept there fits =
    IsInStep-after_charge tickets s f (client s f) units kept (is_there s f there) fits

pub IsInStep-added : (tickets : ℕ) (s : Stride) (f : ℕ) → IsInStep tickets s → get s.clients f ≡ None → len s.clients
    < 64
    → IsInStep tickets (with_client s f new_client)
IsInStep-added tickets s f kept absent room = record {
  total = kept.total ∙ sym (total-added s.clients f absent);
  sound = IsSound-add s f kept.sound absent room;
}

pub IsInStep-removed : (tickets : ℕ) (s : Stride) (f : ℕ) → IsInStep tickets s → IsSome (get s.clients f)
    → (client s f).competes ≡ false → IsInStep tickets (record s { clients = remove s.clients f })
IsInStep-removed tickets s f kept there idle = record {
  total = kept.total ∙ sym (total-removed s.clients f (client s f) (sym (is_there s f there)) idle);
  sound = IsSound-remove s f kept.sound;
}

-- ---- Numbers fit the types

pub stride_is : (s : Stride) (f : ℕ) (c : Client) → IsSound s → Some c ≡ get s.clients f
    → c.stride ≡ stride_of c.tickets
stride_is s f c sound found = (sound.clients f c (sym found)).stride

pub stride_fits : (s : Stride) (f : ℕ) (c : Client) → IsSound s → Some c ≡ get s.clients f → c.stride ≤ 2 ^ 40
stride_fits s f c sound found =
    let stride = stride_is s f c sound found in omega (arith, stride_of-le c.tickets)

-- a distance is within 2^41 strides
distance_fits : (s : Stride) (f : ℕ) (c : Client) → IsSound s → Some c ≡ get s.clients f
    → IsWithin (distance s.pass c) (c.stride * 2 ^ 41)
distance_fits s f c sound found =
    let b = sound.clients f c (sym found) in
    let time = sound.time in
    let clock = sound.clock in
    let early : c.stride * (1 + s.last) ≤ c.stride * 2 ^ 41 = mul-le-mul_left c.stride (omega arith) in
    let late : c.stride * (1 + s.clock) ≤ c.stride * 2 ^ 41 = mul-le-mul_left c.stride (omega arith) in
    record { below = omega (arith, b.below, early); above = omega (arith, b.above, late) }

pub remain_fits : (s : Stride) (f : ℕ) (c : Client) → IsSound s → Some c ≡ get s.clients f → c.competes ≡ false
    → IsWithin c.remain (c.stride * 2 ^ 41)
remain_fits s f c sound found idle =
    subst (λ (z : ℤ). IsWithin z (c.stride * 2 ^ 41)) (distance-idle s.pass c idle) (distance_fits s f c sound found)

pub pass_fits : (s : Stride) → IsSound s → s.pass ≤ 2 ^ 80
pass_fits s sound = let pass = sound.pass in let time = sound.time in let clock = sound.clock in omega arith

pub pass_distance_fits : (s : Stride) (f : ℕ) (c : Client) → IsSound s → Some c ≡ get s.clients f
    → c.competes ≡ true → IsWithin (c.pass -ℤ pos s.pass) (c.stride * 2 ^ 41)
pass_distance_fits s f c sound found competes =
    subst (λ (z : ℤ). IsWithin z (c.stride * 2 ^ 41)) (distance-competing s.pass c competes)
    (distance_fits s f c sound found)

pub ahead_fits : (s : Stride) (f : ℕ) (c : Client) → IsSound s → Some c ≡ get s.clients f → c.competes ≡ true
    → IsWithin (c.pass -ℤ pos s.pass) (2 ^ 81)
ahead_fits s f c sound found competes =
    let b = pass_distance_fits s f c sound found competes in
    let small = stride_fits s f c sound found in
    record { below = omega (arith, b.below, small); above = omega (arith, b.above, small) }

pub place_fits : (s : Stride) (f : ℕ) (c : Client) → IsSound s → Some c ≡ get s.clients f
    → IsWithin (position c).place (2 ^ 83)
place_fits s f c sound found =
    elim c.competes as (λ t. c.competes ≡ t → IsWithin (if t then c.pass else c.remain) (2 ^ 83)) [
      | true ↦ λ competes.
          let b = ahead_fits s f c sound found competes in
          let pass = pass_fits s sound in
          let r = rises (c.pass -ℤ pos s.pass +ℤ pos s.pass) (c.pass -ℤ pos s.pass) s.pass refl in
          let is : c.pass -ℤ pos s.pass +ℤ pos s.pass ≡ c.pass = omega (arith, ints) in
          subst (λ (z : ℤ). IsWithin z (2 ^ 83)) is
          (record { below = omega (arith, b.below, r.1); above = omega (arith, b.above, r.0) })
      | false ↦ λ idle.
          let b = remain_fits s f c sound found idle in
          let small = stride_fits s f c sound found in
          record { below = omega (arith, b.below, small); above = omega (arith, b.above, small) }
    ] refl

-- the bound as a caller reads it
pub IsNearGlobalPass-client : (s : Stride) (f : ℕ) (c : Client) → IsSound s → Some c ≡ get s.clients f
    → IsNearGlobalPass s c
IsNearGlobalPass-client s f c sound found =
    let b = sound.clients f c (sym found) in
    let early : c.stride * (1 + s.last) ≤ c.stride * (1 + s.clock) =
    mul-le-mul_left c.stride (let time = sound.time in omega arith) in
    by_sign (distance s.pass c) _ (omega (arith, b.below, early)) b.above
  where
    by_sign : (z : ℤ) (bound : ℕ) → down z ≤ bound → up z ≤ bound → unsigned_abs z ≤ bound
    by_sign (pos n) bound below above = above
    by_sign (negsuc n) bound below above = below

-- to leave and join between which no time passes is one write of the client
pub modified_is : (s now : Stride) (f tickets : ℕ) → now ≡ update s
    → with_client now f (after_join now.pass (after_leave now.pass (client now f)) tickets) ≡ modify s f tickets
modified_is s now f tickets e =
    ap (λ (u : Stride). with_client u f (after_join u.pass (after_leave u.pass (client u f)) tickets)) e
    ∙ sym (moved_is s f (Modify tickets))

pub near_in_view : (s now : Stride) (f : ℕ) (c : Client) → s ≡ now → IsSound s → Some c ≡ get s.clients f
    → IsNearGlobalPass now (client now f)
near_in_view s now f c e sound found =
    subst (λ (u : Stride). IsNearGlobalPass u (client u f)) e
    (subst (λ (k : Client). IsNearGlobalPass s k) (sym (client_is s f c found))
    (IsNearGlobalPass-client s f c sound found))
