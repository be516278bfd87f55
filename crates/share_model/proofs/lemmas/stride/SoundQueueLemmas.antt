-- Each move keeps the queue sound, and the total of the competing tickets is as it changes a client.
use Rattle.std.proofs.Common.{◌≡◌, ℕ, ◌+◌, ◌-◌, ◌*◌, ◌/◌, ◌<◌, ◌≤◌, ◌^◌, true, false, Some, None, inl, inr, refl, sym}
use Rattle.std.proofs.Common.{ap}
use Rattle.std.proofs.Common.{subst, ◌∙◌, arith}
use Rattle.std.specs.Prelude.{pos, ◌+ℤ◌, if◌then◌else◌}
use Rattle.std.proofs.lemmas.Bool.{cases_eq}
use Rattle.std.proofs.Math.Nat.{mul-le-mul_right, div-le_self}
use Rattle.std.specs.Ordering.{nat_cmp}
use Rattle.std.specs.FinMap.{FinMap, get, insert, remove, len, get-empty, len-empty}
use Rattle.share_model.specs.declared.stride.Client.{Client}
use Rattle.share_model.proofs.lemmas.stride.MapLemmas.{get-insert_same, get-insert_other, get-remove_same}
use Rattle.share_model.proofs.lemmas.stride.MapLemmas.{get-remove_other}
use Rattle.share_model.proofs.lemmas.stride.MapLemmas.{len-insert_new, len-insert_found, len-remove_le}
use Rattle.share_model.specs.stride.Moves.{Stride, empty_queue, total, competing_tickets, global_stride, update}
use Rattle.share_model.specs.stride.Moves.{after_join, after_leave, after_charge, new_client, with_client}
use Rattle.share_model.proofs.lemmas.stride.MoveLemmas.{total-insert_found, total-insert_new, total-remove, total_le}
use Rattle.share_model.specs.stride.Bound.{IsBounded, IsSound}
use Rattle.share_model.proofs.lemmas.stride.DivisionLemmas.{stride_of-le, stride_of-antitone}
use Rattle.share_model.proofs.lemmas.stride.BoundLemmas.{IsBounded-new, IsBounded-after_charge, IsBounded-charged_other}
use Rattle.share_model.proofs.lemmas.stride.BoundLemmas.{IsBounded-update, IsBounded-after_join, IsBounded-after_leave}

-- ---- The total

competing_tickets-idle : (f : ℕ) (c : Client) → c.competes ≡ false → competing_tickets (f, c) ≡ 0
competing_tickets-idle f c idle = ap (λ b. if b then c.tickets else 0) idle

competing_tickets-competing : (f : ℕ) (c : Client) → c.competes ≡ true → competing_tickets (f, c) ≡ c.tickets
competing_tickets-competing f c competes = ap (λ b. if b then c.tickets else 0) competes

competing_tickets-after_charge : (f : ℕ) (c : Client) (units : ℕ)
    → competing_tickets (f, after_charge c units) ≡ competing_tickets (f, c)
competing_tickets-after_charge f c units =
    elim c.competes as (λ b. competing_tickets (
      f,
      if b then record c { pass = c.pass +ℤ pos (c.stride * units / 1024) }
          else record c { remain = c.remain +ℤ pos (c.stride * units / 1024) },
    ) ≡ competing_tickets (f, c)) [
      | true ↦ refl
      | false ↦ refl
    ]

pub total-after_join : (m : FinMap nat_cmp Client) (f : ℕ) (c : Client) (global_pass tickets : ℕ) → get m f ≡ Some c
    → c.competes ≡ false → total (insert m f (after_join global_pass c tickets)) ≡ total m + tickets
total-after_join m f c global_pass tickets found idle =
    omega (arith, total-insert_found m f c (after_join global_pass c tickets) found, competing_tickets-idle f c idle)

pub total-after_leave : (m : FinMap nat_cmp Client) (f : ℕ) (c : Client) (global_pass : ℕ) → get m f ≡ Some c
    → c.competes ≡ true → total (insert m f (after_leave global_pass c)) + c.tickets ≡ total m
total-after_leave m f c global_pass found competes =
    omega (arith, total-insert_found m f c (after_leave global_pass c) found, competing_tickets-competing f c competes)

pub total-after_charge : (m : FinMap nat_cmp Client) (f : ℕ) (c : Client) (units : ℕ) → get m f ≡ Some c
    → total (insert m f (after_charge c units)) ≡ total m
total-after_charge m f c units found =
    omega (arith, total-insert_found m f c (after_charge c units) found, competing_tickets-after_charge f c units)

pub total-added : (m : FinMap nat_cmp Client) (f : ℕ) → get m f ≡ None → total (insert m f new_client) ≡ total m
total-added m f absent = total-insert_new m f new_client absent ∙ omega arith

pub total-removed : (m : FinMap nat_cmp Client) (f : ℕ) (c : Client) → get m f ≡ Some c → c.competes ≡ false
    → total (remove m f) ≡ total m
total-removed m f c found idle = omega (arith, total-remove m f c found, competing_tickets-idle f c idle)

few_tickets : (f : ℕ) (c : Client) → c.tickets ≤ 2 ^ 20 → competing_tickets (f, c) ≤ 2 ^ 20
few_tickets f c few =
    elim c.competes as (λ b. (if b then c.tickets else 0) ≤ 2 ^ 20) [ true ↦ few | false ↦ omega arith ]

pub total_small : (s : Stride) → IsSound s → total s.clients ≤ 2 ^ 26
total_small s sound =
    let each : total s.clients ≤ len s.clients * 2 ^ 20 =
    total_le (2 ^ 20) s.clients (λ f c found. few_tickets f c (sound.clients f c found).tickets) in
    let few = sound.count in
    omega arith

pub tickets_le_total : (m : FinMap nat_cmp Client) (f : ℕ) (c : Client) → get m f ≡ Some c → c.competes ≡ true
    → c.tickets ≤ total m
tickets_le_total m f c found competes =
    omega (arith, total-remove m f c found, competing_tickets-competing f c competes)

-- ---- The queue

pub IsSound-empty_queue : IsSound empty_queue
IsSound-empty_queue = record {
  clients = λ f c found. let absent = get-empty {X = Client} nat_cmp f in absurd (cc);
  count = omega (arith, len-empty nat_cmp Client);
  time = omega arith;
  clock = omega arith;
  pass = omega arith;
}

global_stride_le : (s : Stride) → IsSound s → (f : ℕ) (c : Client) → get s.clients f ≡ Some c → c.competes ≡ true
    → global_stride s ≤ c.stride
global_stride_le s sound f c found competes =
    let b = sound.clients f c found in
    let le = stride_of-antitone c.tickets (total s.clients) (b.competing competes)
    (tickets_le_total s.clients f c found competes) in
    omega (arith, le, b.stride)

pub IsSound-update : (s : Stride) → IsSound s → IsSound (update s)
IsSound-update s sound =
    let more = s.clock - s.last in
    let x = global_stride s * more / 1024 in
    let time = sound.time in
    let now : s.last + more ≡ s.clock = omega arith in
    let small : x ≤ global_stride s * more = div-le_self (global_stride s * more) 1024 in
    let modest : global_stride s * more ≤ 2 ^ 40 * more = mul-le-mul_right more (stride_of-le (total s.clients)) in
    record {
      clients = λ f c found.
          subst (λ (n : ℕ). IsBounded (s.pass + x) n s.clock c) now
          (IsBounded-update s.pass s.last more s.clock x c
          (λ competes. let slow : global_stride s * more ≤ c.stride * more =
          mul-le-mul_right more (global_stride_le s sound f c found competes) in omega arith)
          (sound.clients f c found));
      count = sound.count;
      time = omega arith;
      clock = sound.clock;
      pass = let pass = sound.pass in omega arith;
    }

same_value : (c d : Client) → Some c ≡ Some d → c ≡ d
same_value c d e = cc

IsSound-with_client : (s : Stride) (f : ℕ) (old new : Client) → IsSound s → get s.clients f ≡ Some old
    → IsBounded s.pass s.last s.clock new → IsSound (with_client s f new)
IsSound-with_client s f old new sound found b = record {
  clients = λ g c at.
      elim (cases_eq g f) [
        | inl same ↦ subst (λ (d : Client). IsBounded s.pass s.last s.clock d)
            (same_value new c (sym (get-insert_same s.clients f new) ∙ ap (get (insert s.clients f new)) (sym same)
            ∙ at)) b
        | inr apart ↦ sound.clients g c (sym (get-insert_other s.clients f new g apart) ∙ at)
      ];
  count = omega (arith, sound.count, len-insert_found s.clients f old new found);
  time = sound.time;
  clock = sound.clock;
  pass = sound.pass;
}

pub IsSound-after_join : (s : Stride) (f : ℕ) (c : Client) (tickets : ℕ) → IsSound s → get s.clients f ≡ Some c
    → c.competes ≡ false → 0 < tickets → tickets ≤ 2 ^ 20 → IsSound (with_client s f (after_join s.pass c tickets))
IsSound-after_join s f c tickets sound found idle some few =
    IsSound-with_client s f c (after_join s.pass c tickets) sound found
    (IsBounded-after_join s.pass s.last s.clock c tickets idle some few (sound.clients f c found))

pub IsSound-after_leave : (s : Stride) (f : ℕ) (c : Client) → IsSound s → get s.clients f ≡ Some c → c.competes ≡ true
    → IsSound (with_client s f (after_leave s.pass c))
IsSound-after_leave s f c sound found competes =
    IsSound-with_client s f c (after_leave s.pass c) sound found
    (IsBounded-after_leave s.pass s.last s.clock c competes (sound.clients f c found))

pub IsSound-modified : (s : Stride) (f : ℕ) (c : Client) (tickets : ℕ) → IsSound s → get s.clients f ≡ Some c
    → c.competes ≡ true → 0 < tickets → tickets ≤ 2 ^ 20
    → IsSound (with_client s f (after_join s.pass (after_leave s.pass c) tickets))
IsSound-modified s f c tickets sound found competes some few =
    IsSound-with_client s f c (after_join s.pass (after_leave s.pass c) tickets) sound found
    (IsBounded-after_join s.pass s.last s.clock (after_leave s.pass c) tickets refl some few
    (IsBounded-after_leave s.pass s.last s.clock c competes (sound.clients f c found)))

pub IsSound-add : (s : Stride) (f : ℕ) → IsSound s → get s.clients f ≡ None → len s.clients < 64
    → IsSound (with_client s f new_client)
IsSound-add s f sound absent room = record {
  clients = λ g c at.
      elim (cases_eq g f) [
        | inl same ↦ subst (λ (d : Client). IsBounded s.pass s.last s.clock d)
            (same_value new_client c (sym (get-insert_same s.clients f new_client)
            ∙ ap (get (insert s.clients f new_client)) (sym same) ∙ at)) (IsBounded-new s.pass s.last s.clock)
        | inr apart ↦ sound.clients g c (sym (get-insert_other s.clients f new_client g apart) ∙ at)
      ];
  count = omega (arith, room, len-insert_new s.clients f new_client absent);
  time = sound.time;
  clock = sound.clock;
  pass = sound.pass;
}

pub IsSound-charge : (s : Stride) (f : ℕ) (c : Client) (units : ℕ) → IsSound s → get s.clients f ≡ Some c
    → s.clock + units ≤ 2 ^ 40 → IsSound
    (record s { clients = insert s.clients f (after_charge c units); clock = s.clock + units })
IsSound-charge s f c units sound found fits = record {
  clients = λ g d at.
      elim (cases_eq g f) [
        | inl same ↦ subst (λ (e : Client). IsBounded s.pass s.last (s.clock + units) e)
            (same_value (after_charge c units) d
            (sym (get-insert_same s.clients f (after_charge c units))
            ∙ ap (get (insert s.clients f (after_charge c units))) (sym same) ∙ at))
            (IsBounded-after_charge s.pass s.last s.clock c units (sound.clients f c found))
        | inr apart ↦ IsBounded-charged_other s.pass s.last s.clock d units
            (sound.clients g d (sym (get-insert_other s.clients f (after_charge c units) g apart) ∙ at))
      ];
  count = omega (arith, sound.count, len-insert_found s.clients f c (after_charge c units) found);
  time = let time = sound.time in omega arith;
  clock = fits;
  pass = sound.pass;
}

pub IsSound-remove : (s : Stride) (f : ℕ) → IsSound s → IsSound (record s { clients = remove s.clients f })
IsSound-remove s f sound = record {
  clients = λ g c at.
      elim (cases_eq g f) [
        | inl same ↦ let gone = get-remove_same s.clients f in let there = ap (get (remove s.clients f)) same in
            absurd (cc)
        | inr apart ↦ sound.clients g c (sym (get-remove_other s.clients f g apart) ∙ at)
      ];
  count = omega (arith, sound.count, len-remove_le s.clients f);
  time = sound.time;
  clock = sound.clock;
  pass = sound.pass;
}
