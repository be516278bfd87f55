-- Each move keeps every client within its bound, and the total of the tickets right.
use Rattle.std.proofs.Common.{◌≡◌, ℕ, ◌+◌, ◌*◌, ◌/◌, ◌<◌, ◌≤◌, ◌^◌, true, false, IsTrue, inl, inr, refl, sym, ap, subst}
use Rattle.std.proofs.Common.{◌∙◌, arith}
use Rattle.std.specs.Prelude.{ℤ, pos, negsuc, ◌⊎◌, ◌+ℤ◌, ◌-ℤ◌, if◌then◌else◌}
use Rattle.std.proofs.lemmas.Int.{ints}
use Rattle.std.proofs.Math.Nat.{mul-add, div-le_self}
use borrow.Author.Differences.{up, down}
use Rattle.share_model.specs.declared.stride.Client.{Client}
use Rattle.share_model.specs.stride.Moves.{stride_of, after_join, after_leave, after_charge, new_client, remain_on}
use Rattle.share_model.specs.stride.Bound.{distance, IsBounded}
use Rattle.share_model.proofs.lemmas.stride.DivisionLemmas.{remain_on-up, remain_on-down}

-- ---- One client

-- n for one unit more than a, and n for each of b more
more_units : (n a b : ℕ) → n * (1 + (a + b)) ≡ n * (1 + a) + n * b
more_units n a b = omega (arith, mul-add n 1 (a + b), mul-add n 1 a, mul-add n a b)

one_part : (z : ℤ) → (up z ≡ 0) ⊎ (down z ≡ 0)
one_part (pos n) = inr refl
one_part (negsuc n) = inl refl

-- the fall from z to w
falls : (z w : ℤ) (x : ℕ) → z ≡ w +ℤ pos x → (down w ≤ down z + x) × (up w ≤ up z)
falls z w x e =
    elim (one_part z) [
      | inl a ↦ elim (one_part w) [
        | inl b ↦ (omega (arith, ints), omega (arith, ints))
        | inr b ↦ (omega (arith, ints), omega (arith, ints))
      ]
      | inr a ↦ elim (one_part w) [
        | inl b ↦ (omega (arith, ints), omega (arith, ints))
        | inr b ↦ (omega (arith, ints), omega (arith, ints))
      ]
    ]

-- the rise from w to z
pub rises : (z w : ℤ) (x : ℕ) → z ≡ w +ℤ pos x → (up z ≤ up w + x) × (down z ≤ down w)
rises z w x e =
    elim (one_part z) [
      | inl a ↦ elim (one_part w) [
        | inl b ↦ (omega (arith, ints), omega (arith, ints))
        | inr b ↦ (omega (arith, ints), omega (arith, ints))
      ]
      | inr a ↦ elim (one_part w) [
        | inl b ↦ (omega (arith, ints), omega (arith, ints))
        | inr b ↦ (omega (arith, ints), omega (arith, ints))
      ]
    ]

ahead_of : (gp : ℕ) (z : ℤ) → pos gp +ℤ z -ℤ pos gp ≡ z
ahead_of gp z = omega (arith, ints)

-- the bounds of a distance, apart from the client
record IsBetween (z : ℤ) (stride last clock : ℕ) : Type 0 where
  below : down z ≤ stride * (1 + last)
  above : up z ≤ stride * (1 + clock)

IsBetween-later : (z : ℤ) (stride last more clock : ℕ) → IsBetween z stride last clock
    → IsBetween z stride (last + more) clock
IsBetween-later z stride last more clock b =
    record { below = omega (arith, b.below, more_units stride last more); above = b.above }

IsBetween-charged_other : (z : ℤ) (stride last clock units : ℕ) → IsBetween z stride last clock
    → IsBetween z stride last (clock + units)
IsBetween-charged_other z stride last clock units b =
    record { below = b.below; above = omega (arith, b.above, more_units stride clock units) }

IsBetween-falls : (z w : ℤ) (x stride last more clock : ℕ) → z ≡ w +ℤ pos x → x ≤ stride * more
    → IsBetween z stride last clock → IsBetween w stride (last + more) clock
IsBetween-falls z w x stride last more clock e small b =
    let f = falls z w x e in
    record { below = omega (arith, f.0, b.below, more_units stride last more); above = omega (arith, f.1, b.above) }

IsBetween-rises : (w z : ℤ) (stride last clock units : ℕ) → z ≡ w +ℤ pos (stride * units / 1024)
    → IsBetween w stride last clock → IsBetween z stride last (clock + units)
IsBetween-rises w z stride last clock units e b =
    let r = rises z w (stride * units / 1024) e in
    let small = div-le_self (stride * units) 1024 in
    record {
      below = omega (arith, r.1, b.below);
      above = omega (arith, r.0, b.above, more_units stride clock units, small);
    }

IsBetween-remain_on : (new old : ℕ) (remain : ℤ) (last clock : ℕ) → IsBetween remain old last clock
    → IsBetween (remain_on new old remain) new last clock
IsBetween-remain_on new old remain last clock b = record {
  below = remain_on-down new old remain (1 + last) b.below;
  above = remain_on-up new old remain (1 + clock) (omega arith) b.above;
}

between : (gp last clock : ℕ) (c : Client) → IsBounded gp last clock c → IsBetween (distance gp c) c.stride last clock
between gp last clock c b = record { below = b.below; above = b.above }

bounded : (gp last clock : ℕ) (c : Client) → c.tickets ≤ 2 ^ 20 → c.stride ≡ stride_of c.tickets
    → (IsTrue c.competes → 0 < c.tickets) → IsBetween (distance gp c) c.stride last clock → IsBounded gp last clock c
bounded gp last clock c tickets stride competing b =
    record { tickets = tickets; stride = stride; competing = competing; below = b.below; above = b.above }

-- the distance of a client that competes, and of one that does not
pub distance-competing : (gp : ℕ) (c : Client) → c.competes ≡ true → distance gp c ≡ c.pass -ℤ pos gp
distance-competing gp c e = ap (λ b. if b then c.pass -ℤ pos gp else c.remain) e

pub distance-idle : (gp : ℕ) (c : Client) → c.competes ≡ false → distance gp c ≡ c.remain
distance-idle gp c e = ap (λ b. if b then c.pass -ℤ pos gp else c.remain) e

at_distance : (z w : ℤ) (stride last clock : ℕ) → z ≡ w → IsBetween z stride last clock → IsBetween w stride last clock
at_distance z w stride last clock e b = subst (λ (v : ℤ). IsBetween v stride last clock) e b

pub IsBounded-new : (gp last clock : ℕ) → IsBounded gp last clock new_client
IsBounded-new gp last clock =
    record {
      tickets = omega arith;
      stride = refl;
      competing = λ h. absurd (cc);
      below = omega arith;
      above = omega arith;
    }

pub IsBounded-after_join : (gp last clock : ℕ) (c : Client) (tickets : ℕ) → c.competes ≡ false → 0 < tickets
    → tickets ≤ 2 ^ 20 → IsBounded gp last clock c → IsBounded gp last clock (after_join gp c tickets)
IsBounded-after_join gp last clock c tickets idle some few b =
    let remain = remain_on (stride_of tickets) c.stride c.remain in
    let was = at_distance _ _ c.stride last clock (distance-idle gp c idle) (between gp last clock c b) in
    bounded gp last clock (after_join gp c tickets) few refl (λ _. some)
    (at_distance remain _ (stride_of tickets) last clock (sym (ahead_of gp remain))
    (IsBetween-remain_on (stride_of tickets) c.stride c.remain last clock was))

pub IsBounded-after_leave : (gp last clock : ℕ) (c : Client) → c.competes ≡ true → IsBounded gp last clock c
    → IsBounded gp last clock (after_leave gp c)
IsBounded-after_leave gp last clock c competes b =
    bounded gp last clock (after_leave gp c) b.tickets b.stride (λ h. absurd (cc))
    (at_distance _ _ c.stride last clock (distance-competing gp c competes) (between gp last clock c b))

pub IsBounded-after_charge : (gp last clock : ℕ) (c : Client) (units : ℕ) → IsBounded gp last clock c
    → IsBounded gp last (clock + units) (after_charge c units)
IsBounded-after_charge gp last clock c units b =
    elim c.competes as (λ t. c.competes ≡ t
    → IsBounded gp last (clock + units)
    (if t then record c { pass = c.pass +ℤ pos (c.stride * units / 1024) }
    else record c { remain = c.remain +ℤ pos (c.stride * units / 1024) })) [
      | true ↦ λ competes.
          let more : Client = record c { pass = c.pass +ℤ pos (c.stride * units / 1024) } in
          bounded gp last (clock + units) more b.tickets b.stride b.competing
          (IsBetween-rises (distance gp c) (distance gp more) c.stride last clock units
          (distance-competing gp more competes ∙ moved_up c.pass gp (c.stride * units / 1024)
          ∙ ap (λ z. z +ℤ pos (c.stride * units / 1024)) (sym (distance-competing gp c competes)))
          (between gp last clock c b))
      | false ↦ λ idle.
          let more : Client = record c { remain = c.remain +ℤ pos (c.stride * units / 1024) } in
          bounded gp last (clock + units) more b.tickets b.stride b.competing
          (IsBetween-rises (distance gp c) (distance gp more) c.stride last clock units
          (distance-idle gp more idle ∙ ap (λ z. z +ℤ pos (c.stride * units / 1024)) (sym (distance-idle gp c idle)))
          (between gp last clock c b))
    ] refl
  where
    moved_up : (p : ℤ) (n x : ℕ) → p +ℤ pos x -ℤ pos n ≡ p -ℤ pos n +ℤ pos x
    moved_up p n x = omega (arith, ints)

pub IsBounded-charged_other : (gp last clock : ℕ) (c : Client) (units : ℕ) → IsBounded gp last clock c
    → IsBounded gp last (clock + units) c
IsBounded-charged_other gp last clock c units b =
    bounded gp last (clock + units) c b.tickets b.stride b.competing
    (IsBetween-charged_other (distance gp c) c.stride last clock units (between gp last clock c b))

-- the global pass moves on by at most the client's own pace
pub IsBounded-update : (gp last more clock x : ℕ) (c : Client) → (c.competes ≡ true → x ≤ c.stride * more)
    → IsBounded gp last clock c → IsBounded (gp + x) (last + more) clock c
IsBounded-update gp last more clock x c slow b =
    elim c.competes as (λ t. c.competes ≡ t → IsBounded (gp + x) (last + more) clock c) [
      | true ↦ λ competes.
          bounded (gp + x) (last + more) clock c b.tickets b.stride b.competing
          (IsBetween-falls (distance gp c) (distance (gp + x) c) x c.stride last more clock
          (distance-competing gp c competes ∙ moved_down c.pass gp x
          ∙ ap (λ z. z +ℤ pos x) (sym (distance-competing (gp + x) c competes)))
          (slow competes) (between gp last clock c b))
      | false ↦ λ idle.
          bounded (gp + x) (last + more) clock c b.tickets b.stride b.competing
          (at_distance _ _ c.stride (last + more) clock (distance-idle gp c idle ∙ sym (distance-idle (gp + x) c idle))
          (IsBetween-later (distance gp c) c.stride last more clock (between gp last clock c b)))
    ] refl
  where
    moved_down : (p : ℤ) (n k : ℕ) → p -ℤ pos n ≡ p -ℤ pos (n + k) +ℤ pos k
    moved_down p n k = omega (arith, ints)
