-- Two flows compete and do not move: `one` is charged within its share beside `other`.
use Rattle.std.proofs.Common.{◌≡◌, ◌≢◌, ℕ, Bool, true, false, List, [], ◌∷◌, nat_eq, inl, inr, refl}
use Rattle.std.proofs.Common.{sym, ap, subst, ◌∙◌, arith}
use Rattle.std.specs.Prelude.{ℤ, pos, ◌+ℤ◌, if◌then◌else◌}
use Rattle.std.proofs.lemmas.Bool.{cases_eq, eqb-true, eqb-false}
use Rattle.share_model.specs.declared.stride.Client.{Client}
use Rattle.share_model.specs.stride.Moves.{Stride, after_move, charge, after_charge, client, add, remove, new_client}
use Rattle.share_model.proofs.lemmas.stride.MoveLemmas.{client-moved_other, client-with_client_other}
use Rattle.share_model.proofs.lemmas.stride.MoveLemmas.{client-remove_other}
use Rattle.share_model.proofs.lemmas.stride.MoveLemmas.{client-charge_same, client-charge_other}
use Rattle.share_model.specs.stride.Shares.{Charge, One, Other, ChargesLeast, SharesStayClose}
use Rattle.share_model.specs.stride.Runs.{Step, Charges, Moves, Adds, Removes, IsFairRun, share, charges_of}
use Rattle.share_model.specs.stride.Runs.{RunsStayClose}
use Rattle.std.proofs.lemmas.Int.{ints, clamps}

pub shares_stay_close : SharesStayClose
shares_stay_close one other [] least = omega (arith, ints, clamps)
shares_stay_close one other (One n ∷ rest) least =
    let later = shares_stay_close (one +ℤ pos n) other rest least.1 in
    let here = least.0 in
    omega (arith, ints, clamps)
shares_stay_close one other (Other n ∷ rest) least =
    let later = shares_stay_close one (other +ℤ pos n) rest least in
    omega (arith, ints, clamps)

-- a client whose pass, or otherwise whose remain, moved on by a share
abbrev with_share : Bool → Client → ℤ → Client
with_share to_pass c n = if to_pass then record c { pass = c.pass +ℤ n } else record c { remain = c.remain +ℤ n }

after_charge-competes : (c : Client) (units : ℕ) → (after_charge c units).competes ≡ c.competes
after_charge-competes c units =
    elim c.competes as (λ b. (with_share b c (pos (share c units))).competes ≡ c.competes) [
      | true ↦ refl
      | false ↦ refl
    ]

after_charge-pass : (c : Client) (units : ℕ) → c.competes ≡ true → (after_charge c units).pass ≡ c.pass
    +ℤ pos (share c units)
after_charge-pass c units competes = ap (λ b. (with_share b c (pos (share c units))).pass) competes

competes-charge : (s : Stride) (f units g : ℕ) → (client (charge s f units) g).competes ≡ (client s g).competes
competes-charge s f units g =
    elim (cases_eq g f) [
      | inl same ↦ ap (λ n. (client (charge s f units) n).competes) same
          ∙ ap (λ (c : Client). c.competes) (client-charge_same s f units) ∙ after_charge-competes (client s f) units
          ∙ ap (λ n. (client s n).competes) (sym same)
      | inr apart ↦ ap (λ (c : Client). c.competes) (client-charge_other s f units g apart)
    ]

pub pass-charge_same : (s : Stride) (f units g : ℕ) → f ≡ g → (client s g).competes ≡ true
    → (client (charge s f units) g).pass ≡ (client s g).pass +ℤ pos (share (client s g) units)
pass-charge_same s f units g same competes =
    ap (λ n. (client (charge s n units) g).pass) same ∙ ap (λ (c : Client). c.pass) (client-charge_same s g units)
    ∙ after_charge-pass (client s g) units competes

pub pass-charge_other : (s : Stride) (f units g : ℕ) → g ≢ f → (client (charge s f units) g).pass ≡ (client s g).pass
pass-charge_other s f units g apart = ap (λ (c : Client). c.pass) (client-charge_other s f units g apart)

from_passes : (p q a b : ℤ) (charges : List Charge) → a ≡ p → b ≡ q → ChargesLeast a b charges
    → ChargesLeast p q charges
from_passes p q a b charges e f least =
    subst (λ (x : ℤ). ChargesLeast x q charges) e (subst (λ (y : ℤ). ChargesLeast a y charges) f least)

-- the two clients are as they were
unmoved : (one other : ℕ) (s now : Stride) (charges : List Charge) → client now one ≡ client s one
    → client now other ≡ client s other → ChargesLeast (client now one).pass (client now other).pass charges
    → ChargesLeast (client s one).pass (client s other).pass charges
unmoved one other s now charges same_one same_other least =
    from_passes _ _ _ _ charges (ap (λ (c : Client). c.pass) same_one) (ap (λ (c : Client). c.pass) same_other) least

ChargesLeast-run : (one other : ℕ) (s : Stride) (steps : List Step) → one ≢ other → (client s one).competes ≡ true
    → (client s other).competes ≡ true → IsFairRun one other s steps
    → ChargesLeast (client s one).pass (client s other).pass (charges_of one other s steps)
ChargesLeast-run one other s [] apart one_competes other_competes fair = tt
ChargesLeast-run one other s (Moves f move ∷ steps) apart one_competes other_competes fair =
    let same_one = client-moved_other s f move one fair.0.0 in
    let same_other = client-moved_other s f move other fair.0.1 in
    unmoved one other s (after_move s f move) (charges_of one other (after_move s f move) steps) same_one same_other
    (ChargesLeast-run one other (after_move s f move) steps apart
    (ap (λ (c : Client). c.competes) same_one ∙ one_competes)
    (ap (λ (c : Client). c.competes) same_other ∙ other_competes) fair.1)
ChargesLeast-run one other s (Adds f ∷ steps) apart one_competes other_competes fair =
    let same_one = client-with_client_other s f new_client one fair.0.0 in
    let same_other = client-with_client_other s f new_client other fair.0.1 in
    unmoved one other s (add s f) (charges_of one other (add s f) steps) same_one same_other
    (ChargesLeast-run one other (add s f) steps apart
    (ap (λ (c : Client). c.competes) same_one ∙ one_competes)
    (ap (λ (c : Client). c.competes) same_other ∙ other_competes) fair.1)
ChargesLeast-run one other s (Removes f ∷ steps) apart one_competes other_competes fair =
    let same_one = client-remove_other s f one fair.0.0 in
    let same_other = client-remove_other s f other fair.0.1 in
    unmoved one other s (remove s f) (charges_of one other (remove s f) steps) same_one same_other
    (ChargesLeast-run one other (remove s f) steps apart
    (ap (λ (c : Client). c.competes) same_one ∙ one_competes)
    (ap (λ (c : Client). c.competes) same_other ∙ other_competes) fair.1)
ChargesLeast-run one other s (Charges f units ∷ steps) apart one_competes other_competes fair =
    let now = charge s f units in
    let later = charges_of one other now steps in
    let rest = ChargesLeast-run one other now steps apart (competes-charge s f units one ∙ one_competes)
    (competes-charge s f units other ∙ other_competes) fair.1 in
    elim (nat_eq f one) as (λ t. nat_eq f one ≡ t
    → ChargesLeast (client s one).pass (client s other).pass
    (if t then One (share (client s one) units) ∷ later
    else if nat_eq f other then Other (share (client s other) units) ∷ later else later)) [
      | true ↦ λ e.
          let is : f ≡ one = eqb-true f one e in (
            fair.0 is,
            from_passes _ _ _ _ later (pass-charge_same s f units one is one_competes)
                (pass-charge_other s f units other (λ also. apart (sym is ∙ sym also))) rest,
          )
      | false ↦ λ e.
          let differs = eqb-false f one e in
          elim (nat_eq f other) as (λ t. nat_eq f other ≡ t
          → ChargesLeast (client s one).pass (client s other).pass
          (if t then Other (share (client s other) units) ∷ later else later)) [
            | true ↦ λ also.
                from_passes _ _ _ _ later (pass-charge_other s f units one (λ is. differs (sym is)))
                (pass-charge_same s f units other (eqb-true f other also) other_competes) rest
            | false ↦ λ neither.
                let apart_other = eqb-false f other neither in
                from_passes _ _ _ _ later (pass-charge_other s f units one (λ is. differs (sym is)))
                (pass-charge_other s f units other (λ is. apart_other (sym is))) rest
          ] refl
    ] refl

pub runs_stay_close : RunsStayClose
runs_stay_close one other s steps apart one_competes other_competes fair =
    shares_stay_close (client s one).pass (client s other).pass (charges_of one other s steps)
    (ChargesLeast-run one other s steps apart one_competes other_competes fair)
