-- The line of a flow.
use Rattle.std.proofs.Common.{◌≡◌, ◌≤◌, ◌^◌, ℕ, ℤ, pos, negsuc, Bool, true, false, not, ◌&&◌, List, Option, None, Some}
use Rattle.std.proofs.Common.{arith, rules, ◌∙◌, ap, refl}
use Rattle.std.specs.FinMap.{get}
use Rattle.std.specs.Prelude.{unwrap_or, IsTrue}
use borrow.Author.Differences.{up, down}
use Rattle.share_model.specs.declared.funding.OpenFlow.{OpenFlow}
use Rattle.share_model.specs.declared.rates.Rate.{Rate}
use Rattle.share_model.specs.declared.stride.Client.{Client}
use Rattle.share_model.specs.funding.Graph.{NameBytes}
use Rattle.share_model.specs.link.Books.{is_held}
use Rattle.share_model.specs.link.Buffers.{is_busy}
use Rattle.share_model.specs.link.Live.{Live}
use Rattle.share_model.specs.run.Sound.{Sound}
use Rattle.share_model.proofs.lemmas.run.SoundLinkLemmas.{tickets-idle, flow-active}
use Rattle.share_model.specs.stride.Bound.{IsBounded}
use Rattle.share_model.proofs.lemmas.stride.BoundLemmas.{distance-idle}
use Rattle.share_model.specs.stride.Moves.{new_client, client, position}
use Rattle.share_model.specs.declared.link.Standing.TheVariants.{Held}
use Rattle.share_model.specs.text.Report.{flow_shown, standing_of}

pub idle_tickets : (life : ℕ) (rates : List Rate) (l : Live) (e : NameBytes × OpenFlow) → Sound life rates l
    → is_busy l.buffers e.1.number ≡ false → (flow_shown l e).tickets ≡ 0
idle_tickets life rates l e sound idle =
    tickets-idle l.graph e.1.number
    (flow-active sound e.1.number ∙ ap (λ busy. busy && not (is_held l.books e.1.number)) idle)

never_awake : (busy : Bool) → (busy && false) ≡ false
never_awake true = refl
never_awake false = refl

pub held_shown : (life : ℕ) (rates : List Rate) (l : Live) (e : NameBytes × OpenFlow) → Sound life rates l
    → is_held l.books e.1.number ≡ true → ((flow_shown l e).tickets ≡ 0) × ((flow_shown l e).standing ≡ Held)
held_shown life rates l e sound held = (
  tickets-idle l.graph e.1.number
      (flow-active sound e.1.number
      ∙ (ap (λ h. is_busy l.buffers e.1.number && not h) held ∙ never_awake (is_busy l.buffers e.1.number))),
  ap (λ h. standing_of h (position (client l.queue e.1.number)).competing) held,
)

none_from_bounds : (z : ℤ) → up z ≤ 0 → down z ≤ 0 → z ≡ pos 0
none_from_bounds (pos n) above below = ap pos (omega (arith, above))
none_from_bounds (negsuc n) above below = absurd (omega (arith, below))

-- a client without tickets does not compete, and is within its stride of the global pass, which is 0
new_place : (global_pass last clock : ℕ) (c : Client) (b : Bool) → c.competes ≡ b → IsBounded global_pass last clock c
    → c.tickets ≡ 0 → (position c).place ≡ pos 0
new_place global_pass last clock c true is bounded none =
    let competing : IsTrue c.competes = search rules in absurd (omega (arith, bounded.competing competing, none))
new_place global_pass last clock c false is bounded none =
    let still : c.stride ≡ 0 = rw none at bounded.stride in
    let away = distance-idle global_pass c is in
    let above = rw (still, away) at bounded.above in
    let below = rw (still, away) at bounded.below in
    rw is (none_from_bounds c.remain (omega (arith, above)) (omega (arith, below)))

pub no_place : (life : ℕ) (rates : List Rate) (l : Live) (e : NameBytes × OpenFlow) → life ≤ 2 ^ 24
    → Sound life rates l → (client l.queue e.1.number).tickets ≡ 0 → (flow_shown l e).place ≡ pos 0
no_place life rates l e short sound none = by_client (get l.queue.clients e.1.number) refl none
  where
    by_client : (o : Option Client) → get l.queue.clients e.1.number ≡ o → (unwrap_or o new_client).tickets ≡ 0
        → (position (unwrap_or o new_client)).place ≡ pos 0
    by_client None is none = refl
    by_client (Some c) is none =
        new_place l.queue.pass l.queue.last l.queue.clock c c.competes refl
        ((sound.queue.sound short).clients e.1.number c is) none
