-- The books of a gateway from the first one on, as one tenant sees them.
use Rattle.std.specs.Prelude.{◌≡◌, ◌<◌, ℕ, ◌+◌, Bool, List, [], ◌∷◌, ◌++◌, length, find, bytes_eq, Contains}
use Rattle.std.specs.Prelude.{Option, None, Some}
use Rattle.share_model.specs.funding.Graph.{NameBytes}
use Rattle.share_model.specs.link.Turns.{sending}
use Rattle.share_gateway.specs.Plan.{TenantView, IsInLimits}
use Rattle.share_gateway.specs.PlanChanges.{is_tenant}
use Rattle.share_book.specs.Audited.{Audited}
use Rattle.share_book.specs.Book.{BookView, Takes}
use Rattle.share_book.specs.BookHistory.{CarriesAll, next_payload, payload_if, waiting_in}
use Rattle.share_book.specs.Carry.{left_for}
use Rattle.share_book.specs.Closed.{ClosedView, closed_of}
use Rattle.share_book.specs.declared.book.Taken.TheVariants.{Packet}
use Rattle.share_settings.specs.Settings.{SettingsView}
use Rattle.share_transit.specs.Transit.{TransitView}
use Rattle.share_orders.specs.declared.orders.Order.{Order}
use Rattle.share_orders.specs.declared.obeying.Obeyed.{Obeyed}
use Rattle.share_lives.specs.Lives.{
  LifeView,
  Begins,
  IsNextBook,
  ObeysAt,
  TurnsLife,
  after_follow,
  at_stage,
  drained_at,
  next_plan,
}
use Rattle.share_lives.specs.NextPlan.{NextPlanView}
use Rattle.share_lives.specs.Remainders.{remainders_of}
use Rattle.share_lives.specs.declared.life.Frame.{Frame}
use Rattle.share_lives.specs.declared.remainder.Remainder.{Remainder}
use Rattle.share_lives.specs.declared.stage.Phase.{Phase}
use Rattle.share_lives.specs.declared.stage.Phase.TheVariants.{Open, Carrying, Over}

-- the payload of the frame that a turn scheduled, if it is one of the tenant
abbrev pub scheduled_at : NameBytes → Phase → Option Frame → List (List ℕ)
scheduled_at name (Open b) None = []
scheduled_at name (Open b) (Some frame) = next_payload b.plan name (sending b.audited.link.live)
scheduled_at name (Carrying b c) frame = []
scheduled_at name Over frame = []

-- the payloads of the tenant that wait
abbrev pub waiting_at : Phase → NameBytes → List (List ℕ)
waiting_at (Open b) name = waiting_in b name
waiting_at (Carrying b c) name = waiting_in b name ++ left_for c name
waiting_at Over name = []

-- The calls on a life from the first book on, as the tenant of a name sees them. They have the payloads that were taken
-- of it, and the number of these that were dropped, as Remainders count them. They have the payloads of its frames that
-- were scheduled, and the life as it is. Books follow one another by `follow`, calls of `carry` up to the one that is
-- done, with text handed between them, and `begin_next`. The plans are in their limits, as every plan is.
pub data LifeHistory (name : NameBytes) : List (List ℕ) → ℕ → List (List ℕ) → LifeView → Type 0 where
  began : (s : SettingsView) (l : LifeView) → IsInLimits s.plan → Begins s l → LifeHistory name [] 0 [] l
  took : (taken : List (List ℕ)) (dropped : ℕ) (scheduled : List (List ℕ)) (l : LifeView) (b : BookView)
      (tenant payload : List ℕ) (seq : ℕ) (new : Audited)
      → LifeHistory name taken dropped scheduled l → l.stage ≡ Open b → Takes b.audited tenant payload (Packet seq) new
      → LifeHistory name (taken ++ payload_if (bytes_eq name tenant) payload) dropped scheduled
      (at_stage (Open (record b { audited = new })) l)
  turned : (taken : List (List ℕ)) (dropped : ℕ) (scheduled : List (List ℕ)) (l : LifeView) (before : TransitView)
      (frame : Option Frame) (new : LifeView) (after : TransitView)
      → LifeHistory name taken dropped scheduled l → TurnsLife l before frame new after
      → LifeHistory name taken dropped (scheduled ++ scheduled_at name l.stage frame) new
  obeyed : (taken : List (List ℕ)) (dropped : ℕ) (scheduled : List (List ℕ)) (l : LifeView) (waits : Bool)
      (order : Order) (answer : Obeyed) (stage : Phase)
      → LifeHistory name taken dropped scheduled l → ObeysAt waits l.stage order answer stage
      → LifeHistory name taken dropped scheduled (at_stage stage l)
  handed : (taken : List (List ℕ)) (dropped : ℕ) (scheduled : List (List ℕ)) (l : LifeView) (n : ℕ)
      → LifeHistory name taken dropped scheduled l
      → LifeHistory name taken dropped scheduled (at_stage (drained_at n l.stage) l)
  planned : (taken : List (List ℕ)) (dropped : ℕ) (scheduled : List (List ℕ)) (l : LifeView) (next : NextPlanView)
      → LifeHistory name taken dropped scheduled l
      → LifeHistory name taken dropped scheduled (record l { next = Some next })
  followed : (taken : List (List ℕ)) (dropped : ℕ) (scheduled : List (List ℕ)) (l : LifeView) (old b : BookView)
      (new : Audited) (after : ClosedView)
      → LifeHistory name taken dropped scheduled l → l.stage ≡ Open old → IsInLimits (next_plan old.plan l.next)
      → IsNextBook l b → CarriesAll b.audited b.plan.tenants (closed_of old) new after
      → LifeHistory name taken (dropped + length (left_for after name)) scheduled
      (at_stage (Open (record b { audited = new })) (after_follow b l.stage l))
  left : (taken : List (List ℕ)) (dropped : ℕ) (scheduled : List (List ℕ)) (l : LifeView) (b : BookView)
      → LifeHistory name taken dropped scheduled l → l.stage ≡ Open b
      → LifeHistory name taken (dropped + length (waiting_in b name)) scheduled (at_stage Over l)

-- each of the first ones is one of the second or one of the third, which keep their order
pub data Splits : List (List ℕ) → List (List ℕ) → List (List ℕ) → Type 0 where
  nothing : Splits [] [] []
  kept : (p : List ℕ) (all some others : List (List ℕ)) → Splits all some others → Splits (p ∷ all) (p ∷ some) others
  lost : (p : List ℕ) (all some others : List (List ℕ)) → Splits all some others → Splits (p ∷ all) some (p ∷ others)

-- the packets that were taken are those whose frames were scheduled, followed by those that wait, and in between as
-- many as were dropped. They are in order, each once
pub record LosesNothing (taken : List (List ℕ)) (dropped : ℕ) (scheduled waiting : List (List ℕ)) : Type 0 where
  pub others : List (List ℕ)
  pub splits : Splits taken (scheduled ++ waiting) others
  pub count : length others ≡ dropped

-- the remainders of a closed book have each of its tenants of whom packets are left, with their number
pub record CountsTenants (c : ClosedView) : Type 0 where
  pub counted : (name : NameBytes) (t : TenantView) → find (is_tenant name) c.plan.tenants ≡ Some t
      → 0 < length (left_for c name)
      → Contains (remainders_of c) (record { tenant = name; packets = length (left_for c name) })
