-- The charges of two flows in a stretch of events, on the scale of their passes.
use Rattle.std.specs.Prelude.{◌≡◌, ℕ, true, List, [], ◌∷◌, ◌++◌, length, Option, None, Some, if◌then◌else◌}
use Rattle.share_base.specs.declared.command.Event.{Event}
use Rattle.share_base.specs.declared.command.Event.TheVariants.{Commanded, Arrived, Written, Faulted}
use Rattle.share_model.specs.declared.rates.Rate.{Rate}
use Rattle.share_model.specs.link.Live.{Live}
use Rattle.share_model.specs.link.Turns.{Sending, frame_of, sending, is_whole}
use Rattle.share_model.specs.link.Books.{units_due}
use Rattle.share_model.specs.run.Fold.{State, step}
use Rattle.share_model.specs.stride.Moves.{Stride, client}
use Rattle.share_model.specs.stride.Runs.{Charges, charges_in}
use Rattle.share_model.specs.stride.Shares.{Charge}

-- the charge of a flow for n bytes of its frame, if it is one of the two
abbrev pub charges_for : ℕ → ℕ → List Rate → Live → ℕ → ℕ → List Charge
charges_for one other rates l f n = charges_in one other l.queue (Charges f (units_due rates l.books f n)) []

-- a flow is charged when its frame is whole, for all bytes of it
abbrev pub written_charges : ℕ → ℕ → List Rate → Live → ℕ → Option Sending → List Charge
written_charges one other rates l k None = []
written_charges one other rates l k (Some s) =
    if is_whole s k then charges_for one other rates l s.head.flow (length (frame_of s)) else []

-- and at a fault, for those that are out
abbrev pub fault_charges : ℕ → ℕ → List Rate → Live → Option Sending → List Charge
fault_charges one other rates l None = []
fault_charges one other rates l (Some s) = charges_for one other rates l s.head.flow s.out

abbrev pub event_charges : ℕ → ℕ → List Rate → Live → Event → List Charge
event_charges one other rates l (Commanded c) = []
event_charges one other rates l (Arrived flow body) = []
event_charges one other rates l (Written k) = written_charges one other rates l k (sending l)
event_charges one other rates l Faulted = fault_charges one other rates l (sending l)

unfoldable pub stretch_charges : ℕ → ℕ → List Rate → State → List Event → List Charge
stretch_charges one other rates s [] = []
stretch_charges one other rates s (e ∷ es) =
    event_charges one other rates s.live e ++ stretch_charges one other rates (step rates s e) es

-- the flow competes with `many` tickets
pub record CompetesWith (q : Stride) (f many : ℕ) : Type 0 where
  pub competes : (client q f).competes ≡ true
  pub tickets : (client q f).tickets ≡ many

-- two flows do
pub record Compete (one other a b : ℕ) (q : Stride) : Type 0 where
  pub first : CompetesWith q one a
  pub second : CompetesWith q other b

-- before the first event, and after each
unfoldable pub KeepCompeting : ℕ → ℕ → ℕ → ℕ → List Rate → State → List Event → Type 0
KeepCompeting one other a b rates s [] = Compete one other a b s.live.queue
KeepCompeting one other a b rates s (e ∷ es) =
    Compete one other a b s.live.queue × KeepCompeting one other a b rates (step rates s e) es
