-- The effects of the calls behind the lock on the link: a chain of them is a chain of the calls of the link.
use Rattle.std.specs.Prelude.{◌≡◌, ℕ, Bool, true, false, MatchBool, List, [], ◌∷◌}
use Rattle.std.proofs.Common.{refl, sym, ap, subst, inl, inr}
use Rattle.share_base.specs.declared.refusal.Refusal.TheVariants.{Spent as SpentRefusal}
use Rattle.share_base.specs.declared.command.Reply.{Reply}
use Rattle.share_base.specs.declared.command.Reply.TheVariants.{Refused}
use Rattle.share_model.specs.declared.rates.Rate.{Rate}
use Rattle.share_model.specs.declared.writer.Answer.{Answer}
use Rattle.share_model.specs.link.Calls.{is_spent, Stepped, Steps}
use Rattle.share_model.specs.link.Chains.{OfCommand, OfArrival, OfTurn as OfLinkTurn, IsLeft, IsChain}
use Rattle.share_model.specs.link.Arrivals.{arrive_step}
use Rattle.share_model.specs.link.Commands.{command_step}
use Rattle.share_model.specs.link.Live.{Live}
use Rattle.share_model.specs.link.View.{LinkView}
use Rattle.share_locked.specs.Chains.{LockedCall, OfClerk, OfAdmission, OfTurn, LockedCallMade, IsLockedChain, links_of}
use Rattle.share_locked.specs.Views.{LockedView}
use Rattle.share_locked.specs.declared.locked.Admit.TheVariants.{Admitted, Empty, Spent}

-- a step of a link whose life is not spent
living_steps : {W : Type 0} (old new : LinkView W) (step : List Rate → Live → Live × Reply) (reply : Reply)
    → is_spent old ≡ false → Stepped (step old.rates old.live) old reply new → Steps step old reply new
living_steps old new step reply living did =
    subst (λ (t : Bool). MatchBool t ((reply ≡ Refused SpentRefusal) × (new ≡ old))
    (Stepped (step old.rates old.live) old reply new)) (sym living) did

module _ {W : Type 0} (answers : W → List ℕ → Answer → W → Type 0) where
  same_link : (old new : LockedView W) → new ≡ old → IsLeft answers old.recorder.link new.recorder.link
  same_link old new same = inl (ap (λ (l : LockedView W). l.recorder.link) same)

  call_left : (old new : LockedView W) (call : LockedCall) → LockedCallMade answers old call new
      → IsLeft answers old.recorder.link new.recorder.link
  call_left old new (OfClerk before command number reply after) (inl booked) =
      inr (
        OfCommand command reply,
        inr (living_steps _ _ (λ rates l. command_step rates l command) reply booked.living booked.stepped),
      )
  call_left old new (OfClerk before command number reply after) (inr none) = same_link old new none.unchanged
  call_left old new (OfAdmission (Admitted worker n reply)) did =
      inr (
        OfArrival did.taken.name did.taken.parcel reply,
        (
          did.body,
          living_steps _ _ (λ _ l. arrive_step l did.taken.name did.taken.parcel) reply did.living did.stepped,
        ),
      )
  call_left old new (OfAdmission Empty) did = inl (ap (λ (l : LockedView W). l.recorder.link) did.missed)
  call_left old new (OfAdmission Spent) did = same_link old new did.1
  call_left old new (OfTurn most turn) did = inr (OfLinkTurn most turn, did)

  pub chain-links : (first : LockedView W) (later : List (LockedView W)) → IsLockedChain answers first later
      → IsChain answers first.recorder.link (links_of later)
  chain-links first [] chain = tt
  chain-links first (next ∷ later) chain =
      (call_left first next chain.0.0 chain.0.1, chain-links next later chain.1)
