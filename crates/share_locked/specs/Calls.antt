-- The effect of each call on a running link, as a relation. It relates the state behind the lock before it, the answer,
-- and the state after it.
use Rattle.std.specs.Prelude.{◌≡◌, ◌⊎◌, ℕ, suc, true, false, [], ◌∷◌, ◌++◌, length}
use Rattle.share_base.specs.declared.refusal.Refusal.TheVariants.{NoMemory, Spent as SpentRefusal}
use Rattle.share_base.specs.declared.command.Command.{Command}
use Rattle.share_base.specs.declared.command.Reply.{Reply}
use Rattle.share_base.specs.declared.command.Reply.TheVariants.{Refused}
use Rattle.share_model.specs.declared.ingress.Offer.{Offer}
use Rattle.share_model.specs.link.Calls.{is_spent, Stepped, CommandCall}
use Rattle.share_model.specs.link.Commands.{command_step}
use Rattle.share_model.specs.link.Arrivals.{arrive_step}
use Rattle.share_model.specs.link.Fields.{IsBody}
use Rattle.share_ingress.specs.Ends.{IsTake, with_miss}
use Rattle.share_journal.specs.Entries.{command_entry, arrival_entry}
use Rattle.share_locked.specs.declared.locked.Admit.{Admit}
use Rattle.share_locked.specs.declared.locked.Admit.TheVariants.{Admitted, Empty, Spent}
use Rattle.share_locked.specs.Views.{LockedView, ClerkView, receipt, with_receipt}

-- the intake and the number of clerks did not change
pub record KeepsSide {W : Type 0} (old new : LockedView W) : Type 0 where
  pub intake : new.intake ≡ old.intake
  pub clerks : new.clerks ≡ old.clerks

-- Commands

-- the command was an event: it has an entry, under this clerk, and a receipt with the number of the entry
pub record IsBooked {W : Type 0} (old : LockedView W) (before : ClerkView) (c : Command) (number : ℕ) (reply : Reply)
    (new : LockedView W) (after : ClerkView) : Type 0 where
  pub living : is_spent old.recorder.link ≡ false
  pub stepped : Stepped (command_step old.recorder.link.rates old.recorder.link.live c) old.recorder.link reply
      new.recorder.link
  pub entry : new.recorder.entries ≡ old.recorder.entries ++ command_entry before.number c reply ∷ []
  pub number_is : number ≡ suc (length old.recorder.entries)
  pub kept : after ≡ with_receipt before (receipt number c reply)
  pub side : KeepsSide old new

-- the command was no event: the life was spent, or memory was refused, and nothing changed
pub record IsNotBooked {W : Type 0} (old : LockedView W) (before : ClerkView) (c : Command) (number : ℕ) (reply : Reply)
    (new : LockedView W) (after : ClerkView) : Type 0 where
  pub number_is : number ≡ 0
  pub did : CommandCall old.recorder.link c reply old.recorder.link
  pub why : (reply ≡ Refused SpentRefusal) ⊎ (reply ≡ Refused NoMemory)
  pub unchanged : new ≡ old
  pub clerk : after ≡ before

abbrev pub CommandMade : {W : Type 0} → LockedView W → ClerkView → Command → ℕ → Reply → LockedView W → ClerkView
    → Type 0
CommandMade old before c number reply new after =
    IsBooked old before c number reply new after ⊎ IsNotBooked old before c number reply new after

-- Admissions

-- one offer was popped, and came to the link as its worker's arrival, in the same call
pub record Admits {W : Type 0} (old : LockedView W) (worker n : ℕ) (reply : Reply) (new : LockedView W) : Type 0 where
  pub taken : Offer
  pub worker_is : worker ≡ taken.worker
  pub number_is : n ≡ taken.n
  pub living : is_spent old.recorder.link ≡ false
  pub body : IsBody old.recorder.link.live.version taken.parcel
  pub take : IsTake old.intake taken new.intake
  pub stepped : Stepped (arrive_step old.recorder.link.live taken.name taken.parcel) old.recorder.link reply
      new.recorder.link
  pub entry : new.recorder.entries
      ≡ old.recorder.entries ++ arrival_entry taken.worker taken.name taken.parcel reply ∷ []
  pub clerks : new.clerks ≡ old.clerks

-- one more pop found the queue empty, and nothing else changed
pub record FindsNone {W : Type 0} (old new : LockedView W) : Type 0 where
  pub living : is_spent old.recorder.link ≡ false
  pub none : old.intake.ahead ≡ []
  pub missed : new ≡ record old { intake = with_miss old.intake }

abbrev pub Admission : {W : Type 0} → LockedView W → Admit → LockedView W → Type 0
Admission old (Admitted worker n reply) new = Admits old worker n reply new
Admission old Empty new = FindsNone old new
Admission old Spent new = (is_spent old.recorder.link ≡ true) × (new ≡ old)
