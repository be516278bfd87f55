-- The view of a running link and of its clerks in contracts.
use Rattle.std.specs.Prelude.{ℕ, suc, ◌++◌, List, [], ◌∷◌, nat_le, Option}
use Rattle.share_base.specs.Refusal.{first_refusal}
use Rattle.share_base.specs.declared.command.Command.{Command}
use Rattle.share_base.specs.declared.command.Reply.{Reply}
use Rattle.share_base.specs.declared.refusal.Refusal.{Refusal}
use Rattle.share_base.specs.declared.refusal.Refusal.TheVariants.{TableFull}
use Rattle.share_ingress.specs.Ends.{IntakeView}
use Rattle.share_journal.specs.Records.{RecorderView}
use Rattle.share_locked.specs.declared.clerk.Receipt.{Receipt}

-- the recorder, the intake, and the number of clerks made
pub record LockedView (W : Type 0) : Type 0 where
  pub recorder : RecorderView W
  pub intake : IntakeView
  pub clerks : ℕ

-- its number, its receipts in order, and the number that it has room for
pub record ClerkView : Type 0 where
  pub number : ℕ
  pub receipts : List Receipt
  pub room : ℕ

abbrev pub receipt : ℕ → Command → Reply → Receipt
receipt number c reply = record { number = number; command = c; reply = reply }

abbrev pub new_clerk : ℕ → ℕ → ClerkView
new_clerk number room = record { number = number; receipts = []; room = room }

abbrev pub with_room : ClerkView → ℕ → ClerkView
with_room clerk room = record clerk { room = room }

abbrev pub with_receipt : ClerkView → Receipt → ClerkView
with_receipt clerk kept = record clerk { receipts = clerk.receipts ++ kept ∷ [] }

-- why no clerk is made, memory aside: there are at most eight
abbrev pub clerk_refusal : ℕ → Option Refusal
clerk_refusal clerks = first_refusal ((nat_le 8 clerks, TableFull) ∷ [])

abbrev pub with_clerk : {W : Type 0} → LockedView W → LockedView W
with_clerk l = record l { clerks = suc l.clerks }
