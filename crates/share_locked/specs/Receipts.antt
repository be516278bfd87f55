-- The receipts of clerks, and the commands of a journal.
use Rattle.std.specs.Prelude.{◌≡◌, ◌≢◌, ◌<◌, ◌&&◌, ℕ, suc, ◌++◌, Bool, true, false, List, [], ◌∷◌, nat_eq, length}
use Rattle.std.specs.Prelude.{sum_by, count_by, Option, None, Some, if◌then◌else◌}
use Rattle.std.specs.List.{list_any}
use Rattle.share_base.specs.declared.command.Event.{Event}
use Rattle.share_base.specs.declared.command.Event.TheVariants.{Commanded, Arrived, Written, Faulted}
use Rattle.share_base.specs.declared.command.Outcome.{Outcome}
use Rattle.share_base.specs.declared.command.Outcome.TheVariants.{Replied, Turned}
use Rattle.share_journal.specs.declared.entry.Entry.{Entry}
use Rattle.share_journal.specs.declared.entry.Source.{Source}
use Rattle.share_journal.specs.declared.entry.Source.TheVariants.{Clerk, Worker, Link}
use Rattle.share_journal.specs.Entries.{command_entry, entry_at}
use Rattle.share_locked.specs.declared.clerk.Receipt.{Receipt}
use Rattle.share_locked.specs.Views.{ClerkView, receipt}

-- The entries of a clerk in a journal

abbrev pub is_from : ℕ → Source → Bool
is_from clerk (Clerk n) = nat_eq n clerk
is_from clerk (Worker n) = false
is_from clerk Link = false

abbrev pub receipt_by : ℕ → Event → Outcome → List Receipt
receipt_by number (Commanded c) (Replied reply) = receipt number c reply ∷ []
receipt_by number (Commanded c) (Turned turn) = []
receipt_by number (Arrived flow body) outcome = []
receipt_by number (Written k) outcome = []
receipt_by number Faulted outcome = []

-- the receipt that this clerk has of an entry of this number, if that is one of its commands
abbrev pub receipt_in : ℕ → ℕ → Entry → List Receipt
receipt_in clerk number e = if is_from clerk e.source then receipt_by number e.event e.reply else []

-- one receipt, or none
abbrev pub list_of : Option Receipt → List Receipt
list_of None = []
list_of (Some r) = r ∷ []

-- the receipts that a clerk has of entries numbered from k + 1 on
abbrev pub receipts_of : ℕ → ℕ → List Entry → List Receipt
receipts_of clerk k [] = []
receipts_of clerk k (e ∷ es) = receipt_in clerk (suc k) e ++ receipts_of clerk (suc k) es

-- the receipts of a clerk are what the journal holds of it
abbrev pub Agrees : List Entry → ClerkView → Type 0
Agrees entries clerk = clerk.receipts ≡ receipts_of clerk.number 0 entries

abbrev pub Disagrees : List Entry → ClerkView → Type 0
Disagrees entries clerk = clerk.receipts ≢ receipts_of clerk.number 0 entries

-- the journal has the command and the reply of a receipt under its number, and under the clerk
abbrev pub StandsInJournal : List Entry → ℕ → Receipt → Type 0
StandsInJournal entries clerk r = entry_at entries r.number ≡ Some (command_entry clerk r.command r.reply)

-- the numbers rise, and are above a bound
abbrev pub Ascend : ℕ → List Receipt → Type 0
Ascend least [] = Unit {0}
Ascend least (r ∷ rs) = (least < r.number) × Ascend r.number rs

-- Counts

abbrev pub is_commanded : Event → Bool
is_commanded (Commanded c) = true
is_commanded (Arrived flow body) = false
is_commanded (Written k) = false
is_commanded Faulted = false

abbrev pub is_command : Entry → Bool
is_command e = is_commanded e.event

abbrev pub commands_in : List Entry → ℕ
commands_in entries = count_by is_command entries

abbrev pub is_worker : Source → Bool
is_worker (Clerk n) = false
is_worker (Worker n) = true
is_worker Link = false

abbrev pub is_arrived : Event → Bool
is_arrived (Commanded c) = false
is_arrived (Arrived flow body) = true
is_arrived (Written k) = false
is_arrived Faulted = false

-- a packet that a worker brought
abbrev pub is_arrival : Entry → Bool
is_arrival e = is_arrived e.event && is_worker e.source

abbrev pub receipts_in : List ClerkView → ℕ
receipts_in clerks = sum_by (λ (c : ClerkView). length c.receipts) clerks

-- one of the clerks has this number
abbrev pub has_clerk : ℕ → List ClerkView → Bool
has_clerk n clerks = list_any (λ (c : ClerkView). nat_eq c.number n) clerks
