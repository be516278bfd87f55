-- The number and the name of each refusal, and refusals as a table of tests.
use Rattle.std.specs.Prelude.{◌≡◌, ◌⊎◌, ℕ, Bool, List, [], ◌∷◌, Option, None, Some, codes, if◌then◌else◌}
use Rattle.share_base.specs.declared.refusal.Refusal.{Refusal}
use Rattle.share_base.specs.declared.refusal.Refusal.TheVariants.{NoMemory, Spent, Syntax, Range}
use Rattle.share_base.specs.declared.refusal.Refusal.TheVariants.{NoCurrency, NoTicket, NoFlow, NoTariff, Taken, Base}
use Rattle.share_base.specs.declared.refusal.Refusal.TheVariants.{InUse, Funding, Unfunded, Crowded, Cycle, Deep}
use Rattle.share_base.specs.declared.refusal.Refusal.TheVariants.{TableFull, Sending, BufferFull, Broken, Held, NotHeld}

abbrev pub refusal_number : Refusal → ℕ
refusal_number NoMemory = 1
refusal_number Spent = 2
refusal_number Syntax = 3
refusal_number Range = 4
refusal_number NoCurrency = 5
refusal_number NoTicket = 6
refusal_number NoFlow = 7
refusal_number NoTariff = 8
refusal_number Taken = 9
refusal_number Base = 10
refusal_number InUse = 11
refusal_number Funding = 12
refusal_number Unfunded = 13
refusal_number Crowded = 14
refusal_number Cycle = 15
refusal_number Deep = 16
refusal_number TableFull = 17
refusal_number Sending = 18
refusal_number BufferFull = 19
refusal_number Broken = 20
refusal_number Held = 21
refusal_number NotHeld = 22

abbrev pub refusal_name : Refusal → List ℕ
refusal_name NoMemory = codes "NoMemory"
refusal_name Spent = codes "Spent"
refusal_name Syntax = codes "Syntax"
refusal_name Range = codes "Range"
refusal_name NoCurrency = codes "NoCurrency"
refusal_name NoTicket = codes "NoTicket"
refusal_name NoFlow = codes "NoFlow"
refusal_name NoTariff = codes "NoTariff"
refusal_name Taken = codes "Taken"
refusal_name Base = codes "Base"
refusal_name InUse = codes "InUse"
refusal_name Funding = codes "Funding"
refusal_name Unfunded = codes "Unfunded"
refusal_name Crowded = codes "Crowded"
refusal_name Cycle = codes "Cycle"
refusal_name Deep = codes "Deep"
refusal_name TableFull = codes "TableFull"
refusal_name Sending = codes "Sending"
refusal_name BufferFull = codes "BufferFull"
refusal_name Broken = codes "Broken"
refusal_name Held = codes "Held"
refusal_name NotHeld = codes "NotHeld"

-- the refusal of the first test that holds, in the order of the table
abbrev pub first_refusal : List (Bool × Refusal) → Option Refusal
first_refusal [] = None
first_refusal (row ∷ rows) = if row.0 then Some row.1 else first_refusal rows

-- e is the table's refusal; or the table gives none, and memory was refused
abbrev pub IsRefused : Option Refusal → Refusal → Type 0
IsRefused stands e = (stands ≡ Some e) ⊎ ((stands ≡ None) × (e ≡ NoMemory))
