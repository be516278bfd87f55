-- Whether the books that are given are those of the rows.
use Rattle.std.specs.Prelude.{◌≡◌, ◌<◌, ◌==◌, ℕ, List, Option, Some, None, if◌then◌else◌, length, slice_index, take}
use Rattle.std.specs.List.{list_any}
use Rattle.share_catalog.specs.Billed.{is_bad_book, IsFirstMissing}
use Rattle.share_catalog.specs.declared.row.Row.{Row}
use Rattle.share_verification.specs.declared.given.GivenFault.{GivenFault}
use Rattle.share_verification.specs.declared.given.GivenFault.TheVariants.{Wrong, Missing}
use Rattle.share_verification.specs.declared.given.WrongGiven.{WrongGiven}
use Rattle.share_verification.specs.declared.given.WrongGiven.TheVariants.{Twice, Bad}

-- the fault of a book of this number after those
abbrev pub wrong_after : List Row → List ℕ → ℕ → Option WrongGiven
wrong_after rows before number =
    if list_any (λ n. n == number) before then Some Twice
    else if list_any (is_bad_book number) rows then Some Bad
    else None

-- the fault of the book at an index
abbrev pub wrong_at : List Row → List ℕ → ℕ → Option WrongGiven
wrong_at rows given index = wrong_after rows (take index given) (slice_index given index)

-- none of the books before this index is wrong
abbrev pub AreRight : List Row → List ℕ → ℕ → Type 0
AreRight rows given end = (k : ℕ) → k < end → wrong_at rows given k ≡ None

-- the first that is wrong; or if none is, the first that is missing; or there is no fault
abbrev pub IsFirstFault : List Row → List ℕ → Option GivenFault → Type 0
IsFirstFault rows given (Some (Wrong index wrong)) =
    (index < length given) × (wrong_at rows given index ≡ Some wrong) × AreRight rows given index
IsFirstFault rows given (Some (Missing book)) =
    AreRight rows given (length given) × IsFirstMissing rows given (Some book)
IsFirstFault rows given None = AreRight rows given (length given) × IsFirstMissing rows given None
