-- The effect of a step on the files of a book.
use Rattle.std.specs.Prelude.{◌≡◌, ◌⊎◌, Option, Some, None, ⊤}
use Rattle.share_archive.specs.Steps.{after, cut_short}
use Rattle.share_archive.specs.declared.plan.BookState.{BookState}
use Rattle.share_archive.specs.declared.plan.Step.{Step}

-- the step is made. Nothing is said of files of which nothing was known
abbrev pub IsMade : Step → Option BookState → Option BookState → Type 0
IsMade step None new = ⊤
IsMade step (Some book) new = new ≡ Some (after step book)

-- the step is made, or not, or in part
abbrev pub IsMadeInPart : Step → Option BookState → Option BookState → Type 0
IsMadeInPart step None new = ⊤
IsMadeInPart step (Some book) new =
    (new ≡ Some book) ⊎ (new ≡ Some (cut_short step book)) ⊎ (new ≡ Some (after step book))
