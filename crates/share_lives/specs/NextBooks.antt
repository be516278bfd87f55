-- The books that are opened, and why one is not.
use Rattle.std.specs.Prelude.{◌≡◌, ◌⊎◌, ℕ, Bool, false, ◌&&◌, List, is_none}
use Rattle.std.specs.IoError.{error_kind}
use Rattle.std.specs.declared.io.Error.{Error}
use Rattle.std.specs.declared.io.ErrorKind.{ErrorKind}
use Rattle.std.specs.declared.io.ErrorKind.TheVariants.{InvalidInput, OutOfMemory}
use Rattle.share_model.specs.declared.rates.Rate.{Rate}
use Rattle.share_tariff.specs.PlainRates.{are_plain_rates}
use Rattle.share_gateway.specs.Opened.{first_refused, is_book_life}
use Rattle.share_gateway.specs.Plan.{PlanView}
use Rattle.share_gateway.specs.declared.opened.NotOpened.{NotOpened}
use Rattle.share_gateway.specs.declared.opened.NotOpened.TheVariants.{NoMemory, Range, Refused}
use Rattle.share_book.specs.declared.book_text.TextKind.{TextKind}
use Rattle.share_book.specs.declared.book_text.TextKind.TheVariants.{Whole as WholeText, Lengths as LengthsText}
use Rattle.share_settings.specs.declared.section.BookText.{BookText}
use Rattle.share_settings.specs.declared.section.BookText.TheVariants.{Whole, Lengths}

-- the kind of the text of a book
abbrev pub text_kind : BookText → TextKind
text_kind Whole = WholeText
text_kind Lengths = LengthsText

-- a book can be opened: its tariffs make a shelf, its life is as long as a book's, and its plan is sound
abbrev pub can_open : List Rate → PlanView → ℕ → Bool
can_open rates p events = are_plain_rates rates && is_book_life events && is_none (first_refused rates p)

-- why none was opened: memory was refused, or none can be
abbrev pub IsNoBook : List Rate → PlanView → ℕ → Error → Type 0
IsNoBook rates p events fault =
    (error_kind fault ≡ OutOfMemory) ⊎ ((error_kind fault ≡ InvalidInput) × (can_open rates p events ≡ false))

-- the error that says why a plan was not opened
abbrev pub kind_of_fault : NotOpened → ErrorKind
kind_of_fault NoMemory = OutOfMemory
kind_of_fault Range = InvalidInput
kind_of_fault (Refused entry refusal) = InvalidInput
