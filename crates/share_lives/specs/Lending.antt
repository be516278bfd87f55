-- The end of a life, which lends its open book.
use Rattle.std.specs.Prelude.{Option}
use Rattle.std.specs.Borrow.{Fml, LendsIf, MutBor, RattleType}
use Rattle.share_tariff.specs.contracts.plain_shelf.PlainShelf as shelf
use Rattle.share_tariff.specs.contracts.plain_shelf.PlainShelfRates.TheImpl as rates
use Rattle.share_book.specs.Book.{BookView}
use Rattle.share_book.specs.contracts.book.Book as book
use Rattle.share_lives.specs.Lives.{LifeView, at_stage}
use Rattle.share_lives.specs.declared.stage.Phase.{Phase}
use Rattle.share_lives.specs.declared.stage.Phase.TheVariants.{Open}
use Rattle.share_lives.specs.contracts.stage.Phase as phase
use Rattle.share_lives.specs.contracts.stage.Stage as stage
use Rattle.share_lives.specs.contracts.life.Life as life

-- a book of plain tariffs, as the logic holds it
abbrev pub book_row : RattleType
book_row = book.the_row shelf.the_row rates.ghosts

-- a phase ends as the open book that was last behind the loan
abbrev pub PhaseLends : MutBor Phase → Option (MutBor BookView) → Fml
PhaseLends p r = LendsIf phase.the_row book_row p r Open p.now

abbrev pub StageLends : MutBor Phase → Option (MutBor BookView) → Fml
StageLends s r = LendsIf stage.the_row book_row s r Open s.now

abbrev pub LifeLends : MutBor LifeView → Option (MutBor BookView) → Fml
LifeLends l r = LendsIf life.the_row book_row l r (λ b. at_stage (Open b) l.now) l.now
