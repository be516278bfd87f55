-- A book that was opened over a plan.
use Rattle.std.specs.Prelude.{◌≡◌, ◌+◌, ℕ, List, ◌++◌, flat_map, length}
use Rattle.share_model.specs.declared.rates.Rate.{Rate}
use Rattle.share_model.specs.declared.line.Line.TheVariants.{Change}
use Rattle.share_model.specs.text.Audit.{written_line}
use Rattle.share_book.specs.Book.{BookView}
use Rattle.share_gateway.specs.Opened.{IsOpened}
use Rattle.share_gateway.specs.Opening.{opening}
use Rattle.share_gateway.specs.Plan.{PlanView}
use Rattle.share_book.specs.Texts.{TextView, first_line}
use Rattle.share_gateway.specs.declared.openings.PlanCommand.{PlanCommand}
use Rattle.share_book.specs.declared.book_text.TextKind.{TextKind}

-- the line of a command of the opening
abbrev pub command_line : PlanCommand → List ℕ
command_line c = written_line (Change c.command)

-- the first line, and the lines of the opening
abbrev pub opening_lines : TextKind → PlanView → List ℕ
opening_lines kind p = first_line kind ++ flat_map command_line (opening p)

-- with room for 262144 bytes after them
abbrev pub opened_text : TextKind → PlanView → TextView
opened_text kind p = record { bytes = opening_lines kind p; space = length (opening_lines kind p) + 262144 }

-- the opening was made on the link, and its lines are the text
pub record IsOpenBook (rates : List Rate) (p : PlanView) (events : ℕ) (kind : TextKind) (b : BookView) : Type 0 where
  pub link : IsOpened rates p events b.audited.link
  pub kind_is : b.audited.kind ≡ kind
  pub text : b.audited.text ≡ opened_text kind p
  pub plan : b.plan ≡ p
