use Rattle.std.proofs.Common.{◌≡◌, ◌++◌, length}
use Rattle.std.specs.Prelude.{flat_map}
use Rattle.share_gateway.specs.Opening.{opening}
use Rattle.share_book.specs.OpenBook.{command_line}
use Rattle.share_book.proofs.book.opening.push_opening.Given as goal

abbrev pub invariant-commands : goal.invariant-commands
invariant-commands l =
    l.text.bytes ++ flat_map command_line l.commands
    ≡ l.initial.text.bytes ++ flat_map command_line (opening l.plan)

abbrev pub decreases-commands : goal.decreases-commands
decreases-commands l = length l.commands
