use Rattle.std.specs.Prelude.{ℕ, List}
use Rattle.share_bill.specs.Texts.{HasReadAt, IsAt}
use Rattle.share_bill.proofs.bill.text.next_line.Given as goal

-- each turn of the loop made a read
abbrev pub invariant-loop-reads : goal.invariant-loop-reads
invariant-loop-reads g l =
    (first : _) (passed : List ℕ)
    → IsAt g.I.TellingReader.left g.I.TellingReader.gives first passed l.initial.lines
    → HasReadAt g.I.TellingReader.left g.I.TellingReader.gives first l.reads passed l.lines
