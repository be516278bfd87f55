use Rattle.std.proofs.Common.{ap, sym, ◌∙◌, []}
use Rattle.share_bill.specs.BookLines.{kind_of}
use Rattle.share_bill.proofs.TextLemmas.{first-other, first-long, first-none}
use Rattle.share_bill.proofs.bill.text.first_line.Goals as goal

pub returns-in-None : goal.returns-in-None
returns-in-None g c = λ first at.
    rw c.wrong.ensures
    (first-other g.I.TellingReader.left g.I.TellingReader.gives first c.next_line.new.lines
    (c.in-Line.ensures first [] at)
    (ap kind_of (sym c.line.ensures) ∙ sym c.in-None.ensures))

pub returns-in-Long : goal.returns-in-Long
returns-in-Long g c = λ first at.
    rw c.wrong-in-Long.ensures (first-long g.I.TellingReader.left g.I.TellingReader.gives first c.next_line.new.lines
    (c.in-Long.ensures first [] at))

pub returns-in-End : goal.returns-in-End
returns-in-End g c = λ first at.
    rw c.wrong-in-End.ensures (first-none g.I.TellingReader.left g.I.TellingReader.gives first c.next_line.new.lines
    (c.in-End.ensures first [] at))
