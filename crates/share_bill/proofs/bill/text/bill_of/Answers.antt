use Rattle.share_bill.proofs.TextLemmas.{book-billed}
use Rattle.share_bill.proofs.bill.text.bill_of.Goals as goal

pub returns-clause-book : goal.returns-clause-book
returns-clause-book g c = λ rates bytes run.
    rw c.kind.ensures
    (book-billed rates bytes c.args.run.now.bill c.in_ok-rows.rows.items c.args.run.now.cut run c.in_ok-rows.ensures)
