use Rattle.share_bill.specs.Texts.{IsTextFault}
use Rattle.share_bill.proofs.TextLemmas.{bills-of-run, fault-kept}
use Rattle.share_bill.proofs.bill.text.bill_text.Goals as goal

pub returns-in_err-run : goal.returns-in_err-run
returns-in_err-run g c =
    fault-kept
    (IsTextFault g.I.TellingReader.left g.I.TellingReader.gives c.args.text (g.S.Rates.rates c.args.shelf))
    c.from_residual.result _ _ c.from_residual.ensures.1 c.in_err-run.ensures

pub returns : goal.returns
returns g c =
    bills-of-run g.I.TellingReader.left g.I.TellingReader.gives c.args.text (g.S.Rates.rates c.args.shelf)
    c.in_ok-run.run'.bill c.in_ok-run.run'.cut c.bill_of-billed.result c.in_ok-run.ensures c.bill_of-billed.ensures.book
    c.bill_of-billed.ensures.lacks
