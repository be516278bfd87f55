use Rattle.share_text.proofs.ReadingLemmas.{send_ends, reads_same}
use Rattle.share_text.proofs.reading.send.Goals as goal

pub returns : goal.returns
returns c =
    reads_same _ _ _ _
    (send_ends c.args.words.now c.in-Some.flow c.in-Some-rest.digits.now _ c.in-Some.ensures c.in-Some-rest.ensures)
    c.send_line.ensures
