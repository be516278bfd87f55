use Rattle.share_bill.proofs.TextLemmas.{next-line, next-long, next-none, next-bytes, next-interrupted, text-ended}
use Rattle.share_bill.proofs.TextLemmas.{read-failed}
use Rattle.share_bill.proofs.bill.text.advance.Goals as goal

pub returns-in-Line : goal.returns-in-Line
returns-in-Line g c = λ first passed n at.
    next-line _ _ first passed n c.args.lines.now c.next.new.self at c.in-Line.ensures.reader c.in-Line.ensures.next

pub returns-in-OverLong : goal.returns-in-OverLong
returns-in-OverLong g c = λ first passed n at.
    next-long _ _ first passed n c.args.lines.now c.next.new.self at c.in-OverLong.ensures.reader
    c.in-OverLong.ensures.next

pub returns-in-Bytes : goal.returns-in-Bytes
returns-in-Bytes g c = λ first passed n at.
    next-bytes _ _ first passed n c.next.new.self c.read.new.self
    (next-none _ _ first passed n c.args.lines.now c.next.new.self at c.in-Unfinished.ensures.reader
    c.in-Unfinished.ensures.next) _ c.in-Bytes.ensures.came

pub returns-in-Interrupted : goal.returns-in-Interrupted
returns-in-Interrupted g c = λ first passed n at.
    next-interrupted _ _ first passed n c.next.new.self c.read.new.self
    (next-none _ _ first passed n c.args.lines.now c.next.new.self at c.in-Unfinished.ensures.reader
    c.in-Unfinished.ensures.next) c.in-Interrupted.ensures.came

pub returns-in-End : goal.returns-in-End
returns-in-End g c = λ first passed n at.
    text-ended _ _ first passed c.next.new.self c.read.new.self
    (next-none _ _ first passed n c.args.lines.now c.next.new.self at c.in-Unfinished.ensures.reader
    c.in-Unfinished.ensures.next).0 c.in-End.ensures.came c.in-Unfinished.ensures.next.2.0

pub returns-in-Failed : goal.returns-in-Failed
returns-in-Failed g c = λ first passed n at.
    read-failed _ _ first passed c.next.new.self c.read.new.self
    (next-none _ _ first passed n c.args.lines.now c.next.new.self at c.in-Unfinished.ensures.reader
    c.in-Unfinished.ensures.next).0 c.in-Failed.ensures.came
