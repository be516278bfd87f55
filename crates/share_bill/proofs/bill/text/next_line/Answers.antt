use Rattle.std.proofs.Common.{◌≡◌, ◌^◌, arith}
use Rattle.share_bill.specs.Texts.{too_many_reads}
use Rattle.share_bill.proofs.bill.text.next_line.Goals as goal

pub loop-reads-init : goal.loop-reads-init
loop-reads-init g c = λ first passed at. (at, omega arith)

pub returns-in-Some : goal.returns-in-Some
returns-in-Some g c = λ first passed at.
    c.in-Some.ensures first passed c.loop-reads.reads (c.loop-reads.invariant first passed at)

pub returns : goal.returns
returns g c = λ first passed at.
    let held = c.loop-reads.invariant first passed at in
    let many = held.1 in
    let all : c.loop-reads.reads ≡ 2 ^ 32 = omega arith in
    too_many_reads held.0.count _ held.0.reads (omega (arith, many, all))
