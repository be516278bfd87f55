use Rattle.share_ledger.proofs.FundingSourceLemmas.{bits-flagged}
use Rattle.share_ledger.proofs.stale.flag.Goals as goal

pub returns-then-flagged-clause-bits : goal.returns-then-flagged-clause-bits
returns-then-flagged-clause-bits c =
    rw (c.if-flagged.true)
    (bits-flagged c.args.moved.now.flags c.args.place c.args.moved.now.bits c.bit_of.result c.bit_of.ensures
    c.requires.bits)
