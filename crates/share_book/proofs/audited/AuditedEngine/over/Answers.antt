use Rattle.share_book.proofs.audited.AuditedEngine.over.Goals as goal

pub invariant_of-result : goal.invariant_of-result
invariant_of-result g c = (c.requires.run, c.requires.whole)
