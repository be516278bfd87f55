use Rattle.share_book.proofs.CarryAllLemmas.{HasCarried}
use Rattle.share_book.proofs.book.carrying.carry_all.Given as goal

abbrev pub invariant-tenants : goal.invariant-tenants
invariant-tenants g l = HasCarried l.initial.audited l.initial.closed l.tenants l.index l.audited l.closed
