use Rattle.std.proofs.Common.{◌≡◌, ap, sym, subst, ◌∙◌}
use Rattle.share_book.specs.Closed.{ClosedView, closed_of}
use Rattle.share_lives.specs.Lives.{left_at}
use Rattle.share_lives.specs.Remainders.{Gains, remainders_of}
use Rattle.share_lives.specs.declared.stage.Phase.TheVariants.{Carrying}
use Rattle.share_lives.proofs.RemainderLemmas.{gains-then}
use Rattle.share_lives.proofs.stage.Stage.leave.Goals as goal

pub returns-in-Carrying-clause-dropped : goal.returns-in-Carrying-clause-dropped
returns-in-Carrying-clause-dropped c =
    let is : c.args.self.now ≡ Carrying c.in-Carrying.book c.in-Carrying.closed =
    sym c.take.ensures.taken ∙ c.in-Carrying.is in
    subst (λ more. Gains c.args.remainders.now more c.count_left-in-Carrying-2.new.remainders) (sym (ap left_at is))
    (gains-then c.args.remainders.now (remainders_of (closed_of c.in-Carrying.book))
    c.count_left-in-Carrying.new.remainders (remainders_of c.in-Carrying.closed)
    c.count_left-in-Carrying-2.new.remainders
    (subst (λ (closed : ClosedView). Gains c.args.remainders.now (remainders_of closed)
    c.count_left-in-Carrying.new.remainders)
    (c.close-in-Carrying.ensures ∙ ap closed_of c.begin.ensures) c.count_left-in-Carrying.ensures)
    c.count_left-in-Carrying-2.ensures)
