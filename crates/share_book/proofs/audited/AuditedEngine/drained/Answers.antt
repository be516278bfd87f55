use Rattle.std.proofs.Common.{sym, subst}
use Rattle.share_book.specs.Texts.{TextView}
use Rattle.share_book.proofs.RunTextLemmas.{IsKept, run-drained}
use Rattle.share_book.proofs.audited.AuditedEngine.drained.Goals as goal

pub invariant_of-self : goal.invariant_of-self
invariant_of-self g c =
    subst
    (λ (t : TextView). IsKept (record { link = c.self.inside.engine; kind = c.self.inside.kind; text = t }))
    (sym c.pass.ensures) (
      run-drained (record { link = c.self.inside.engine; kind = c.self.inside.kind; text = c.self.inside.text })
          c.args.count c.self.invariant.0,
      c.self.invariant.1,
    )
