use Rattle.std.proofs.Common.{◌≡◌, arith, subst, sym}
use Rattle.share_model.specs.lists.Each.{Each}
use Rattle.share_ingress.proofs.QueueOrderLemmas.{begins_empty}
use Rattle.share_ingress.proofs.NewEndLemmas.{of_workers, of_link}
use Rattle.share_ingress.proofs.ends.queue.Goals as goal

pub ruled-requires-clause-rule : goal.ruled-requires-clause-rule
ruled-requires-clause-rule c = begins_empty

pub returns-clause-workers : goal.returns-clause-workers
returns-clause-workers c =
    rw (c.loop-made.invariant.ends) (of_workers _ _ c.loop-made.made c.args.workers (omega (arith, c.loop-made.auto)))

pub returns-clause-linked : goal.returns-clause-linked
returns-clause-linked c =
    let linked : Each (λ e. e.link ≡ c.loop-made.token.table_id) c.loop-made.ends.items =
    rw (c.loop-made.invariant.ends) (of_link _ _ c.loop-made.made) in
    subst (λ pass. Each (λ e. e.link ≡ pass.table_id) c.loop-made.ends.items) (sym c.new-2.ensures.pass) linked
