use Rattle.std.proofs.Common.{sym, ◌∙◌}
use Rattle.share_bill.proofs.MakingLemmas.{arrival-made}
use Rattle.share_bill.proofs.bill.making.take.Goals as goal

pub returns-clause-made : goal.returns-clause-made
returns-clause-made g c =
    rw c.taken_as.ensures
    (arrival-made c.args.engine.now c.arrive-reply.new.self c.requires.book c.events.ensures.sound
    (sym c.spent.ensures ∙ c.if-spent.false) c.args.flow c.args.body c.arrive-reply.result c.arrive-reply.ensures.did
    c.arrive-reply.ensures.fields.0 c.arrive-reply.ensures.fields.1 c.requires.unstamped)
