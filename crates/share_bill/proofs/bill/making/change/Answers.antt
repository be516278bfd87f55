use Rattle.std.proofs.Common.{sym, ◌∙◌}
use Rattle.share_bill.proofs.MakingLemmas.{command-made, command-book}
use Rattle.share_bill.proofs.bill.making.change.Goals as goal

pub returns-clause-made : goal.returns-clause-made
returns-clause-made g c =
    rw c.made_by.ensures
    (command-made c.args.engine.now c.command-reply.new.self c.requires.book c.events.ensures.sound
    (sym c.spent.ensures ∙ c.if-spent.false) c.args.command c.command-reply.result c.command-reply.ensures.did
    c.command-reply.ensures.fields (sym c.is_lack.ensures ∙ c.if-is_lack.false))

pub returns-clause-book : goal.returns-clause-book
returns-clause-book g c =
    command-book c.args.engine.now c.command-reply.new.self c.requires.book c.events.ensures.sound
    (sym c.spent.ensures ∙ c.if-spent.false) c.args.command c.command-reply.result c.command-reply.ensures.did
