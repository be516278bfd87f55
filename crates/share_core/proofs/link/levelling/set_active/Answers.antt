use Rattle.share_core.proofs.LevellingLemmas.{level-settled}
use Rattle.share_core.proofs.link.levelling.set_active.Goals as goal

pub level-requires-clause-levelled_with : goal.level-requires-clause-levelled_with
level-requires-clause-levelled_with c =
    level-settled c.args.queue.now c.args.ledger.now _ c.args.flow c.args.active c.args.levelled_with.now
    c.set_active.ensures c.requires.level c.requires.levelled_with
