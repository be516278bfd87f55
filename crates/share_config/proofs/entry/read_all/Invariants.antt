use Rattle.share_config.proofs.ListLemmas.{IsReadTo}
use Rattle.share_config.proofs.entry.read_all.Given as goal

abbrev pub invariant-loop-index : goal.invariant-loop-index
invariant-loop-index g l = IsReadTo (g.T.Entry.said l.location) l.values l.index l.entries.items
