use Rattle.share_core.proofs.WaitingPacketLemmas.{torn_within}
use Rattle.share_core.proofs.link.Link.waiting.Goals as goal

pub overflow_sub-result-3 : goal.overflow_sub-result-3
overflow_sub-result-3 g c =
    let sound = c.self.invariant.1 in rw (c.torn_count.ensures) (torn_within sound)
