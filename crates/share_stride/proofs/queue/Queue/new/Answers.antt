use Rattle.share_stride.proofs.SoundQueueLemmas.{IsInStep-empty_queue}
use Rattle.share_stride.proofs.queue.Queue.new.Goals as goal

pub invariant_of-result : goal.invariant_of-result
invariant_of-result c = rw c.in_ok-new.ensures IsInStep-empty_queue
