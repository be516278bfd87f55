use Rattle.share_gateway.proofs.OutboxHistoryLemmas.{parts_are, allowed_are}
use Rattle.share_gateway.proofs.outbox.outboxes_give_frames_in_order.Goals as goal

pub returns-clause-parts : goal.returns-clause-parts
returns-clause-parts c = parts_are

pub returns-clause-allowed : goal.returns-clause-allowed
returns-clause-allowed c = allowed_are
