use Rattle.share_transit.proofs.PacedLemmas.{follows}
use Rattle.share_transit.proofs.laws.frames_follow_their_text.Goals as goal

pub returns : goal.returns
returns c =
    follows
    (λ frames allowed before given o history.
    (c.outboxes_give_frames_in_order.ensures.allowed frames allowed before given o history).1)
    c.outboxes_give_frames_in_order.ensures.parts
