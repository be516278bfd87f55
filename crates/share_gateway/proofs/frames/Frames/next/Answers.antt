use Rattle.std.proofs.Common.{ap, refl}
use Rattle.share_gateway.specs.ByteQueue.{ByteQueueView}
use Rattle.share_gateway.proofs.FrameLemmas.{frame_fits, gives_frame, reads_none}
use Rattle.share_gateway.proofs.frames.Frames.next.Goals as goal

pub give-requires : goal.give-requires
give-requires c =
    frame_fits c.self.inside.bytes.bytes c.as_slice.result.now c.in-Frame.flow c.in-Frame.seq c.in-Frame.tariff
    c.in-Frame.len c.from.result c.as_slice.ensures c.from.ensures
    ((c.in-Frame.ensures.frame c.in-Frame.flow c.in-Frame.seq c.in-Frame.tariff c.in-Frame.len).0 refl)

pub returns-in-Frame-clause-cut : goal.returns-in-Frame-clause-cut
returns-in-Frame-clause-cut c =
    rw (← c.self.view_is)
    (gives_frame c.self.inside.bytes.bytes c.as_slice.result.now c.give.new.self.given c.give.new.self.bytes
    c.in-Frame.flow c.in-Frame.seq c.in-Frame.tariff c.in-Frame.len c.from.result c.as_slice.ensures c.from.ensures
    ((c.in-Frame.ensures.frame c.in-Frame.flow c.in-Frame.seq c.in-Frame.tariff c.in-Frame.len).0 refl)
    (ap (λ (q : ByteQueueView). q.given) c.give.ensures) (ap (λ (q : ByteQueueView). q.bytes) c.give.ensures))

pub returns-in-More-clause-none : goal.returns-in-More-clause-none
returns-in-More-clause-none c =
    rw (← c.self.view_is)
    (reads_none c.self.inside.bytes.bytes c.as_slice.result.now _ c.as_slice.ensures c.in-More.ensures.frame
    (λ flow seq tariff len same. cc))

pub returns-in-Bad-clause-none : goal.returns-in-Bad-clause-none
returns-in-Bad-clause-none c =
    rw (← c.self.view_is)
    (reads_none c.self.inside.bytes.bytes c.as_slice.result.now _ c.as_slice.ensures c.in-Bad.ensures.frame
    (λ flow seq tariff len same. cc))
