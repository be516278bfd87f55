use Rattle.std.proofs.Common.{◌∙◌, ap, sym}
use Rattle.share_model.specs.link.Buffers.{head_of}
use Rattle.share_model.specs.stride.Moves.{next}
use Rattle.share_model.specs.link.View.{LinkView}
use Rattle.share_core.proofs.NextWriteLemmas.{sending-part, sending-next, sending-none, sending_placed}
use Rattle.share_core.proofs.link.Link.sending.Goals as goal

pub returns-in-Some : goal.returns-in-Some
returns-in-Some g c =
    let part = ap (λ (k : LinkView (Unit {0})). k.live.part) (sym c.self.view_is) ∙ c.in-Some.is in
    let l = c.args.self.now.live in
    sending_placed l c.in-Some.part.out (head_of l.buffers c.in-Some.part.flow) c.next_write.result
    (sending-part l c.in-Some.part part) c.next_write.ensures

pub returns-in-Some-least : goal.returns-in-Some-least
returns-in-Some-least g c =
    let none = ap (λ (k : LinkView (Unit {0})). k.live.part) (sym c.self.view_is) ∙ c.in-None.is in
    let chosen = ap (λ (k : LinkView (Unit {0})). next k.live.queue.clients) (sym c.self.view_is)
    ∙ sym c.least.ensures.next ∙ c.in-Some-least.is in
    let l = c.args.self.now.live in
    sending_placed l 0 (head_of l.buffers c.in-Some-least.flow) c.next_write-in-Some-least.result
    (sending-next l c.in-Some-least.flow none chosen) c.next_write-in-Some-least.ensures

pub returns-in-None-least : goal.returns-in-None-least
returns-in-None-least g c =
    let none = ap (λ (k : LinkView (Unit {0})). k.live.part) (sym c.self.view_is) ∙ c.in-None.is in
    let chosen = ap (λ (k : LinkView (Unit {0})). next k.live.queue.clients) (sym c.self.view_is)
    ∙ sym c.least.ensures.next ∙ c.in-None-least.is in
    sending-none c.args.self.now.live none chosen
