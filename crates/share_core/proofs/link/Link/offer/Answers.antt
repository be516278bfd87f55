use Rattle.std.proofs.Common.{◌-◌, ◌∙◌, ap, arith}
use Rattle.share_base.specs.declared.version.Version.TheVariants.{One, Two}
use Rattle.share_model.specs.link.Frame.{header}
use Rattle.share_model.proofs.lemmas.run.SoundLinkLemmas.{sending-length, sending-short}
use Rattle.share_core.specs.declared.next_write.NextWrite.{NextWrite}
use Rattle.share_core.proofs.TurnLemmas.{header-told}
use Rattle.share_core.proofs.SentFrameLemmas.{sent}
use Rattle.share_core.proofs.link.Link.offer.Goals as goal

pub overflow_sub-payload : goal.overflow_sub-payload
overflow_sub-payload g c =
    let t = sent _ _ c.args.due.now c.self.view_is c.requires.due in
    let long = ap (λ (p : NextWrite). p.length) t.due_is in
    omega (arith, long, sending-length c.self.invariant.1 t.is, c.header.ensures)

pub overflow_cast-payload-2 : goal.overflow_cast-payload-2
overflow_cast-payload-2 g c =
    let t = sent _ _ c.args.due.now c.self.view_is c.requires.due in
    let long = ap (λ (p : NextWrite). p.length) t.due_is in
    omega (arith, long, sending-short c.self.invariant.1 t.is)

pub offer_under-requires-clause-header : goal.offer_under-requires-clause-header
offer_under-requires-clause-header g c =
    header-told _ _ c.args.due.now c.header-header.result One c.header.result c.self.view_is c.self.invariant.1
    (sent _ _ c.args.due.now c.self.view_is c.requires.due) c.in-One.is c.header.ensures
    (c.header-header.ensures.bytes c.args.due.now.tariff)

pub offer_under-requires-in-Two-clause-header : goal.offer_under-requires-in-Two-clause-header
offer_under-requires-in-Two-clause-header g c =
    let due = c.args.due.now in
    header-told _ _ c.args.due.now c.header2-header.result Two c.header.result c.self.view_is c.self.invariant.1
    (sent _ _ c.args.due.now c.self.view_is c.requires.due) c.in-Two.is c.header.ensures
    (c.header2-header.ensures.bytes
    ∙ ap (λ seq. header Two due.tariff due.buffer.flow seq (due.length - c.header.result)) c.from.ensures)
