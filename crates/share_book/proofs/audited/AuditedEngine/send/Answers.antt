use Rattle.std.proofs.Common.{◌≡◌, false, ◌∙◌, ap, sym, subst}
use Rattle.std.proofs.lemmas.Bool.{ltb-false}
use Rattle.share_base.specs.declared.command.Turn.{Turn}
use Rattle.share_model.specs.declared.line.Line.TheVariants.{Turn as TurnLine}
use Rattle.share_model.specs.link.Calls.{is_spent}
use Rattle.share_model.specs.link.Turns.{sending}
use Rattle.share_model.specs.text.Audit.{written_line}
use Rattle.share_book.specs.Audited.{Audited}
use Rattle.share_gateway.specs.Outbox.{room_of}
use Rattle.share_book.specs.Sends.{SentNext}
use Rattle.share_book.specs.Texts.{with_bytes}
use Rattle.share_book.proofs.SendLemmas.{sent-kept, sent-did, idle-kept, idle-did, unwritten}
use Rattle.share_book.proofs.audited.AuditedEngine.send.Goals as goal

pub invariant_of-self : goal.invariant_of-self
invariant_of-self g c =
    let living = subst (λ (a : Audited). is_spent a.link ≡ false) (sym c.self.view_is) c.requires.living in
    sent-kept (record { link = c.self.inside.engine; kind = c.self.inside.kind; text = c.self.inside.text })
    c.turn_into-turn.new.self c.args.outbox.now c.turn_into-turn.new.writer c.turn_into-turn.result c.self.invariant
    living (ltb-false (room_of c.args.outbox.now) 9017 c.requires.room) c.turn_into-turn.ensures.did
    c.in-Wrote.flow c.in-Wrote.seq c.in-Wrote.k c.in-Wrote.whole c.in-Wrote.is c.push.new.self
    (c.push.ensures ∙ ap (with_bytes c.self.inside.text) (c.as_bytes.ensures ∙ c.spelled_turn.ensures.bytes
    ∙ ap (λ k. written_line (TurnLine k)) c.from.ensures))

pub returns-in-Wrote : goal.returns-in-Wrote
returns-in-Wrote g c =
    let living = subst (λ (a : Audited). is_spent a.link ≡ false) (sym c.self.view_is) c.requires.living in
    let P : Turn → Type 0 = λ t. SentNext c.args.self.now c.args.outbox.now (sending c.args.self.now.link.live) t
    (record { link = c.turn_into-turn.new.self; kind = c.self.inside.kind; text = c.push.new.self })
    c.turn_into-turn.new.writer in
    subst P c.in-Wrote.is
    (subst
    (λ (a : Audited). SentNext a c.args.outbox.now (sending a.link.live) c.turn_into-turn.result
    (record { link = c.turn_into-turn.new.self; kind = c.self.inside.kind; text = c.push.new.self })
    c.turn_into-turn.new.writer)
    c.self.view_is
    (sent-did (record { link = c.self.inside.engine; kind = c.self.inside.kind; text = c.self.inside.text })
    c.turn_into-turn.new.self c.args.outbox.now c.turn_into-turn.new.writer c.turn_into-turn.result c.self.invariant
    living (ltb-false (room_of c.args.outbox.now) 9017 c.requires.room) c.turn_into-turn.ensures.did
    c.in-Wrote.flow c.in-Wrote.seq c.in-Wrote.k c.in-Wrote.whole c.in-Wrote.is c.push.new.self
    (c.push.ensures ∙ ap (with_bytes c.self.inside.text) (c.as_bytes.ensures ∙ c.spelled_turn.ensures.bytes
    ∙ ap (λ k. written_line (TurnLine k)) c.from.ensures))))

pub invariant_of-self-in_default : goal.invariant_of-self-in_default
invariant_of-self-in_default g c =
    let living = subst (λ (a : Audited). is_spent a.link ≡ false) (sym c.self.view_is) c.requires.living in
    idle-kept (record { link = c.self.inside.engine; kind = c.self.inside.kind; text = c.self.inside.text })
    c.turn_into-turn.new.self c.args.outbox.now c.turn_into-turn.new.writer c.turn_into-turn.result c.self.invariant
    living (ltb-false (room_of c.args.outbox.now) 9017 c.requires.room) c.turn_into-turn.ensures.did
    (unwritten c.turn_into-turn.result c.in_default.not-Wrote)

pub returns-in_default : goal.returns-in_default
returns-in_default g c =
    let living = subst (λ (a : Audited). is_spent a.link ≡ false) (sym c.self.view_is) c.requires.living in
    subst
    (λ (a : Audited). SentNext a c.args.outbox.now (sending a.link.live) c.turn_into-turn.result
    (record { link = c.turn_into-turn.new.self; kind = c.self.inside.kind; text = c.self.inside.text })
    c.turn_into-turn.new.writer)
    c.self.view_is
    (idle-did (record { link = c.self.inside.engine; kind = c.self.inside.kind; text = c.self.inside.text })
    c.turn_into-turn.new.self c.args.outbox.now c.turn_into-turn.new.writer c.turn_into-turn.result c.self.invariant
    living (ltb-false (room_of c.args.outbox.now) 9017 c.requires.room) c.turn_into-turn.ensures.did
    (unwritten c.turn_into-turn.result c.in_default.not-Wrote))
