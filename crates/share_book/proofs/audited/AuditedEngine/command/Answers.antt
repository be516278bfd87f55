use Rattle.std.proofs.Common.{◌≡◌, false, ◌∙◌, ap, sym, subst}
use Rattle.share_model.specs.link.Calls.{is_spent}
use Rattle.share_book.specs.Audited.{Audited}
use Rattle.share_book.specs.Texts.{with_bytes}
use Rattle.share_book.proofs.RunTextLemmas.{command-none, command-some}
use Rattle.share_book.proofs.audited.AuditedEngine.command.Goals as goal

pub invariant_of-self : goal.invariant_of-self
invariant_of-self g c =
    let living = subst (λ (a : Audited). is_spent a.link ≡ false) (sym c.self.view_is) c.requires.living in
    command-none (record { link = c.self.inside.engine; kind = c.self.inside.kind; text = c.self.inside.text })
    c.command-reply.new.self c.command-reply.result c.args.command living c.self.invariant
    (sym c.is_no_memory.ensures ∙ c.if-is_no_memory.true) c.command-reply.ensures.did

pub invariant_of-self-2 : goal.invariant_of-self-2
invariant_of-self-2 g c =
    let living = subst (λ (a : Audited). is_spent a.link ≡ false) (sym c.self.view_is) c.requires.living in
    command-some (record { link = c.self.inside.engine; kind = c.self.inside.kind; text = c.self.inside.text })
    c.command-reply.new.self c.command-reply.result c.args.command living c.self.invariant
    c.command-reply.ensures.fields (sym c.is_no_memory.ensures ∙ c.if-is_no_memory.false) c.command-reply.ensures.did
    c.push.new.self
    (c.push.ensures
    ∙ ap (with_bytes c.self.inside.text) (c.as_bytes.ensures ∙ c.spelled_command-line.ensures.bytes))
