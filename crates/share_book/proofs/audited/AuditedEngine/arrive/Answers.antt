use Rattle.std.proofs.Common.{◌≡◌, ◌≤◌, true, false, ◌∙◌, ap, sym, subst, length}
use Rattle.share_base.specs.Body.{unstamped}
use Rattle.share_base.specs.Version.{max_payload}
use Rattle.share_base.specs.declared.command.Event.TheVariants.{Arrived}
use Rattle.share_base.specs.declared.command.Outcome.TheVariants.{Replied}
use Rattle.share_core.specs.Room.{has_room}
use Rattle.share_model.specs.link.Calls.{is_spent}
use Rattle.share_book.specs.Audited.{Audited, after_event, outcome_in}
use Rattle.share_book.specs.Texts.{TextView}
use Rattle.share_book.proofs.RunTextLemmas.{IsKept, arrival-kept, arrival-after, arrival-stepped}
use Rattle.share_book.proofs.audited.AuditedEngine.arrive.Goals as goal

pub arrive-requires : goal.arrive-requires
arrive-requires g c =
    subst (λ v. length c.args.body.payload ≤ max_payload v) (sym c.self.invariant.1.version) c.push_arrival.ensures.few

pub invariant_of-self : goal.invariant_of-self
invariant_of-self g c =
    let living = subst (λ (a : Audited). is_spent a.link ≡ false) (sym c.self.view_is) c.requires.living in
    let free = subst (λ (a : Audited). has_room a.link.live c.args.flow ≡ true) (sym c.self.view_is) c.requires.room in
    subst
    (λ (t : TextView). IsKept (record { link = c.arrive.new.self; kind = c.self.inside.kind; text = t }))
    (sym c.push_arrival.ensures.line)
    (arrival-kept (record { link = c.self.inside.engine; kind = c.self.inside.kind; text = c.self.inside.text })
    c.arrive.new.self c.arrive.result living c.self.invariant c.args.flow c.args.body.payload
    c.arrive.ensures.fields.0 c.arrive.ensures.fields.1 free c.arrive.ensures.did)

pub returns-clause-reply : goal.returns-clause-reply
returns-clause-reply g c =
    let living = subst (λ (a : Audited). is_spent a.link ≡ false) (sym c.self.view_is) c.requires.living in
    subst
    (λ (a : Audited). Replied c.arrive.result ≡ outcome_in a (Arrived c.args.flow (unstamped c.args.body.payload)))
    c.self.view_is
    (ap Replied
    (arrival-stepped c.self.inside.engine c.arrive.new.self c.arrive.result c.args.flow c.args.body.payload living
    c.arrive.ensures.did).answer_is)

pub returns-clause-after : goal.returns-clause-after
returns-clause-after g c =
    let living = subst (λ (a : Audited). is_spent a.link ≡ false) (sym c.self.view_is) c.requires.living in
    subst
    (λ (a : Audited). record { link = c.arrive.new.self; kind = c.self.inside.kind; text = c.push_arrival.new.text }
    ≡ after_event a (Arrived c.args.flow (unstamped c.args.body.payload)))
    c.self.view_is
    (ap (λ (t : TextView). record { link = c.arrive.new.self; kind = c.self.inside.kind; text = t })
    c.push_arrival.ensures.line
    ∙ arrival-after (record { link = c.self.inside.engine; kind = c.self.inside.kind; text = c.self.inside.text })
    c.arrive.new.self c.arrive.result c.args.flow c.args.body.payload living c.arrive.ensures.did)
