use Rattle.std.proofs.Common.{◌≡◌, ◌≤◌, true, false, ◌∙◌, ap, sym, subst, length}
use Rattle.share_base.specs.Body.{unstamped}
use Rattle.share_base.specs.Version.{max_payload}
use Rattle.share_base.specs.declared.command.Event.TheVariants.{Arrived}
use Rattle.share_base.specs.declared.command.Outcome.TheVariants.{Replied}
use Rattle.share_core.specs.Room.{has_room}
use Rattle.share_model.specs.link.Calls.{is_spent}
use Rattle.share_book.specs.Audited.{Audited, after_event, outcome_in}
use Rattle.share_book.specs.Texts.{TextView}
use Rattle.share_book.proofs.RunTextLemmas.{IsKept, arrival-kept, arrival-after, arrival-stepped}
use Rattle.share_book.proofs.TakeLemmas.{room-free}
use Rattle.share_book.proofs.audited.AuditedEngine.arrive_at.Goals as goal

pub arrive_at-requires-clause-body : goal.arrive_at-requires-clause-body
arrive_at-requires-clause-body g c =
    subst (λ v. length c.args.body.payload ≤ max_payload v) (sym c.self.invariant.1.version) c.push_arrival.ensures.few

pub invariant_of-self : goal.invariant_of-self
invariant_of-self g c =
    let living = subst (λ (a : Audited). is_spent a.link ≡ false) (sym c.self.view_is) c.requires.living in
    let free = subst (λ (a : Audited). has_room a.link.live c.args.flow ≡ true) (sym c.self.view_is)
    (room-free c.args.self.now.link.live c.args.flow c.args.number c.requires.free) in
    subst
    (λ (t : TextView). IsKept (record { link = c.arrive_at.new.self; kind = c.self.inside.kind; text = t }))
    (sym c.push_arrival.ensures.line)
    (arrival-kept (record { link = c.self.inside.engine; kind = c.self.inside.kind; text = c.self.inside.text })
    c.arrive_at.new.self c.arrive_at.result living c.self.invariant c.args.flow c.args.body.payload
    c.arrive_at.ensures.fields.0 c.arrive_at.ensures.fields.1 free c.arrive_at.ensures.did)

pub returns-clause-reply : goal.returns-clause-reply
returns-clause-reply g c =
    let living = subst (λ (a : Audited). is_spent a.link ≡ false) (sym c.self.view_is) c.requires.living in
    subst
    (λ (a : Audited). Replied c.arrive_at.result ≡ outcome_in a (Arrived c.args.flow (unstamped c.args.body.payload)))
    c.self.view_is
    (ap Replied
    (arrival-stepped c.self.inside.engine c.arrive_at.new.self c.arrive_at.result c.args.flow c.args.body.payload living
    c.arrive_at.ensures.did).answer_is)

pub returns-clause-after : goal.returns-clause-after
returns-clause-after g c =
    let living = subst (λ (a : Audited). is_spent a.link ≡ false) (sym c.self.view_is) c.requires.living in
    subst
    (λ (a : Audited). record { link = c.arrive_at.new.self; kind = c.self.inside.kind; text = c.push_arrival.new.text }
    ≡ after_event a (Arrived c.args.flow (unstamped c.args.body.payload)))
    c.self.view_is
    (ap (λ (t : TextView). record { link = c.arrive_at.new.self; kind = c.self.inside.kind; text = t })
    c.push_arrival.ensures.line
    ∙ arrival-after (record { link = c.self.inside.engine; kind = c.self.inside.kind; text = c.self.inside.text })
    c.arrive_at.new.self c.arrive_at.result c.args.flow c.args.body.payload living c.arrive_at.ensures.did)
