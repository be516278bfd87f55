use Rattle.std.proofs.Common.{◌∙◌, ap, sym}
use Rattle.share_base.specs.Body.{BodyView}
use Rattle.share_base.specs.declared.command.Event.{Event}
use Rattle.share_base.specs.declared.command.Event.TheVariants.{Arrived}
use Rattle.share_model.proofs.lemmas.run.CallLemmas.{arrive-asked}
use Rattle.share_journal.specs.declared.entry.Source.TheVariants.{Worker}
use Rattle.share_journal.proofs.RunLemmas.{run-sound, replied_entry, same_test, asked-room, asked-kept}
use Rattle.share_journal.proofs.EventAnswerLemmas.{arrival-answers}
use Rattle.share_journal.proofs.recorder.Recorder.arrive.Goals as goal

pub note_if-requires : goal.note_if-requires
note_if-requires g c =
    asked-room g.W.TellingWriter.told c.self.inside.engine c.arrive-reply.new.self c.self.inside.journal
    (Arrived c.args.flow c.split-sending.result.0)
    c.arrive-reply.result (Worker c.args.worker) c.self.invariant
    (arrive-asked g.W.TellingWriter.told c.self.inside.engine c.arrive-reply.result c.arrive-reply.new.self
    c.self.invariant.2.range (run-sound c.self.invariant.2) c.args.flow c.split-sending.result.0 (
      c.arrive-reply.ensures.fields.0,
      c.arrive-reply.ensures.fields.1,
      ap (λ (b : BodyView). b.stamped) c.split-sending.ensures.sending,
    )
    c.arrive-reply.ensures.did)
    _ c.entry_of_reply.result (same_test c.events-before.ensures.events c.events.ensures.events)
    (c.entry_of_reply.ensures ∙ ap (λ (e : Event). replied_entry e c.arrive-reply.result (Worker c.args.worker))
    (c.event_of_arrival-event.ensures
    ∙ ap (Arrived c.args.flow) (c.split-sending.ensures.audit ∙ sym c.split-sending.ensures.sending)))

pub invariant_of-self : goal.invariant_of-self
invariant_of-self g c =
    asked-kept g.W.TellingWriter.told c.self.inside.engine c.arrive-reply.new.self c.self.inside.journal
    (Arrived c.args.flow c.split-sending.result.0)
    c.arrive-reply.result (Worker c.args.worker) c.self.invariant
    (arrive-asked g.W.TellingWriter.told c.self.inside.engine c.arrive-reply.result c.arrive-reply.new.self
    c.self.invariant.2.range (run-sound c.self.invariant.2) c.args.flow c.split-sending.result.0 (
      c.arrive-reply.ensures.fields.0,
      c.arrive-reply.ensures.fields.1,
      ap (λ (b : BodyView). b.stamped) c.split-sending.ensures.sending,
    )
    c.arrive-reply.ensures.did)
    _ c.entry_of_reply.result (same_test c.events-before.ensures.events c.events.ensures.events)
    (c.entry_of_reply.ensures ∙ ap (λ (e : Event). replied_entry e c.arrive-reply.result (Worker c.args.worker))
    (c.event_of_arrival-event.ensures
    ∙ ap (Arrived c.args.flow) (c.split-sending.ensures.audit ∙ sym c.split-sending.ensures.sending)))
    c.note_if.new.journal
    c.note_if.ensures

pub returns-clause-event : goal.returns-clause-event
returns-clause-event g c =
    rw (← c.self.view_is)
    (arrival-answers g.W.TellingWriter.told c.self.inside.engine c.arrive-reply.new.self c.arrive-reply.result
    c.self.inside.journal c.self.invariant c.args.flow c.split-sending.result.0
    (arrive-asked g.W.TellingWriter.told c.self.inside.engine c.arrive-reply.result c.arrive-reply.new.self
    c.self.invariant.2.range (run-sound c.self.invariant.2) c.args.flow c.split-sending.result.0 (
      c.arrive-reply.ensures.fields.0,
      c.arrive-reply.ensures.fields.1,
      ap (λ (b : BodyView). b.stamped) c.split-sending.ensures.sending,
    )
    c.arrive-reply.ensures.did)
    c.arrive-reply.ensures.did)
