use Rattle.std.proofs.Common.{◌∙◌, ap}
use Rattle.share_base.specs.declared.command.Event.{Event}
use Rattle.share_base.specs.declared.command.Event.TheVariants.{Commanded}
use Rattle.share_model.proofs.lemmas.run.CallLemmas.{command-asked}
use Rattle.share_journal.specs.declared.entry.Source.TheVariants.{Clerk}
use Rattle.share_journal.proofs.RunLemmas.{run-sound, replied_entry, same_test, asked-room, asked-kept}
use Rattle.share_journal.proofs.EventAnswerLemmas.{command-answers}
use Rattle.share_journal.proofs.recorder.Recorder.command.Goals as goal

pub note_if-requires : goal.note_if-requires
note_if-requires g c =
    asked-room g.W.TellingWriter.told c.self.inside.engine c.command-reply.new.self c.self.inside.journal
    (Commanded c.args.command)
    c.command-reply.result (Clerk c.args.clerk) c.self.invariant
    (command-asked g.W.TellingWriter.told c.self.inside.engine c.command-reply.result c.command-reply.new.self
    c.self.invariant.2.range (run-sound c.self.invariant.2) c.args.command c.command-reply.ensures.fields
    c.command-reply.ensures.did)
    _ c.entry_of_reply.result (same_test c.events-before.ensures.events c.events.ensures.events)
    (c.entry_of_reply.ensures ∙ ap (λ (e : Event). replied_entry e c.command-reply.result (Clerk c.args.clerk))
    c.event_of_command-event.ensures)

pub invariant_of-self : goal.invariant_of-self
invariant_of-self g c =
    asked-kept g.W.TellingWriter.told c.self.inside.engine c.command-reply.new.self c.self.inside.journal
    (Commanded c.args.command)
    c.command-reply.result (Clerk c.args.clerk) c.self.invariant
    (command-asked g.W.TellingWriter.told c.self.inside.engine c.command-reply.result c.command-reply.new.self
    c.self.invariant.2.range (run-sound c.self.invariant.2) c.args.command c.command-reply.ensures.fields
    c.command-reply.ensures.did)
    _ c.entry_of_reply.result (same_test c.events-before.ensures.events c.events.ensures.events)
    (c.entry_of_reply.ensures ∙ ap (λ (e : Event). replied_entry e c.command-reply.result (Clerk c.args.clerk))
    c.event_of_command-event.ensures) c.note_if.new.journal
    c.note_if.ensures

pub returns-clause-event : goal.returns-clause-event
returns-clause-event g c =
    rw (← c.self.view_is)
    (command-answers g.W.TellingWriter.told c.self.inside.engine c.command-reply.new.self c.command-reply.result
    c.self.inside.journal c.self.invariant c.args.command
    (command-asked g.W.TellingWriter.told c.self.inside.engine c.command-reply.result c.command-reply.new.self
    c.self.invariant.2.range (run-sound c.self.invariant.2) c.args.command c.command-reply.ensures.fields
    c.command-reply.ensures.did)
    c.command-reply.ensures.did)
