use Rattle.std.proofs.Common.{◌∙◌, ap, rules}
use Rattle.std.specs.Prelude.{count_by}
use Rattle.share_ingress.specs.Gathers.{Gathered}
use Rattle.share_journal.specs.Entries.{JournalView}
use Rattle.share_locked.proofs.SettlingLemmas.{joined_of}
use Rattle.share_locked.specs.Receipts.{is_arrival, is_command}
use Rattle.share_locked.proofs.locked.Locked.join.Goals as goal

pub returns-in-Ok-clause-ok : goal.returns-in-Ok-clause-ok
returns-in-Ok-clause-ok g c =
    let gathered : Gathered c.self.inside.intake c.args.ends.items c.in-Ok.intake c.in-Ok.tallies.items =
    first_of (assumption (c.in-Ok.ensures.ok), search (rules, c.in-Ok.ensures.ok), grind rules) in
    rw (← c.self.view_is)
    (joined_of c.self.inside.recorder c.self.inside.intake c.self.inside.clerks c.args.ends.items c.in-Ok.intake
    c.in-Ok.tallies.items c.arrivals_in-arrivals.result c.commands_in-commands.result c.self.invariant.1 gathered
    (c.arrivals_in-arrivals.ensures
    ∙ ap (count_by is_arrival) (c.entries.ensures ∙ ap (λ (j : JournalView). j.entries) c.journal.ensures.entries))
    (c.commands_in-commands.ensures
    ∙ ap (count_by is_command)
    (c.entries-in-Ok.ensures ∙ ap (λ (j : JournalView). j.entries) c.journal-in-Ok.ensures.entries)))
