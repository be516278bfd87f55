use Rattle.share_report.proofs.ShownLemmas.{idle_tickets, held_shown}
use Rattle.share_report.proofs.laws.idle_flows_show_no_tickets.Goals as goal

pub returns-clause-idle : goal.returns-clause-idle
returns-clause-idle c = idle_tickets

pub returns-clause-held : goal.returns-clause-held
returns-clause-held c = held_shown
