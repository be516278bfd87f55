use Rattle.std.proofs.Common.{Some, refl, ap, ◌∙◌}
use Rattle.share_script.specs.declared.lines.Incoming.TheVariants.{Line}
use Rattle.share_control.specs.Requests.{request_in}
use Rattle.share_control.proofs.attending.next_request.Goals as goal

pub returns-in-Line-clause-next : goal.returns-in-Line-clause-next
returns-in-Line-clause-next g c = (
  Some c.next.new.self.line,
  record { found = Line; line = c.next.new.self.line; taken = c.in-Line.ensures.next; asked_is = refl },
  c.request_in.ensures ∙ ap request_in c.line.ensures,
)
