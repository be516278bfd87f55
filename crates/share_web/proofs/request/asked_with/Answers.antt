use Rattle.share_web.proofs.AskLemmas.{read_asks}
use Rattle.share_web.proofs.request.asked_with.Goals as goal

pub returns-in-Ok-Complete-clause-request : goal.returns-in-Ok-Complete-clause-request
returns-in-Ok-Complete-clause-request c =
    let held = rw c.in-Ok-Complete.field-0-is at c.in-Ok-Complete.ensures.complete in
    read_asks c.args.head.now c.args.address.now _ c.parse.new.self c.request_in.result held c.request_in.ensures
