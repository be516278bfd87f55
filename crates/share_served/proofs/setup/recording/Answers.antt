use Rattle.std.proofs.Common.{rules, sym, ◌∙◌}
use Rattle.share_served.proofs.ShutdownLemmas.{new_of}
use Rattle.share_served.proofs.setup.recording.Goals as goal

pub returns-in-Err-new-clause-refused : goal.returns-in-Err-new-clause-refused
returns-in-Err-new-clause-refused g c =
    sym (new_of c.choose.new.self c.args.journal (search rules) (search rules) (search rules))
    ∙ c.in-Err-new.ensures.back.2
