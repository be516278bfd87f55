use Rattle.std.proofs.Common.{ap, ◌∙◌}
use Rattle.toml.specs.View.{table_view}
use Rattle.share_spellings.specs.Addresses.{peer_of}
use Rattle.share_config.proofs.TextLemmas.{value_of_text}
use Rattle.share_config.specs.Reading.{◌>>=◌, found}
use Rattle.share_config.specs.declared.fault.Reason.TheVariants as reason
use Rattle.share_config.proofs.section.peer.Goals as goal

pub returns-in-Err-clause-fault : goal.returns-in-Err-clause-fault
returns-in-Err-clause-fault c =
    value_of_text peer_of reason.Peer c.args.location c.args.key (table_view c.args.table.now)
    ∙ ap (λ said. said >>= λ text. found c.args.location c.args.key reason.Peer (peer_of text)) c.in-Err.ensures.fault
