use Rattle.std.proofs.Common.{ap, ◌∙◌}
use Rattle.toml.specs.View.{table_view}
use Rattle.share_spellings.specs.Addresses.{address_of}
use Rattle.share_config.proofs.TextLemmas.{value_of_text}
use Rattle.share_config.specs.Reading.{◌>>=◌, found}
use Rattle.share_config.specs.declared.fault.Reason.TheVariants as reason
use Rattle.share_config.specs.declared.key.Key.TheVariants as key
use Rattle.share_config.specs.declared.key.Location.TheVariants as location
use Rattle.share_config.proofs.section.web_address.Goals as goal

pub returns-in-Err-clause-fault : goal.returns-in-Err-clause-fault
returns-in-Err-clause-fault c =
    value_of_text address_of reason.Address location.Web key.Listen (table_view c.args.table.now)
    ∙ ap (λ said. said >>= λ text. found location.Web key.Listen reason.Address (address_of text))
    c.in-Err.ensures.fault
