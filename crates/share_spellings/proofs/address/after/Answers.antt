use Rattle.share_spellings.proofs.AddressLemmas.{stripped}
use Rattle.share_spellings.proofs.address.after.Goals as goal

pub returns : goal.returns
returns c = stripped c.args.prefix.now c.args.text.now c.strip_prefix.result c.strip_prefix.ensures.cases
