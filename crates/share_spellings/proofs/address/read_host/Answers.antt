use Rattle.std.proofs.Common.{◌∙◌}
use Rattle.share_spellings.proofs.AddressLemmas.{host_parsed}
use Rattle.share_spellings.proofs.address.read_host.Goals as goal

pub returns : goal.returns
returns c = c.ok.ensures.value ∙ host_parsed c.args.text.now c.parse.result c.parse.ensures.value
