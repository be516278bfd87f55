use Rattle.std.proofs.Common.{◌∙◌}
use Rattle.share_spellings.proofs.AddressLemmas.{socket_parsed}
use Rattle.share_spellings.proofs.address.socket.Goals as goal

pub returns : goal.returns
returns c = c.ok.ensures.value ∙ socket_parsed c.args.text.now c.parse.result c.parse.ensures.value
