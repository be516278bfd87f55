use Rattle.share_catalog.proofs.DigestLemmas.{digest-encode_lower}
use Rattle.share_catalog.proofs.digest.digits_of.Goals as goal

pub returns-clause-digest : goal.returns-clause-digest
returns-clause-digest c = digest-encode_lower c.args.bytes.now c.requires c.type_inv.bytes
