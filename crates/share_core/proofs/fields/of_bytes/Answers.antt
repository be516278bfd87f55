use Rattle.share_model.proofs.lemmas.link.FieldLemmas.{all_bytes}
use Rattle.share_core.proofs.fields.of_bytes.Goals as goal

pub returns : goal.returns
returns c = all_bytes c.args.bytes.now c.type_inv.bytes
