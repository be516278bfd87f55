use Rattle.share_status.proofs.TextLemmas.{name_is_text}
use Rattle.share_status.proofs.text.name_text.Goals as goal

pub text_of-requires : goal.text_of-requires
text_of-requires c = rw c.as_bytes.ensures.value (name_is_text _ c.as_bytes.ensures.name)
