use Rattle.share_ingress.proofs.ReaderLemmas.{cut_buffered}
use Rattle.share_ingress.proofs.reader.end_of_input.Goals as goal

pub returns-else-is_empty : goal.returns-else-is_empty
returns-else-is_empty c = cut_buffered _ c.if-is_empty.ensures c.requires
