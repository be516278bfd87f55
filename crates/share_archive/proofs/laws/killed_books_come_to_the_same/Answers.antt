use Rattle.share_archive.proofs.StepLemmas.{kept}
use Rattle.share_archive.proofs.laws.killed_books_come_to_the_same.Goals as goal

pub returns : goal.returns
returns c = kept
