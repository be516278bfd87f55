use Rattle.share_archive.proofs.StepLemmas.{less, few, rest}
use Rattle.share_archive.proofs.laws.books_come_to_rest.Goals as goal

pub returns : goal.returns
returns c = record { less = less; few = few; rest = rest }
