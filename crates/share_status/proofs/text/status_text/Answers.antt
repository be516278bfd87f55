use Rattle.share_status.proofs.DepthLemmas.{read_back}
use Rattle.share_status.proofs.text.status_text.Goals as goal

pub returns-in-Ok-clause-reads_back : goal.returns-in-Ok-clause-reads_back
returns-in-Ok-clause-reads_back c = read_back _ _ c.in_ok-line.ensures.reads_back
