use Rattle.share_timing.proofs.AllowanceLemmas.{rate_is_kept}
use Rattle.share_timing.proofs.allowance.rates_are_kept.Goals as goal

pub returns : goal.returns
returns c = rate_is_kept
