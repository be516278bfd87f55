use Rattle.std.proofs.Common.{◌∙◌}
use Rattle.share_control.proofs.RequestLemmas.{request_read}
use Rattle.share_control.proofs.requests.request_in.Goals as goal

pub returns : goal.returns
returns c = c.request_of.ensures ∙ request_read _ _ c.read_line-line.ensures.reads
