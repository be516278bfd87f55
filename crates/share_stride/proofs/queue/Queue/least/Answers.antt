use Rattle.std.proofs.Common.{ap, ◌∙◌}
use Rattle.share_model.specs.stride.Moves.{Stride, next}
use Rattle.share_model.proofs.lemmas.stride.NextFlowLemmas.{next_is}
use Rattle.share_stride.proofs.queue.Queue.least.Goals as goal

pub returns-clause-next : goal.returns-clause-next
returns-clause-next c = next_is _ _ c.least.ensures ∙ ap (λ (s : Stride). next s.clients) c.self.view_is
