-- A flow that is held, or whose hold ends.
use Rattle.std.proofs.Common.{◌≡◌, ℕ, true, subst, sym}
use Rattle.share_model.specs.funding.Graph.{flow_numbers}
use Rattle.share_model.specs.link.View.{LinkView}
use Rattle.share_model.specs.lists.Rises.{has_number}

-- a flow is open if it was seen to be open
pub stands_in : (k n : LinkView (Unit {0})) (f : ℕ) → k ≡ n → has_number f (flow_numbers n.live.graph.flows) ≡ true
    → has_number f (flow_numbers k.live.graph.flows) ≡ true
stands_in k n f same stands =
    subst (λ (k : LinkView (Unit {0})). has_number f (flow_numbers k.live.graph.flows) ≡ true) (sym same) stands
