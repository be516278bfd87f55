-- The values that are kept beside the tables.
use Rattle.std.specs.Prelude.{◌≡◌, ℕ, List, map, take, length}
use Rattle.share_model.specs.declared.funding.OpenFlow.{OpenFlow}
use Rattle.share_model.specs.funding.Graph.{NameBytes, Graph, tickets}
use Rattle.share_ledger.specs.declared.valuation.Valuation.{Valuation}
use Rattle.share_ledger.specs.Valuations.{IsReady, activity_of}
use Rattle.share_ledger.specs.FundingTickets.{backs_of, funds_of}

-- the tickets of each open flow, in the order of opening
abbrev pub ticket_list : Graph → List ℕ
ticket_list g = map (λ (e : NameBytes × OpenFlow). tickets g e.1.number) g.flows

-- The tickets of the flows are those of the graph, and so is the valuation.
pub record IsCurrent (valuation : Valuation) (tickets_of_all : List ℕ) (g : Graph) : Type 0 where
  pub of_flows : take (length g.flows) tickets_of_all ≡ ticket_list g
  pub valuation_ready : IsReady valuation tickets_of_all (backs_of g) (funds_of g) (activity_of g)
