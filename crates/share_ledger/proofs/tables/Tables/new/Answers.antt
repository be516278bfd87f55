use Rattle.std.proofs.Common.{◌≡◌, List, [], sym, subst}
use Rattle.share_model.specs.declared.funding.Ticket.{Ticket}
use Rattle.share_model.specs.declared.funding.OpenFlow.{OpenFlow}
use Rattle.share_model.specs.funding.Graph.{NameBytes, Graph}
use Rattle.share_model.specs.funding.WellFormed.{IsWellFormed}
use Rattle.share_model.proofs.lemmas.funding.CurrencyLemmas.{well_formed-empty}
use Rattle.share_ledger.proofs.tables.Tables.new.Goals as goal

lay : List NameBytes → List Ticket → List (NameBytes × OpenFlow) → Graph
lay cs ts es = record { currencies = cs; tickets = ts; next_ticket = 1; flows = es; next_flow = 1 }

-- three empty lists
kept-lay : (cs : List NameBytes) (ts : List Ticket) (es : List (NameBytes × OpenFlow)) → cs ≡ [] → ts ≡ [] → es ≡ []
    → IsWellFormed (lay cs ts es)
unfolding lay
kept-lay cs ts es p q r =
    subst (λ cs. IsWellFormed (lay cs ts es)) (sym p)
    (subst (λ ts. IsWellFormed (lay [] ts es)) (sym q)
    (subst (λ es. IsWellFormed (lay [] [] es)) (sym r) well_formed-empty))

pub invariant_of-result : goal.invariant_of-result
unfolding lay
invariant_of-result c =
    kept-lay c.new.result.keys c.new-2.result.items c.new-3.result.entries c.new.ensures.empty c.new-2.ensures.items
    c.new-3.ensures.empty
