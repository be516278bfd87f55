use Rattle.std.proofs.Common.{◌≡◌, [], rules, IfOk, IfErr, None, Some, position}
use Rattle.std.proofs.lemmas.List.Sorted.{answers_always}
use Rattle.share_model.specs.declared.funding.Holder.TheVariants.{Nobody}
use Rattle.share_model.specs.declared.funding.Ticket.{Ticket}
use Rattle.share_model.specs.funding.Changes.{is_numbered}
use Rattle.share_ledger.proofs.NumberLemmas.{searched}
use Rattle.share_ledger.proofs.tickets.by_halves.Goals as goal
use Rattle.share_ledger.proofs.tickets.by_halves.Goals.{After-binary_search_by_key}

-- the closure returns a ticket's number
place : (c : After-binary_search_by_key)
    → IfOk c.binary_search_by_key.result
    (λ i. position (is_numbered c.args.number) c.args.tickets.now ≡ Some i)
    × IfErr c.binary_search_by_key.result (λ _. position (is_numbered c.args.number) c.args.tickets.now ≡ None)
place c =
    let facts = c.binary_search_by_key.ensures in
    let by_number = facts.position (λ (t : Ticket). t.number) (answers_always _ _ _ (λ f a r g called. search rules)) in
    searched (λ (t : Ticket). t.number) c.requires.0 c.args.tickets.now c.requires.1 c.args.number _
    (record { number = 0; amount = 0; denomination = []; holder = Nobody }) facts.bound by_number

pub returns-clause-found : goal.returns-clause-found
returns-clause-found c = (place c).0

pub returns-clause-absent : goal.returns-clause-absent
returns-clause-absent c = (place c).1
