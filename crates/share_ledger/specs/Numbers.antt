-- The numbers of the tickets.
use Rattle.std.specs.Prelude.{ℕ, List}
use Rattle.share_model.specs.declared.funding.Ticket.{Ticket}
use Rattle.share_model.specs.funding.Graph.{ticket_numbers}
use Rattle.share_model.specs.lists.Rises.{Rises}

-- the tickets are in the order of their numbers
abbrev pub AreRising : List Ticket → Type 0
AreRising ts = (limit : ℕ) × Rises limit (ticket_numbers ts)
