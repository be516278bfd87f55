-- The answers of the readers of a link on its flows.
use Rattle.std.specs.Prelude.{◌≡◌, ◌≤◌, ◌^◌, ℕ, List, map, sum, find, Option, Some, option_map}
use Rattle.std.specs.FinMap.{get}
use Rattle.share_model.specs.declared.funding.OpenFlow.{OpenFlow}
use Rattle.share_model.specs.declared.stride.Position.{Position}
use Rattle.share_model.specs.funding.Graph.{NameBytes, base, active, tickets}
use Rattle.share_model.specs.funding.Laws.{uncapped_tickets, issued_amount}
use Rattle.share_model.specs.link.Books.{is_book_of}
use Rattle.share_model.specs.link.View.{LinkView}
use Rattle.share_model.specs.stride.Moves.{position}

-- the answer of `position`: None if the flow is not open
abbrev pub position_at : {W : Type 0} → LinkView W → ℕ → Option Position
position_at link flow = option_map position (get link.live.queue.clients flow)

-- the answer of `tickets`: None if the flow is not open
abbrev pub tickets_at : {W : Type 0} → LinkView W → ℕ → Option ℕ
tickets_at link flow = option_map (λ _. tickets link.live.graph flow) (find (is_book_of flow) link.live.books)

-- the answers of `tickets` for the open flows, in order of opening: these numbers, which are together at most the
-- active amount of `base`
pub record TicketsAreWithin {W : Type 0} (link : LinkView W) : Type 0 where
  pub answers : List ℕ
  pub answers_are : map (λ (e : NameBytes × OpenFlow). tickets_at link e.1.number) link.live.graph.flows
      ≡ map (λ n. Some n) answers
  pub within : sum answers ≤ active link.live.graph base

-- while at most 2^20 of `base` is issued, `tickets` answers what the tickets that fund the flow are worth together. The
-- cap of 2^20 does not lower it
abbrev pub TicketsAreUncapped : {W : Type 0} → LinkView W → Type 0
TicketsAreUncapped link = issued_amount link.live.graph base ≤ 2 ^ 20
    → (flow answer : ℕ) → tickets_at link flow ≡ Some answer → answer ≡ uncapped_tickets link.live.graph flow
