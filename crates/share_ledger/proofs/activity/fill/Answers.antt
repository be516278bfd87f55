use Rattle.std.proofs.Common.{◌≡◌, ◌≤◌, ◌<◌, ℕ, cond, nat_eq, length, take, arith, List}
use Rattle.std.proofs.Common.{get_or, sum_by}
use Rattle.std.proofs.lemmas.Bool.Decides.{nat_tests}
use Rattle.std.proofs.lemmas.List.Sums.{sum_by_more_le}
use Rattle.share_ledger.specs.declared.routes.Route.{Route}
use Rattle.share_ledger.specs.declared.funding_tickets.FundingTicket.{FundingTicket}
use Rattle.share_ledger.specs.Routes.{IsRouteWithin}
use Rattle.share_ledger.specs.FundingTickets.{IsFundingTicketWithin, funding_tickets_at}
use Rattle.share_ledger.proofs.FundingFillLemmas.{sum-joined_more, each-joined}
use Rattle.share_ledger.proofs.FundingCountLemmas.{ones}
use Rattle.share_ledger.proofs.ListLemmas.{Each-at}
use Rattle.share_ledger.proofs.activity.fill.Goals as goal

room-next : (routes : List Route) (i : ℕ) (none : Route) (ss : List (List FundingTicket)) → i < length routes
    → sum_by (λ _. 1) (funding_tickets_at ss (get_or routes i none).to)
    ≡ sum_by (λ (r : Route). cond (nat_eq (get_or routes i none).to r.to) 1 0) (take i routes)
    → sum_by (λ (r : Route). cond (nat_eq (get_or routes i none).to r.to) 1 0) routes ≤ 16
    → length (funding_tickets_at ss (get_or routes i none).to) < 16
room-next routes i none ss lt ticketed room = grind (arith, nat_tests, sum_by_more_le, ones)

pub loop-route-init : goal.loop-route-init
loop-route-init c = grind (arith, nat_tests)

pub loop-route-preserved : goal.loop-route-preserved
loop-route-preserved c =
    let none : Route = record { from = 0; to = 0; amount = 0 } in
    let routes : List Route = c.args.routes.now in
    let r = get_or routes c.loop-route.route-index none in
    let w = Each-at IsRouteWithin routes c.loop-route.route-index none c.requires.within c.loop-route-test.true in
    let before = c.loop-route.holders.items in
    let after = c.add_funding_ticket.new.holders.items in
    let gave = c.add_funding_ticket.ensures.ticketed in
    record {
      places = c.add_funding_ticket.ensures.places;
      ticketed = λ F p lt. sum-joined_more routes c.loop-route.route-index none before after F p c.loop-route-test.true
          gave (c.loop-route.invariant.ticketed F p lt);
      within = λ p lt. each-joined before after r gave (λ _ s. IsFundingTicketWithin s) p
          (c.loop-route.invariant.within p lt)
          (λ e. record { from_place = w.from_place; small = w.small });
    }

pub add_funding_ticket-requires-clause-room : goal.add_funding_ticket-requires-clause-room
add_funding_ticket-requires-clause-room c =
    let none : Route = record { from = 0; to = 0; amount = 0 } in
    let routes : List Route = c.args.routes.now in
    let i = c.loop-route.route-index in
    let r = get_or routes i none in
    let w = Each-at IsRouteWithin routes i none c.requires.within c.loop-route-test.true in
    room-next routes i none (c.loop-route.holders.items) c.loop-route-test.true
    (c.loop-route.invariant.ticketed (λ _. 1) r.to w.to_place) (c.requires.room r.to w.to_place)
