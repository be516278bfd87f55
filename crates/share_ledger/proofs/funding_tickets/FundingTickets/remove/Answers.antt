use Rattle.std.proofs.Common.{◌≡◌, ◌+◌, ◌<◌, ◌-◌, List, sum_by, take, length, sym, ap, ◌∙◌, arith}
use Rattle.std.proofs.Common.{get_or, set}
use Rattle.std.proofs.lemmas.List.{get_or-take, length-take}
use Rattle.share_model.proofs.lemmas.funding.SettledGraphLemmas.{none_any}
use Rattle.share_ledger.specs.declared.funding_tickets.FundingTicket.{FundingTicket}
use Rattle.share_ledger.specs.FundingTickets.{is_like}
use Rattle.share_ledger.proofs.FirstItemLemmas.{position-first, position-none}
use Rattle.share_ledger.proofs.FundingSumLemmas.{first-passes, first-below, like-same, sum-taken_out}
use Rattle.share_ledger.proofs.funding_tickets.FundingTickets.remove.Goals as goal
use Rattle.std.proofs.lemmas.Bool.Decides.{nat_tests}

pub returns : goal.returns
returns c = λ F.
    let none : FundingTicket = record { from = 0; amount = 0 } in
    let room = c.self.inside.room in
    let n = c.self.inside.count in
    let i = c.in-Some.place in
    let own : List FundingTicket = c.args.self.now in
    let first = position-first (is_like c.args.funding_ticket) own i (sym c.place_of.ensures ∙ c.in-Some.is) in
    let long : length own ≡ length (take n room) = ap length (sym c.self.view_is) in
    let below = first-below (is_like c.args.funding_ticket) own i first in
    let small = c.self.invariant in
    let fits : i < n = omega (arith, long, below, length-take n room) in
    let at : get_or own i none ≡ get_or room i none =
    ap (λ (ss : List FundingTicket). get_or ss i none) (sym c.self.view_is) ∙ get_or-take n room i none fits in
    let same : get_or room i none ≡ c.args.funding_ticket =
    sym at ∙ like-same c.args.funding_ticket (get_or own i none)
    (first-passes (is_like c.args.funding_ticket) own i none first) in
    ap (λ s. sum_by F (take (n - 1) (set room i (get_or room (n - 1) none))) + F s) (sym same)
    ∙ sum-taken_out F room n i none (omega arith) fits
    ∙ ap (sum_by F) c.self.view_is

pub returns-in_default : goal.returns-in_default
returns-in_default c = grind (arith, nat_tests, none_any, position-none)
