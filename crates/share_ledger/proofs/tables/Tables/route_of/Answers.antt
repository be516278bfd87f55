use Rattle.std.proofs.Common.{◌≡◌, Some, true≢false, option_copied, sym, ap, subst, ◌∙◌}
use Rattle.share_model.proofs.lemmas.lists.FirstItemLemmas.{each-find}
use Rattle.share_model.specs.funding.Changes.{ticket_of, is_numbered, has_found_holder}
use Rattle.share_ledger.specs.Routes.{IsRouteWithin}
use Rattle.share_ledger.proofs.PlaceLemmas.{IsPlaced, placed}
use Rattle.share_ledger.proofs.RouteListLemmas.{route-within}
use Rattle.share_ledger.proofs.tables.Tables.route_of.Goals as goal

pub unreachable-requires : goal.unreachable-requires
unreachable-requires c =
    true≢false (sym c.requires ∙ ap has_found_holder (sym c.ticket.ensures ∙ ap option_copied c.in_default.is))

pub route-requires-clause-denomination : goal.route-requires-clause-denomination
route-requires-clause-denomination c =
    let g = c.args.self.now in
    (each-find (IsPlaced g) (is_numbered c.args.number) g.tickets
    c.in-Some.ticket.now (placed g c.is_well_formed.ensures)
    (sym c.ticket.ensures ∙ ap option_copied c.in-Some.is)).denomination_known

pub route-requires-clause-holder : goal.route-requires-clause-holder
route-requires-clause-holder c =
    let g = c.args.self.now in
    (each-find (IsPlaced g) (is_numbered c.args.number) g.tickets
    c.in-Some.ticket.now (placed g c.is_well_formed.ensures)
    (sym c.ticket.ensures ∙ ap option_copied c.in-Some.is)).holder_known

pub returns-clause-within : goal.returns-clause-within
returns-clause-within c =
    let g = c.args.self.now in
    let t = c.in-Some.ticket.now in
    subst IsRouteWithin (sym c.route.ensures) (route-within g c.is_well_formed.ensures t
    (each-find (IsPlaced g) (is_numbered c.args.number) g.tickets t (placed g c.is_well_formed.ensures)
    (sym c.ticket.ensures ∙ ap option_copied c.in-Some.is)))

pub returns-clause-routed : goal.returns-clause-routed
returns-clause-routed c =
    let found : ticket_of c.args.self.now c.args.number ≡ Some c.in-Some.ticket.now =
    sym c.ticket.ensures ∙ ap option_copied c.in-Some.is in
    (c.in-Some.ticket.now, (found, c.route.ensures, sym (ap has_found_holder found) ∙ c.requires, c.is_kind.ensures))
