use Rattle.std.proofs.Common.{◌≡◌, None, Some, sym, subst, refl}
use Rattle.share_model.specs.funding.Changes.{remove_ticket_refusal, remove_ticket}
use Rattle.share_model.proofs.lemmas.funding.HolderLemmas.{leaves-tickets}
use Rattle.share_ledger.specs.Cache.{IsCurrent}
use Rattle.share_ledger.proofs.FlowTicketLemmas.{answered}
use Rattle.share_ledger.proofs.UnchangedRouteLemmas.{kept-left, routes-remove_ticket}
use Rattle.share_ledger.proofs.ledger.Ledger.remove_ticket.Goals as goal

pub invariant_of-self : goal.invariant_of-self
invariant_of-self c =
    let g = c.self.inside.tables in
    let cache = c.self.inside.cache in
    let h = c.remove_ticket.new.self in
    let stays = IsCurrent cache.valuation cache.tickets_of_all.value in
    answered c.remove_ticket.result
    (λ _. (remove_ticket_refusal g c.args.ticket ≡ None) × (h ≡ remove_ticket g c.args.ticket))
    (λ e. (remove_ticket_refusal g c.args.ticket ≡ Some e) × (h ≡ g)) (stays h)
    c.remove_ticket.ensures.done c.remove_ticket.ensures.refused
    (λ _ done. subst stays (sym done.1)
    (kept-left cache.valuation cache.tickets_of_all.value g (remove_ticket g c.args.ticket) (routes-remove_ticket g
    c.args.ticket done.0) refl
    (λ f. sym ((leaves-tickets g).remove_ticket c.args.ticket f done.0)) c.self.invariant))
    (λ e refused. subst stays (sym refused.1) c.self.invariant)
