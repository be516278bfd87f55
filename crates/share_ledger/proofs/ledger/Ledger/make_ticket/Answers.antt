use Rattle.std.proofs.Common.{◌≡◌, None, sym, subst, refl}
use Rattle.share_base.specs.Refusal.{IsRefused}
use Rattle.share_model.specs.funding.Changes.{make_ticket_refusal, make_ticket}
use Rattle.share_model.proofs.lemmas.funding.HolderLemmas.{leaves-tickets}
use Rattle.share_ledger.specs.Cache.{IsCurrent}
use Rattle.share_ledger.proofs.FlowTicketLemmas.{answered}
use Rattle.share_ledger.proofs.UnchangedRouteLemmas.{kept-left, routes-make_ticket}
use Rattle.share_ledger.proofs.ledger.Ledger.make_ticket.Goals as goal

pub invariant_of-self : goal.invariant_of-self
invariant_of-self c =
    let g = c.self.inside.tables in
    let cache = c.self.inside.cache in
    let h = c.make_ticket.new.self in
    let stays = IsCurrent cache.valuation cache.tickets_of_all.value in
    answered c.make_ticket.result
    (λ n. (make_ticket_refusal g c.args.amount c.args.currency ≡ None) × (n ≡ g.next_ticket) × (h
    ≡ make_ticket g c.args.amount c.args.currency))
    (λ e. IsRefused (make_ticket_refusal g c.args.amount c.args.currency) e × (h ≡ g)) (stays h)
    c.make_ticket.ensures.done c.make_ticket.ensures.refused
    (λ n done. subst stays (sym done.2)
    (kept-left cache.valuation cache.tickets_of_all.value g (make_ticket g c.args.amount c.args.currency)
    (routes-make_ticket g c.args.amount c.args.currency) refl
    (λ f. sym ((leaves-tickets g).make_ticket c.args.amount c.args.currency f)) c.self.invariant))
    (λ e refused. subst stays (sym refused.1) c.self.invariant)
