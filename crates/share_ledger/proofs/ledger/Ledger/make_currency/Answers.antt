use Rattle.std.proofs.Common.{◌≡◌, None, sym, subst, refl}
use Rattle.share_base.specs.Refusal.{IsRefused}
use Rattle.share_model.specs.funding.Changes.{make_currency_refusal, make_currency}
use Rattle.share_model.proofs.lemmas.funding.HolderLemmas.{leaves-tickets}
use Rattle.share_ledger.specs.Cache.{IsCurrent}
use Rattle.share_ledger.proofs.FlowTicketLemmas.{answered}
use Rattle.share_ledger.proofs.UnchangedRouteLemmas.{kept-left, routes-make_currency}
use Rattle.share_ledger.proofs.ledger.Ledger.make_currency.Goals as goal

pub invariant_of-self : goal.invariant_of-self
invariant_of-self c =
    let g = c.self.inside.tables in
    let cache = c.self.inside.cache in
    let h = c.make_currency.new.self in
    let stays = IsCurrent cache.valuation cache.tickets_of_all.value in
    answered c.make_currency.result
    (λ _. (make_currency_refusal g c.args.name ≡ None) × (h ≡ make_currency g c.args.name))
    (λ e. IsRefused (make_currency_refusal g c.args.name) e × (h ≡ g)) (stays h)
    c.make_currency.ensures.done c.make_currency.ensures.refused
    (λ _ done. subst stays (sym done.1)
    (kept-left cache.valuation cache.tickets_of_all.value g (make_currency g c.args.name) (routes-make_currency g
    c.is_well_formed.ensures c.args.name) refl
    (λ f. sym ((leaves-tickets g).make_currency c.args.name f)) c.self.invariant))
    (λ e refused. subst stays (sym refused.1) c.self.invariant)
