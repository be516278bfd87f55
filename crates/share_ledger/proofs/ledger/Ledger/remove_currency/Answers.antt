use Rattle.std.proofs.Common.{◌≡◌, IfSome, refl, sym, subst}
use Rattle.share_model.proofs.lemmas.funding.HolderLemmas.{leaves-tickets}
use Rattle.share_model.specs.funding.Changes.{remove_currency}
use Rattle.share_model.specs.funding.WellFormed.{names_of}
use Rattle.share_ledger.specs.Bounds.{AreBefore}
use Rattle.share_ledger.specs.Places.{place}
use Rattle.share_ledger.specs.Cache.{IsCurrent}
use Rattle.share_ledger.proofs.RemovedCurrencyLemmas.{routes-remove_currency}
use Rattle.share_ledger.proofs.UnchangedRouteLemmas.{kept-left}
use Rattle.share_ledger.proofs.ledger.Ledger.remove_currency.Goals as goal

pub invariant_of-self-then-is_before : goal.invariant_of-self-then-is_before
invariant_of-self-then-is_before c =
    let g = c.self.inside.tables in
    let cache = c.self.inside.cache in
    let told = c.is_before.ensures c.if-is_before.true in
    let at : c.in-Some.place ≡ place (names_of g) c.args.name =
    subst (λ o. IfSome o (λ p. p ≡ place (names_of g) c.args.name)) c.in-Some.is c.place_made-place.ensures in
    let begun = c.self.invariant.valuation_ready.begun in
    let done = c.in_ok-remove_currency.ensures.done in
    subst (IsCurrent cache.valuation cache.tickets_of_all.value) (sym done.1)
    (kept-left cache.valuation cache.tickets_of_all.value g (remove_currency g c.args.name)
    (routes-remove_currency g c.is_well_formed.ensures c.args.name done.0 cache.valuation.backing.items
    cache.valuation.funding.items
    begun.backing begun.funding
    (subst (AreBefore cache.valuation.backing.items cache.valuation.funding.items) at told))
    refl (λ f. sym ((leaves-tickets g).remove_currency c.args.name f)) c.self.invariant)
