use Rattle.std.proofs.Common.{◌≡◌, None, sym, subst, ◌∙◌}
use Rattle.share_model.specs.funding.Changes.{remove_currency_refusal}
use Rattle.share_model.specs.funding.WellFormed.{IsWellFormed}
use Rattle.share_model.proofs.lemmas.funding.CurrencyLemmas.{well_formed-remove_currency}
use Rattle.share_ledger.proofs.TableLemmas.{lay}
use Rattle.share_ledger.proofs.tables.Tables.remove_currency.Goals as goal

pub invariant_of-self : goal.invariant_of-self
invariant_of-self c =
    let tables =
    lay c.self.inside.currencies.keys c.self.inside.tickets.items c.self.inside.next_ticket
    c.self.inside.flows.entries c.self.inside.next_flow in
    let none =
    subst (λ g. remove_currency_refusal g c.args.name ≡ None) (sym c.self.view_is)
    (sym c.remove_currency_refusal.ensures ∙ c.in_default.is) in
    subst (λ ks. IsWellFormed (record tables { currencies = ks })) (sym c.shift_remove.ensures.keys)
    (well_formed-remove_currency _ c.self.invariant c.args.name none)
