use Rattle.std.proofs.Common.{◌≡◌, None, sym, subst, ◌∙◌}
use Rattle.share_model.specs.funding.Changes.{make_currency_refusal}
use Rattle.share_model.specs.funding.WellFormed.{IsWellFormed}
use Rattle.share_model.proofs.lemmas.funding.CurrencyLemmas.{well_formed-make_currency}
use Rattle.share_ledger.proofs.TableLemmas.{lay, fresh-currency}
use Rattle.share_ledger.proofs.FirstItemLemmas.{insert-new}
use Rattle.share_ledger.proofs.tables.Tables.make_currency.Goals as goal

pub invariant_of-self-2 : goal.invariant_of-self-2
invariant_of-self-2 c =
    let tables =
    lay c.self.inside.currencies.keys c.self.inside.tickets.items c.self.inside.next_ticket
    c.self.inside.flows.entries c.self.inside.next_flow in
    let none =
    subst (λ g. make_currency_refusal g c.args.name ≡ None) (sym c.self.view_is)
    (sym c.make_currency_refusal.ensures ∙ c.in_default.is) in
    let keys =
    c.in_ok-insert.ensures.keys
    ∙ insert-new c.args.name c.self.inside.currencies.keys
    (fresh-currency tables c.args.name none) in
    subst (λ ks. IsWellFormed (record tables { currencies = ks })) (sym keys)
    (well_formed-make_currency _ c.self.invariant c.args.name none)
