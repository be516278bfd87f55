use Rattle.std.proofs.Common.{◌≡◌, bytes_eq, Some, position, sym, subst, ◌∙◌}
use Rattle.share_model.specs.funding.Graph.{Graph}
use Rattle.share_ledger.proofs.PlaceLemmas.{place-of_made}
use Rattle.share_ledger.proofs.FirstItemLemmas.{position-first}
use Rattle.share_ledger.proofs.tables.Tables.place_made.Goals as goal

pub returns-in-Some : goal.returns-in-Some
returns-in-Some c =
    let found =
    subst (λ (g : Graph). position (bytes_eq c.args.name) g.currencies ≡ Some c.in-Some.place) c.self.view_is
    (sym c.get_index_of.ensures.index ∙ c.in-Some.is) in
    place-of_made c.args.self.now c.args.name c.in-Some.place (sym c.is_base.ensures ∙ c.if-is_base.false)
    (position-first (bytes_eq c.args.name) c.args.self.now.currencies c.in-Some.place found)
