use Rattle.std.proofs.Common.{◌≡◌, bytes_eq, None, Some, position, sym, subst, ◌∙◌, arith}
use Rattle.share_model.specs.funding.Graph.{Graph}
use Rattle.share_ledger.proofs.PlaceLemmas.{no-place, place-of_base, place-of_made}
use Rattle.share_ledger.proofs.FirstItemLemmas.{position-first, position-none}
use Rattle.share_ledger.proofs.tables.Tables.place_of.Goals as goal

pub returns-then-is_base-clause-value : goal.returns-then-is_base-clause-value
returns-then-is_base-clause-value c =
    place-of_base c.args.self.now c.args.name (sym c.is_base.ensures ∙ c.if-is_base.true)

pub returns-clause-value : goal.returns-clause-value
returns-clause-value c =
    let found =
    subst (λ (g : Graph). position (bytes_eq c.args.name) g.currencies ≡ Some c.in-Some.place) c.self.view_is
    (sym c.get_index_of.ensures.index ∙ c.in-Some.is) in
    place-of_made c.args.self.now c.args.name c.in-Some.place (sym c.is_base.ensures ∙ c.if-is_base.false)
    (position-first (bytes_eq c.args.name) c.args.self.now.currencies c.in-Some.place found)

pub unreachable-requires : goal.unreachable-requires
unreachable-requires c =
    let missing =
    subst (λ (g : Graph). position (bytes_eq c.args.name) g.currencies ≡ None) c.self.view_is
    (sym c.get_index_of.ensures.index ∙ c.in_default.is) in
    let none =
    no-place c.args.self.now c.args.name (sym c.is_base.ensures ∙ c.if-is_base.false)
    (position-none (bytes_eq c.args.name) c.args.self.now.currencies missing) in
    let known = c.requires in
    omega arith
