use Rattle.std.proofs.Common.{◌≡◌, ◌∙◌, ℕ, rules, IfOk, IfErr, get_or, refl, sym, ap}
use Rattle.std.proofs.lemmas.List.{get_or_default}
use Rattle.std.proofs.lemmas.List.Sorted.{answers_always}
use Rattle.share_stride.specs.Index.{IsAt, IsGapFor}
use Rattle.share_stride.proofs.IndexLemmas.{searched}
use Rattle.share_stride.proofs.index.place_of.Goals as goal

-- the closure returns a pair's flow
place : (c : goal.After-binary_search_by_key)
    → IfOk c.binary_search_by_key.result (IsAt c.args.pairs.now c.args.flow)
    × IfErr c.binary_search_by_key.result (IsGapFor c.args.pairs.now c.args.flow)
place c =
    let facts = c.binary_search_by_key.ensures in
    let by_flow = facts.position (λ pair. pair.0) (answers_always _ _ _ (λ f a r g called. search rules)) in
    searched _ c.requires c.args.flow _ facts.bound by_flow

pub returns-clause-found : goal.returns-clause-found
returns-clause-found c = (place c).0

pub returns-clause-absent : goal.returns-clause-absent
returns-clause-absent c = (place c).1

pub returns-then-is_of-clause-found : goal.returns-then-is_of-clause-found
returns-then-is_of-clause-found c =
    let place = c.past_first-place.result in
    let inside = c.if-place-pairs.true in
    let met : get_or c.args.pairs.now place (0, 0) ≡ c.index-pairs-place.result =
    get_or_default c.args.pairs.now place (0, 0) c.index-pairs-place.result inside ∙ sym c.index-pairs-place.is in
    record { in_range = inside; has_flow = ap (λ (pair : ℕ × ℕ). pair.0) met ∙ c.if-is_of.ensures.0 refl }
