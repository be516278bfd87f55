use Rattle.std.proofs.Common.{◌≡◌, ◌<◌, ℕ, Bool, cond, true, false, nat_eq, Option, None, Some, is_some, option_copied}
use Rattle.std.proofs.Common.{sym, ap, ◌∙◌, true≢false, arith}
use Rattle.std.proofs.lemmas.Bool.Decides.{nat_tests}
use Rattle.share_base.specs.declared.refusal.Refusal.{Refusal}
use Rattle.share_base.specs.declared.refusal.Refusal.TheVariants.{Cycle, Deep}
use Rattle.share_model.proofs.lemmas.funding.RefusalLemmas.{stands}
use Rattle.share_model.proofs.lemmas.lists.FirstItemLemmas.{each-find}
use Rattle.share_ledger.proofs.CycleLemmas.{cycle-backs, below-stands, tall-funded}
use Rattle.share_ledger.proofs.PlaceLemmas.{IsPlaced, placed, place-base}
use Rattle.share_ledger.proofs.tables.Tables.chain_refusal.Goals as goal

refusal : {cycle deep : Bool} (a b : Bool) → cycle ≡ a → deep ≡ b
    → cond {A = Option Refusal} a (Some Cycle) (cond b (Some Deep) None)
    ≡ cond cycle (Some Cycle) (cond deep (Some Deep) None)
refusal {cycle} {deep} a b e f =
    ap (λ x. cond {A = Option Refusal} x (Some Cycle) (cond b (Some Deep) None)) (sym e)
    ∙ ap (λ x. cond {A = Option Refusal} cycle (Some Cycle) (cond x (Some Deep) None)) (sym f)

pub returns-in_default : goal.returns-in_default
returns-in_default c = λ found.
    absurd (true≢false (sym found ∙ ap is_some (sym c.ticket.ensures ∙ ap option_copied c.in_default.is)))

pub place_of-from-requires : goal.place_of-from-requires
place_of-from-requires c = grind (arith, nat_tests, each-find, IsPlaced, placed)

pub place_of-to-requires : goal.place_of-to-requires
place_of-to-requires c = stands c.args.self.now c.args.currency c.requires.known

pub has_ranks-requires-clause-made : goal.has_ranks-requires-clause-made
has_ranks-requires-clause-made c =
    above c.place_of-to.result
    (ap (λ p. nat_eq p 0) c.place_of-to.ensures.value ∙ place-base c.args.self.now c.args.currency ∙ c.requires.made)
  where
    above : (p : ℕ) → nat_eq p 0 ≡ false → 0 < p
    above p e = grind (arith, nat_tests)

pub returns-then-has_ranks : goal.returns-then-has_ranks
returns-then-has_ranks c = λ found.
    let none =
    below-stands _ c.is_well_formed.ensures _ c.requires.ticketed.ticketed _ c.requires.ticketed.ranked c.args.number
    c.args.currency
    _ c.requires.made (stands c.args.self.now c.args.currency c.requires.known)
    (sym c.ticket.ensures ∙ ap option_copied c.in-Some.is) _ _ c.place_of-from.ensures.value
    c.place_of-to.ensures.value (c.has_ranks.ensures.below c.if-has_ranks.true) in
    refusal false false none.0 none.1

pub returns-then-backs : goal.returns-then-backs
returns-then-backs c = λ found.
    let cycle =
    cycle-backs _ c.is_well_formed.ensures _ c.requires.ticketed.ticketed _ c.requires.ticketed.ranked c.args.number
    c.args.currency
    _ c.requires.made (stands c.args.self.now c.args.currency c.requires.known)
    (sym c.ticket.ensures ∙ ap option_copied c.in-Some.is) _ _ c.place_of-from.ensures.value
    c.place_of-to.ensures.value c.backs.ensures.0 c.backs.ensures.1.0 in
    let deep = c.has_ranks.ensures.deep c.if-has_ranks.false in
    refusal true true (cycle ∙ sym c.backs.ensures.1.1 ∙ c.if-backs.true)
    (tall-funded _ c.is_well_formed.ensures _ c.requires.ticketed.ticketed _ c.requires.ticketed.ranked c.args.number
    c.args.currency
    _ c.requires.made (stands c.args.self.now c.args.currency c.requires.known)
    (sym c.ticket.ensures ∙ ap option_copied c.in-Some.is) _ _ c.place_of-from.ensures.value
    c.place_of-to.ensures.value c.requires.free deep.0 deep.1.1.0 deep.1.1.1)

pub returns : goal.returns
returns c = λ found.
    let cycle =
    cycle-backs _ c.is_well_formed.ensures _ c.requires.ticketed.ticketed _ c.requires.ticketed.ranked c.args.number
    c.args.currency
    _ c.requires.made (stands c.args.self.now c.args.currency c.requires.known)
    (sym c.ticket.ensures ∙ ap option_copied c.in-Some.is) _ _ c.place_of-from.ensures.value
    c.place_of-to.ensures.value c.backs.ensures.0 c.backs.ensures.1.0 in
    let deep = c.has_ranks.ensures.deep c.if-has_ranks.false in
    refusal false true (cycle ∙ sym c.backs.ensures.1.1 ∙ c.if-backs.false)
    (tall-funded _ c.is_well_formed.ensures _ c.requires.ticketed.ticketed _ c.requires.ticketed.ranked c.args.number
    c.args.currency
    _ c.requires.made (stands c.args.self.now c.args.currency c.requires.known)
    (sym c.ticket.ensures ∙ ap option_copied c.in-Some.is) _ _ c.place_of-from.ensures.value
    c.place_of-to.ensures.value c.requires.free deep.0 deep.1.1.0 deep.1.1.1)
