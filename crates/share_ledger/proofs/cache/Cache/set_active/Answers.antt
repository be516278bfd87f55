use Rattle.std.proofs.Common.{◌≡◌, ℕ, Bool, true, false, List, set, length, sym, subst, refl, ◌∙◌, ap, cond}
use Rattle.std.proofs.Common.{nat_eq, true≢false}
use Rattle.std.proofs.Math.Bool.{beq}
use Rattle.std.proofs.lemmas.Bool.{eqb-true}
use Rattle.share_ledger.specs.Valuations.{activity_of, IsReady}
use Rattle.share_ledger.specs.Arrays.{flags_of}
use Rattle.share_ledger.specs.FundingTickets.{backs_of, funds_of}
use Rattle.share_ledger.proofs.BaseFundingLemmas.{relit}
use Rattle.share_ledger.proofs.EquationLemmas.{kept-ready}
use Rattle.share_ledger.proofs.StalePlaceLemmas.{turned-was, turned-quiet}
use Rattle.share_ledger.proofs.cache.Cache.set_active.Goals as goal

pub returns-then-is_funded_by_base : goal.returns-then-is_funded_by_base
returns-then-is_funded_by_base c =
    let g = c.args.tables.now in
    let old = c.args.self.now in
    let long : length old.tickets_of_all.value ≡ 64 = let was = c.share.ensures.long.0 in cc in
    let wrote : c.share.new.tickets_of_all
    ≡ set old.tickets_of_all.value c.args.place _ = let own = c.share.ensures.set in cc in
    kept-ready g c.set_active.new.self c.share.new.tickets_of_all c.is_well_formed.ensures c.share.ensures.long.1
    (subst (λ (tickets_of_all : List ℕ). IsReady c.set_active.new.self tickets_of_all (backs_of g) (funds_of g)
    (activity_of g)) (sym wrote)
    (turned-quiet old.valuation c.set_active.new.self old.tickets_of_all.value _ _ _ c.args.place c.args.active
    c.requires.ready
    c.set_active.ensures.begun c.set_active.ensures.left c.requires.turned _
    (c.set_active.ensures.still (sym c.is_funded_by_base.ensures ∙ c.if-is_funded_by_base.true)) c.requires.place long
    refl))

pub recompute_changed-requires-clause-was : goal.recompute_changed-requires-clause-was
recompute_changed-requires-clause-was c =
    turned-was c.args.self.now.valuation c.set_active-2.new.self _ _ _ _ c.args.place c.args.active c.requires.ready
    c.set_active-2.ensures.begun c.set_active-2.ensures.left c.requires.turned

-- if no activity changes, all is as it was
same-flags : (lit on : ℕ → Bool) (place : ℕ) (b : Bool) → beq (on place) b ≡ true
    → ((k : ℕ) → lit k ≡ cond (nat_eq place k) b (on k)) → (k : ℕ) → on k ≡ lit k
same-flags lit on place b same turned k = by (nat_eq place k) refl ∙ sym (turned k)
  where
    equal : (a b : Bool) → beq a b ≡ true → a ≡ b
    equal true true e = refl
    equal true false e = absurd (true≢false (sym e))
    equal false true e = absurd (true≢false (sym e))
    equal false false e = refl

    by : (c : Bool) → nat_eq place k ≡ c → on k ≡ cond (nat_eq place k) b (on k)
    by true e =
        ap on (sym (eqb-true place k e)) ∙ equal (on place) b same ∙ sym (ap (λ c. cond c b (on k)) e)
    by false e = sym (ap (λ c. cond c b (on k)) e)

pub returns-then-deref-place : goal.returns-then-deref-place
returns-then-deref-place c =
    let g = c.args.tables.now in
    let old = c.args.self.now in
    let still =
    same-flags (activity_of g) (flags_of old.valuation.active.value) c.args.place c.args.active
    (subst (λ (fs : List Bool). beq (flags_of fs c.args.place) c.args.active ≡ true) c.deref-2.ensures
    c.if-deref-place.true) c.requires.turned in
    let ready =
    relit old.valuation old.tickets_of_all.value (backs_of g) (funds_of g) (flags_of old.valuation.active.value)
    (activity_of g)
    c.requires.ready still in
    kept-ready g old.valuation old.tickets_of_all.value c.is_well_formed.ensures
    (sym (ap length c.deref.ensures) ∙ c.have_places.ensures)
    ready
