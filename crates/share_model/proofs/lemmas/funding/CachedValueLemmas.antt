-- Cached amounts and values that meet the equations of one step give the activity, the values and the tickets of
-- the definition.
use Rattle.std.proofs.Common.{◌≡◌, ℕ, ◌*◌, ◌/◌, ◌^◌, ◌≤◌, true, false, cond, min}
use Rattle.std.proofs.Common.{sum_by, bytes_eq, nat_lt, refl, sym, ap, ◌∙◌}
use Rattle.share_model.specs.declared.funding.Holder.{Holder}
use Rattle.share_model.specs.declared.funding.Holder.TheVariants.{Nobody, Currency, Flow}
use Rattle.share_model.specs.declared.funding.Ticket.{Ticket}
use Rattle.share_model.specs.funding.Graph.{NameBytes, base, Graph, holder_is_currency, holder_is_flow}
use Rattle.share_model.specs.funding.Graph.{denominated_in}
use Rattle.share_model.specs.funding.Graph.{backing, funding, is_active_holder, is_active, active, worth_by, val, worth}
use Rattle.share_model.specs.funding.Graph.{tickets}
use Rattle.share_model.specs.lists.Each.{Each}
use Rattle.share_model.specs.funding.WellFormed.{IsShallow, is_awake, cached_worth, IsCached}
use Rattle.share_model.proofs.lemmas.lists.FirstItemLemmas.{each_map}
use Rattle.share_model.proofs.lemmas.lists.SumLemmas.{Each-filter, sum_by-same_of}
use Rattle.share_model.proofs.lemmas.funding.ShareLemmas.{active-is}
use Rattle.share_model.proofs.lemmas.funding.SettledGraphLemmas.{act-unique, val-unique, any-above}

module _ (g : Graph) (shallow : IsShallow g) (some : Each (λ (t : Ticket). 1 ≤ t.amount) g.tickets)
    (amount value : NameBytes → ℕ) (kept : IsCached g amount value) where
  is_unbacked : Ticket → Type 0
  is_unbacked t = holder_is_currency base t.holder ≡ false

  awake-step : (h : Holder) → is_awake g amount h ≡ is_active_holder g (λ (t : Ticket). is_awake g amount t.holder) h
  unfolding denominated_in
  awake-step Nobody = refl
  awake-step (Flow f) = refl
  awake-step (Currency c) =
      ap (nat_lt 0) (kept.amounts c)
      ∙ any-above (λ (t : Ticket). is_awake g amount t.holder) (denominated_in g.tickets c)
      (each_map _ (λ (t : Ticket). 1 ≤ t.amount) (λ t e. e.0) (denominated_in g.tickets c)
      (Each-filter (λ (t : Ticket). 1 ≤ t.amount) (λ (t : Ticket). bytes_eq c t.denomination) g.tickets some))

  pub awake-is : (t : Ticket) → holder_is_currency base t.holder ≡ false → is_awake g amount t.holder ≡ is_active g t
  awake-is t unbacked =
      sym
      (act-unique g shallow (λ (t : Ticket). is_awake g amount t.holder)
      (λ (t : Ticket). awake-step t.holder) t unbacked)

  pub amount-is : (c : NameBytes) → amount c ≡ active g c
  unfolding denominated_in
  amount-is c =
      kept.amounts c
      ∙ sum_by-same_of
      (λ (t : Ticket). (holder_is_currency base t.holder ≡ false) × (bytes_eq c t.denomination ≡ true))
      (λ (t : Ticket). cond (is_awake g amount t.holder) t.amount 0) (λ (t : Ticket). cond (is_active g t) t.amount 0)
      (denominated_in g.tickets c)
      (Each-filter (λ (t : Ticket). holder_is_currency base t.holder ≡ false)
      (λ (t : Ticket). bytes_eq c t.denomination) g.tickets shallow.unbacked)
      (λ t e. ap (λ b. cond b t.amount 0) (awake-is t e.0))
      ∙ sym (active-is g c)

  pub worth-is : (t : Ticket) → holder_is_currency base t.holder ≡ false
      → cached_worth g amount value t ≡ worth_by g value t
  unfolding worth_by
  worth-is t unbacked =
      ap
      (λ b. cond b
      (cond (bytes_eq t.denomination base) t.amount (value t.denomination * t.amount / amount t.denomination)) 0)
      (awake-is t unbacked)
      ∙ ap
      (λ n. cond (is_active g t) (cond (bytes_eq t.denomination base) t.amount (value t.denomination * t.amount / n)) 0)
      (amount-is t.denomination)

  pub value-is : (c : NameBytes) → val g 9 c ≡ value c
  unfolding backing
  value-is c =
      val-unique g shallow value
      (λ c. kept.values c
      ∙ sum_by-same_of
      (λ (t : Ticket). (holder_is_currency base t.holder ≡ false) × (holder_is_currency c t.holder ≡ true))
      (cached_worth g amount value) (worth_by g value) (backing g.tickets c)
      (Each-filter (λ (t : Ticket). holder_is_currency base t.holder ≡ false)
      (λ (t : Ticket). holder_is_currency c t.holder) g.tickets shallow.unbacked)
      (λ t e. worth-is t e.0))
      c

  worth-same : (t : Ticket) → worth g 9 t ≡ worth_by g value t
  unfolding worth worth_by
  worth-same t =
      ap
      (λ v. cond (is_active g t)
      (cond (bytes_eq t.denomination base) t.amount (v * t.amount / active g t.denomination)) 0)
      (value-is t.denomination)

  pub tickets-kept : (f : ℕ) → tickets g f ≡ min (2 ^ 20) (sum_by (cached_worth g amount value) (funding g.tickets f))
  unfolding tickets funding
  tickets-kept f =
      ap (min (2 ^ 20))
      (sum_by-same_of
      (λ (t : Ticket). (holder_is_currency base t.holder ≡ false) × (holder_is_flow f t.holder ≡ true)) (worth g 9)
      (cached_worth g amount value) (funding g.tickets f)
      (Each-filter (λ (t : Ticket). holder_is_currency base t.holder ≡ false)
      (λ (t : Ticket). holder_is_flow f t.holder) g.tickets shallow.unbacked)
      (λ t e. worth-same t ∙ sym (worth-is t e.0)))
