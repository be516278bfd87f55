-- The laws hold if the invariant does.
use Rattle.std.proofs.Common.{◌≡◌, ◌≤◌, ◌+◌, ◌^◌, ℕ, suc, false, sym, ap, ◌∙◌, sum_by, arith, add-suc}
use Rattle.share_model.specs.declared.funding.Ticket.{Ticket}
use Rattle.share_model.specs.funding.Graph.{NameBytes, base, Graph, holder_is_currency, act, is_active}
use Rattle.share_model.specs.funding.Graph.{is_active_holder, val, worth_by, backing}
use Rattle.share_model.specs.funding.WellFormed.{IsShallow, IsWellFormed}
use Rattle.share_model.specs.funding.Laws.{NineStepsAreEnough, CachedIsAsDefined}
use Rattle.share_model.proofs.lemmas.lists.FirstItemLemmas.{each_map}
use Rattle.share_model.proofs.lemmas.funding.SettledGraphLemmas.{act-is, val-is, val-settles}
use Rattle.share_model.proofs.lemmas.funding.CachedValueLemmas.{awake-is, amount-is, value-is, tickets-kept}

act-stays : (g : Graph) → IsShallow g → (k : ℕ) (t : Ticket) → holder_is_currency base t.holder ≡ false
    → act g (k + 9) t ≡ is_active g t
unfolding act
act-stays g ok k t unbacked = sym (act-is g (λ n. act g (k + n)) step ok t unbacked)
  where
    step : (n : ℕ) (t : Ticket) → act g (k + suc n) t ≡ is_active_holder g (act g (k + n)) t.holder
    step n t = ap (λ m. act g m t) (add-suc k n)

val-stays_from : (g : Graph) → IsShallow g → (k : ℕ) (c : NameBytes) → val g (k + 8) c ≡ val g 8 c
unfolding val
val-stays_from g ok k c = sym (val-is g ok (λ n. val g (k + n)) step c)
  where
    step : (n : ℕ) (c : NameBytes) → val g (k + suc n) c ≡ sum_by (worth_by g (val g (k + n))) (backing g.tickets c)
    step n c = ap (λ m. val g m c) (add-suc k n)

pub settled : (g : Graph) → IsWellFormed g → NineStepsAreEnough g
settled g ok = record {
  activity =
      λ k. each_map (λ (t : Ticket). holder_is_currency base t.holder ≡ false) _
      (act-stays g ok.shallow k) g.tickets ok.shallow.unbacked;
  values =
      λ k c. ap (λ m. val g m c) (omega arith) ∙ val-stays_from g ok.shallow (k + 1) c
      ∙ sym (val-settles g ok.shallow c);
}

pub cached-as_defined : (g : Graph) → IsWellFormed g → CachedIsAsDefined g
cached-as_defined g ok = λ amount value cached.
    let some = each_map (λ (t : Ticket). (1 ≤ t.amount) × (t.amount ≤ 2 ^ 20)) (λ (t : Ticket). 1 ≤ t.amount)
    (λ t e. e.0) g.tickets ok.amounts in
    record {
      activity =
          each_map (λ (t : Ticket). holder_is_currency base t.holder ≡ false) _
          (awake-is g ok.shallow some amount value cached) g.tickets ok.shallow.unbacked;
      amounts = amount-is g ok.shallow some amount value cached;
      values = λ c. sym (value-is g ok.shallow some amount value cached c);
      shares = tickets-kept g ok.shallow some amount value cached;
    }
