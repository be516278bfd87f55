-- The tenants whose packets are carried, one after the other.
use Rattle.std.specs.Prelude.{◌≡◌, ◌<◌, ◌+◌, ℕ, true, false, List, [], ◌∷◌, ◌++◌, length, take, drop}
use Rattle.std.specs.Prelude.{get_or}
use Rattle.std.specs.List.{fold}
use Rattle.std.proofs.Common.{refl, ap, sym, ◌∙◌}
use Rattle.std.proofs.lemmas.Bool.{cond-true}
use Rattle.std.proofs.lemmas.List.{take_more, take-append-drop}
use Rattle.share_book.specs.Audited.{Audited}
use Rattle.share_book.specs.Carry.{Carrying, carry_tenant, carry_next, carry_all, carry_answer, Carries}
use Rattle.share_book.specs.Closed.{ClosedView}
use Rattle.share_gateway.specs.Plan.{TenantView}
use Rattle.share_book.specs.declared.book.carrying.Carried.{Carried}
use Rattle.share_book.proofs.CarryLemmas.{fold_last}

-- after the first tenants no carrying has stopped, and this is what they left
abbrev pub HasCarried : Audited → ClosedView → List TenantView → ℕ → Audited → ClosedView → Type 0
HasCarried first before tenants i a c =
    carry_all first before (take i tenants) ≡ record { book = a; closed = c; stopped = false }

fold_append : {A B : Type 0} (f : B → A → B) (b : B) (xs ys : List A) → fold f b (xs ++ ys) ≡ fold f (fold f b xs) ys
fold_append f b [] ys = refl
fold_append f b (x ∷ xs) ys = fold_append f (f b x) xs ys

stays : (x : Carrying) (ts : List TenantView) → x.stopped ≡ true → fold carry_next x ts ≡ x
stays x [] stopped = refl
stays x (t ∷ ts) stopped =
    ap (λ x. fold carry_next x ts) (cond-true x.stopped x (carry_tenant x.book x.closed t.name) stopped)
    ∙ stays x ts stopped

module _ (first : Audited) (before : ClosedView) (tenants : List TenantView) (i : ℕ) (a : Audited) (c : ClosedView)
    (t : TenantView) (within : i < length tenants) (t_is : get_or tenants i t ≡ t)
    (was : HasCarried first before tenants i a c) where
  -- the next tenant
  pub next_carried : (x : Carrying) → carry_tenant a c t.name ≡ x → carry_all first before (take (i + 1) tenants) ≡ x
  next_carried x did =
      ap (carry_all first before) (take_more tenants i t within ∙ ap (λ t. take i tenants ++ t ∷ []) t_is)
      ∙ fold_last carry_next (record { book = first; closed = before; stopped = false }) (take i tenants) t
      ∙ ap (λ x. carry_next x t) was ∙ did

  -- it stopped, and so did all
  pub stop_carried : (x : Carrying) → carry_tenant a c t.name ≡ x → x.stopped ≡ true
      → carry_all first before tenants ≡ x
  stop_carried x did stopped =
      ap (carry_all first before) (sym (take-append-drop (i + 1) tenants))
      ∙ fold_append carry_next (record { book = first; closed = before; stopped = false }) (take (i + 1) tenants)
      (drop (i + 1) tenants)
      ∙ ap (λ x. fold carry_next x (drop (i + 1) tenants)) (next_carried x did) ∙ stays x (drop (i + 1) tenants) stopped

pub carries_of : (first : Audited) (before : ClosedView) (tenants : List TenantView) (answer : Carried) (a : Audited)
    (c : ClosedView) (x : Carrying) → carry_all first before tenants ≡ x → answer ≡ carry_answer x → a ≡ x.book
    → c ≡ x.closed → Carries first tenants before answer a c
carries_of first before tenants answer a c x is answered book closed = record {
  answer_is = answered ∙ ap carry_answer (sym is);
  book = book ∙ ap (λ (x : Carrying). x.book) (sym is);
  closed = closed ∙ ap (λ (x : Carrying). x.closed) (sym is);
}
