-- Only tickets that have a holder count. If these are the same, in whatever order, and the same flows are active, each
-- flow has the same tickets.
use Rattle.std.proofs.Common.{◌≡◌, ℕ, ◌*◌, ◌/◌, ◌^◌, zero, suc, Bool, true, false, not, cond, ◌&&◌, ◌||◌, min, List, []}
use Rattle.std.proofs.Common.{◌∷◌, ◌++◌, ◌+◌, filter, find, sum_by, bytes_eq, nat_eq, Some, is_some, refl, sym}
use Rattle.std.proofs.Common.{ap, ◌∙◌, arith}
use Rattle.std.specs.List.{list_any}
use Rattle.std.specs.Set.{remove_key}
use Rattle.std.proofs.lemmas.List.Folds.{list_any-append}
use Rattle.std.proofs.lemmas.List.Sums.{sum_by-cons, sum_by_push}
use Rattle.std.proofs.lemmas.Bool.Decides.{nat_tests}
use Rattle.std.proofs.Math.Bool.{and-false, or-false}
use Rattle.share_base.specs.declared.refusal.Refusal.TheVariants.{NoTicket, Funding}
use Rattle.share_model.specs.declared.funding.Holder.{Holder}
use Rattle.share_model.specs.declared.funding.Holder.TheVariants.{Nobody, Currency, Flow}
use Rattle.share_model.specs.declared.funding.Ticket.{Ticket}
use Rattle.share_model.specs.declared.funding.OpenFlow.{OpenFlow}
use Rattle.share_model.specs.funding.Graph.{NameBytes, base, Graph, holder_is_currency, holder_is_flow}
use Rattle.share_model.specs.funding.Graph.{denominated_in}
use Rattle.share_model.specs.funding.Graph.{backing, funding, is_active_flow, is_active_holder, act, is_active, active}
use Rattle.share_model.specs.funding.Graph.{worth_by, val, worth, tickets}
use Rattle.share_model.specs.funding.Changes.{is_numbered, ticket_of, has_holder, has_found_holder, made_ticket}
use Rattle.share_model.specs.funding.Changes.{added_flow}
use Rattle.share_model.specs.funding.Changes.{make_ticket, remove_ticket, add_flow}
use Rattle.share_model.specs.funding.Laws.{LeavesTickets}
use Rattle.share_model.proofs.lemmas.lists.CountLemmas.{any-filter}
use Rattle.share_model.proofs.lemmas.lists.SumLemmas.{sum_by-same, sum_by-filter, Each-all}
use Rattle.share_model.proofs.lemmas.funding.SettledGraphLemmas.{any-same}
use Rattle.share_model.proofs.lemmas.funding.RefusalLemmas.{not-refused}
use Rattle.share_model.proofs.lemmas.funding.ShareLemmas.{active_amount, active-is}

-- The same tickets have a holder: what fails, or is nothing, for a ticket without one comes out alike.
pub record IsHolderAlike (ts us : List Ticket) : Type 0 where
  pub any : (p : Ticket → Bool) → ((t : Ticket) → has_holder t.holder ≡ false → p t ≡ false)
      → list_any p ts ≡ list_any p us
  pub sum : (w : Ticket → ℕ) → ((t : Ticket) → has_holder t.holder ≡ false → w t ≡ 0) → sum_by w ts ≡ sum_by w us

cond_nothing : (b : Bool) → ◌≡◌ {A = ℕ} (cond b 0 0) 0
cond_nothing true = refl
cond_nothing false = refl

-- A ticket without a holder is not active, and worth nothing.
module _ (g : Graph) where
  unheld-holder : (a : Ticket → Bool) (o : Holder) → has_holder o ≡ false → is_active_holder g a o ≡ false
  unheld-holder a Nobody e = refl
  unheld-holder a (Currency c) e = absurd cc
  unheld-holder a (Flow f) e = absurd cc

  unheld-act : (n : ℕ) (t : Ticket) → has_holder t.holder ≡ false → act g n t ≡ false
  unfolding act
  unheld-act zero t e = refl
  unheld-act (suc n) t e = unheld-holder (act g n) t.holder e

  unheld-amount : (t : Ticket) → has_holder t.holder ≡ false → active_amount g t ≡ 0
  unfolding is_active
  unheld-amount t e = ap (λ b. cond b t.amount 0) (unheld-act 9 t e)

  idle-worth : (value : NameBytes → ℕ) (t : Ticket) → is_active g t ≡ false → worth_by g value t ≡ 0
  unfolding worth_by
  idle-worth value t e =
      ap
      (λ b. cond b
      (cond (bytes_eq t.denomination base) t.amount (value t.denomination * t.amount / active g t.denomination)) 0) e

  unheld-worth : (value : NameBytes → ℕ) (t : Ticket) → has_holder t.holder ≡ false → worth_by g value t ≡ 0
  unfolding is_active
  unheld-worth value t e = idle-worth value t (unheld-act 9 t e)

  -- the tickets of an idle flow
  pub idle-none : (f : ℕ) → is_active_flow g f ≡ false → tickets g f ≡ 0
  unfolding tickets funding worth is_active act
  idle-none f idle =
      ap (min (2 ^ 20))
      (sum_by-filter (worth_by g (val g 9)) (λ (t : Ticket). holder_is_flow f t.holder) g.tickets
      ∙ sum_by-same (λ (t : Ticket). cond (holder_is_flow f t.holder) (worth_by g (val g 9) t) 0) (λ (t : Ticket). 0)
      g.tickets (λ t. by t t.holder (holder_is_flow f t.holder) refl (idle-worth (val g 9) t))
      ∙ nothing g.tickets)
    where
      nothing : (ts : List Ticket) → sum_by (λ (t : Ticket). 0) ts ≡ 0
      nothing [] = refl
      nothing (t ∷ ts) = sum_by-cons {X = Ticket} (λ t. 0) t ts ∙ ap (λ n. 0 + n) (nothing ts)

      same : (m : ℕ) → nat_eq f m ≡ true → f ≡ m
      same m e = grind (arith, nat_tests)

      by : (t : Ticket) (o : Holder) (b : Bool) → holder_is_flow f o ≡ b
          → (is_active_holder g (act g 8) o ≡ false → worth_by g (val g 9) t ≡ 0)
          → cond b (worth_by g (val g 9) t) 0 ≡ 0
      by t o false e none = refl
      by t Nobody true e none = absurd cc
      by t (Currency c) true e none = absurd cc
      by t (Flow m) true e none = none (ap (is_active_flow g) (sym (same m e)) ∙ idle)

-- Two graphs
module _ (g h : Graph) (held : IsHolderAlike g.tickets h.tickets)
    (flows : (f : ℕ) → is_active_flow g f ≡ is_active_flow h f) where
  holder-alike : (n : ℕ) → ((t : Ticket) → act g n t ≡ act h n t) → (o : Holder)
      → is_active_holder g (act g n) o ≡ is_active_holder h (act h n) o
  unfolding denominated_in
  holder-alike n same Nobody = refl
  holder-alike n same (Flow f) = flows f
  holder-alike n same (Currency c) =
      any-filter (λ (t : Ticket). bytes_eq c t.denomination) (act g n) g.tickets
      ∙ held.any (λ (t : Ticket). bytes_eq c t.denomination && act g n t)
      (λ t e. ap (λ b. bytes_eq c t.denomination && b) (unheld-act g n t e) ∙ and-false (bytes_eq c t.denomination))
      ∙ any-same (λ (t : Ticket). bytes_eq c t.denomination && act g n t)
      (λ (t : Ticket). bytes_eq c t.denomination && act h n t) h.tickets
      (Each-all _ h.tickets (λ t. ap (λ b. bytes_eq c t.denomination && b) (same t)))
      ∙ sym (any-filter (λ (t : Ticket). bytes_eq c t.denomination) (act h n) h.tickets)

  act-alike : (n : ℕ) (t : Ticket) → act g n t ≡ act h n t
  unfolding act
  act-alike zero t = refl
  act-alike (suc n) t = holder-alike n (act-alike n) t.holder

  sum-alike : (q : Ticket → Bool) (v w : Ticket → ℕ) → ((t : Ticket) → has_holder t.holder ≡ false → v t ≡ 0)
      → ((t : Ticket) → v t ≡ w t) → sum_by v (filter q g.tickets) ≡ sum_by w (filter q h.tickets)
  sum-alike q v w none same =
      sum_by-filter v q g.tickets
      ∙ held.sum (λ t. cond (q t) (v t) 0) (λ t e. ap (λ n. cond (q t) n 0) (none t e) ∙ cond_nothing (q t))
      ∙ sum_by-same (λ t. cond (q t) (v t) 0) (λ t. cond (q t) (w t) 0) h.tickets
      (λ t. ap (λ n. cond (q t) n 0) (same t))
      ∙ sym (sum_by-filter w q h.tickets)

  active-alike : (c : NameBytes) → active g c ≡ active h c
  unfolding denominated_in is_active
  active-alike c =
      active-is g c
      ∙ sum-alike (λ (t : Ticket). bytes_eq c t.denomination) (active_amount g) (active_amount h) (unheld-amount g)
      (λ t. ap (λ b. cond b t.amount 0) (act-alike 9 t))
      ∙ sym (active-is h c)

  worth-alike : (v w : NameBytes → ℕ) → ((c : NameBytes) → v c ≡ w c) → (t : Ticket) → worth_by g v t ≡ worth_by h w t
  unfolding worth_by is_active
  worth-alike v w same t =
      let d = t.denomination in
      ap (λ b. cond b (cond (bytes_eq d base) t.amount (v d * t.amount / active g d)) 0) (act-alike 9 t)
      ∙ ap (λ n. cond (act h 9 t) (cond (bytes_eq d base) t.amount (n * t.amount / active g d)) 0) (same d)
      ∙ ap (λ n. cond (act h 9 t) (cond (bytes_eq d base) t.amount (w d * t.amount / n)) 0) (active-alike d)

  val-alike : (n : ℕ) (c : NameBytes) → val g n c ≡ val h n c
  unfolding val backing
  val-alike zero c = refl
  val-alike (suc n) c =
      sum-alike (λ (t : Ticket). holder_is_currency c t.holder) (worth_by g (val g n)) (worth_by h (val h n))
      (unheld-worth g (val g n)) (worth-alike (val g n) (val h n) (val-alike n))

  pub uncapped-alike : (f : ℕ) → sum_by (worth g 9) (funding g.tickets f) ≡ sum_by (worth h 9) (funding h.tickets f)
  unfolding funding worth
  uncapped-alike f =
      sum-alike (λ (t : Ticket). holder_is_flow f t.holder) (worth_by g (val g 9)) (worth_by h (val h 9))
      (unheld-worth g (val g 9)) (worth-alike (val g 9) (val h 9) (val-alike 9))

  pub tickets-alike : (f : ℕ) → tickets g f ≡ tickets h f
  unfolding tickets
  tickets-alike f = ap (min (2 ^ 20)) (uncapped-alike f)

-- Lists in which the same tickets have a holder
pub alike-same : (ts : List Ticket) → IsHolderAlike ts ts
alike-same ts = record { any = λ p none. refl; sum = λ w none. refl }

alike-made : (ts : List Ticket) (t : Ticket) → has_holder t.holder ≡ false → IsHolderAlike (ts ++ t ∷ []) ts
alike-made ts t unheld = record {
  any = λ p none.
      list_any-append p ts (t ∷ []) ∙ ap (λ b. list_any p ts || (b || false)) (none t unheld)
      ∙ or-false (list_any p ts);
  sum = λ w none. sum_by_push w ts t ∙ ap (λ n. sum_by w ts + n) (none t unheld) ∙ omega arith;
}

alike-removed : (p : Ticket → Bool) (ts : List Ticket) → has_found_holder (find p ts) ≡ false
    → IsHolderAlike (remove_key p ts) ts
alike-removed p [] unheld = alike-same []
alike-removed p (t ∷ ts) unheld = by (p t) unheld (alike-removed p ts)
  where
    by : (b : Bool) → has_found_holder (cond b (Some t) (find p ts)) ≡ false
        → (has_found_holder (find p ts) ≡ false → IsHolderAlike (remove_key p ts) ts)
        → IsHolderAlike (cond b ts (t ∷ remove_key p ts)) (t ∷ ts)
    by true unheld rest = record {
      any = λ q none. sym (ap (λ b. b || list_any q ts) (none t unheld));
      sum = λ w none. sym (sum_by-cons w t ts ∙ ap (λ n. n + sum_by w ts) (none t unheld) ∙ omega arith);
    }
    by false unheld rest = record {
      any = λ q none. ap (λ b. q t || b) ((rest unheld).any q none);
      sum = λ w none.
          sum_by-cons w t (remove_key p ts) ∙ ap (λ n. w t + n) ((rest unheld).sum w none) ∙ sym (sum_by-cons w t ts);
    }

pub leaves-tickets : (g : Graph) → LeavesTickets g
leaves-tickets g = record {
  make_currency = λ c. tickets-alike _ g (alike-same g.tickets) (λ f. refl);
  remove_currency = λ c. tickets-alike _ g (alike-same g.tickets) (λ f. refl);
  make_ticket =
      λ amount c.
      tickets-alike (make_ticket g amount c) g (alike-made g.tickets (made_ticket g amount c) refl) (λ f. refl);
  remove_ticket = λ n f none.
      let one = not-refused (not (is_some (ticket_of g n))) NoTicket _ none in
      let two = not-refused (has_found_holder (ticket_of g n)) Funding _ one.1 in
      tickets-alike (remove_ticket g n) g (alike-removed (is_numbered n) g.tickets two.0) (λ f. refl) f;
  add_flow = λ name.
      tickets-alike (add_flow g name) g (alike-same g.tickets)
      (λ f. list_any-append (λ (e : NameBytes × OpenFlow). nat_eq f e.1.number && e.1.active) g.flows
      ((name, added_flow g) ∷ [])
      ∙ idle (nat_eq f g.next_flow) (is_active_flow g f));
  idle = idle-none g;
}
  where
    idle : (a b : Bool) → (b || ((a && false) || false)) ≡ b
    idle true true = refl
    idle true false = refl
    idle false true = refl
    idle false false = refl
