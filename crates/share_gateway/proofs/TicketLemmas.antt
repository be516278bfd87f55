-- The ticket of a grant has its number among all grants.
use Rattle.std.specs.Prelude.{◌≡◌, ◌<◌, ◌≤◌, ℕ, zero, suc, ◌+◌, ◌-◌, ◌^◌, Bool, true, false, ◌&&◌, List, [], ◌∷◌, ◌++◌}
use Rattle.std.specs.Prelude.{length, take, drop, flat_map, nat_le, slice_get, Some, Ok, Err, IfOk, if◌then◌else◌}
use Rattle.std.proofs.Common.{refl, ap, sym, subst, ◌∙◌, arith, add-one, append_assoc, length-append}
use Rattle.std.proofs.lemmas.List.{take-append-drop, append-nil, length-map}
use Rattle.std.proofs.lemmas.List.Concat.{flat_map-append}
use Rattle.std.proofs.lemmas.List.FromFn.{length-enumerate_from}
use Rattle.std.proofs.lemmas.Bool.{cond-true, cond-false}
use Rattle.std.proofs.lemmas.Bool.Decides.{nat_tests}
use Rattle.std.proofs.lemmas.Option.{same_Some}
use Rattle.share_base.specs.declared.refusal.Refusal.TheVariants.{NoCurrency, NoTicket}
use Rattle.share_model.specs.funding.Graph.{NameBytes}
use Rattle.share_gateway.specs.declared.plan.Grant.{Grant}
use Rattle.share_gateway.specs.Plan.{PlanView, IsInLimits, funding_commands, grants_in}
use Rattle.share_gateway.specs.Opening.{Grantee, grantees, grants_to, grant_to, GrantTo, all_grants_to, all_grants}
use Rattle.share_gateway.specs.Opening.{numbered}
use Rattle.share_gateway.specs.GrantTickets.{is_named, ticket_after, ticket_among, grant_ticket, IsTicketOf}
use Rattle.share_gateway.proofs.OpeningLemmas.{drop-get, drop-past, numbered-get, get-numbered, get-front, get-back}
use Rattle.share_gateway.proofs.OpeningLemmas.{length-all_grants, both}

take_suc : {A : Type 0} (xs : List A) (i : ℕ) (x : A) → slice_get xs i ≡ Some x → take (suc i) xs ≡ take i xs ++ x ∷ []
take_suc [] i x e = cc
take_suc (y ∷ xs) zero x e = ap (λ z. z ∷ []) (same_Some y x e)
take_suc (y ∷ xs) (suc i) x e = ap (λ zs. y ∷ zs) (take_suc xs i x e)

take_get : {A : Type 0} (xs : List A) (i : ℕ) (x : A) → slice_get xs i ≡ Some x → take (i + 1) xs ≡ take i xs ++ x ∷ []
take_get xs i x e = ap (λ n. take n xs) (add-one i) ∙ take_suc xs i x e

some_at : {A : Type 0} (xs : List A) (i : ℕ) → i < length xs → (x : A) × (slice_get xs i ≡ Some x)
some_at [] i few = absurd (omega (arith, few))
some_at (x ∷ xs) zero few = (x, refl)
some_at (x ∷ xs) (suc i) few = some_at xs i (omega (arith, few))

length_all_to : (to : Grantee) → length (all_grants_to to) ≡ length (grants_to to)
length_all_to to = length-map (numbered (grants_to to)) (grant_to to) ∙ length-enumerate_from 1 (grants_to to)

-- the number of grants before those to the grantee of an index
abbrev pub grants_before : PlanView → ℕ → ℕ
grants_before p index = length (flat_map all_grants_to (take index (grantees p)))

module _ (p : PlanView) (index : ℕ) (to : Grantee) (at : slice_get (grantees p) index ≡ Some to) where
  pub before-next : grants_before p (index + 1) ≡ grants_before p index + length (grants_to to)
  before-next =
      ap (λ tos. length (flat_map all_grants_to tos)) (take_get (grantees p) index to at)
      ∙ ap length (flat_map-append all_grants_to (take index (grantees p)) (to ∷ []))
      ∙ length-append (flat_map all_grants_to (take index (grantees p))) (all_grants_to to ++ [])
      ∙ ap (λ (gs : List GrantTo). grants_before p index + length gs) (append-nil (all_grants_to to))
      ∙ ap (λ n. grants_before p index + n) (length_all_to to)

  all_split : all_grants p
      ≡ flat_map all_grants_to (take index (grantees p))
      ++ (all_grants_to to ++ flat_map all_grants_to (drop (index + 1) (grantees p)))
  all_split =
      ap (flat_map all_grants_to) (sym (take-append-drop index (grantees p)))
      ∙ flat_map-append all_grants_to (take index (grantees p)) (drop index (grantees p))
      ∙ ap (λ tos. flat_map all_grants_to (take index (grantees p)) ++ flat_map all_grants_to tos)
      (drop-get (grantees p) index to at)

  -- tickets are few
  pub before-few : IsInLimits p → grants_before p index + length (grants_to to) < 4294967296
  before-few limits =
      let few : funding_commands p ≤ 65536 = grind (arith, nat_tests, limits.funding) in
      let all : length (all_grants p) ≡ grants_in p = length-all_grants p in
      let split = ap length all_split in
      let one = length-append (flat_map all_grants_to (take index (grantees p)))
      (all_grants_to to ++ flat_map all_grants_to (drop (index + 1) (grantees p))) in
      let two = length-append (all_grants_to to) (flat_map all_grants_to (drop (index + 1) (grantees p))) in
      let size = length_all_to to in omega (arith, few, all, split, one, two, size)

  stands_at : (i : ℕ) (g : Grant) → slice_get (grants_to to) i ≡ Some g
      → slice_get (all_grants p) (grants_before p index + i) ≡ Some (grant_to to (i + 1, g))
  stands_at i g is =
      ap (λ gs. slice_get gs (grants_before p index + i)) all_split
      ∙ get-back (flat_map all_grants_to (take index (grantees p)))
      (all_grants_to to ++ flat_map all_grants_to (drop (index + 1) (grantees p))) i (grant_to to (i + 1, g))
      (get-front (all_grants_to to) (flat_map all_grants_to (drop (index + 1) (grantees p))) i (grant_to to (i + 1, g))
      (get-numbered (grant_to to) (grants_to to) i g is))

  module _ (name : NameBytes) (named : is_named name to ≡ true) where
    ticket_is : (i : ℕ) → i < length (grants_to to) → IsTicketOf p name (i + 1) (grants_before p index + (i + 1))
    ticket_is i few =
        let got = some_at (grants_to to) i few in
        let place : grants_before p index + (i + 1) - 1 ≡ grants_before p index + i = omega arith in
        let number : 1 + (grants_before p index + i) ≡ grants_before p index + (i + 1) = omega arith in
        record {
          grantee = to;
          grant = got.0;
          named = named;
          counted = omega arith;
          stands =
              ap (slice_get (numbered (all_grants p))) place
              ∙ numbered-get 1 (all_grants p) (grants_before p index + i) (grant_to to (i + 1, got.0))
              (stands_at i got.0 got.1)
              ∙ ap (λ n. Some (n, grant_to to (i + 1, got.0))) number;
        }

    ticket_by : (j : ℕ) → 1 ≤ j → j ≤ length (grants_to to) → IsTicketOf p name j (grants_before p index + j)
    ticket_by zero some few = absurd (omega (arith, some))
    ticket_by (suc i) some few =
        let one : i + 1 ≡ suc i = omega arith in
        let P : ℕ → Type 0 = λ j. IsTicketOf p name j (grants_before p index + j) in
        subst P one (ticket_is i (omega (arith, few)))

    pub ticket-stands : (j : ℕ)
        → IfOk (ticket_after (grants_before p index) j (length (grants_to to))) (λ ticket. IsTicketOf p name j ticket)
    ticket-stands j = by_test (nat_le 1 j && nat_le j (length (grants_to to))) refl
      where
        by_test : (b : Bool) → (nat_le 1 j && nat_le j (length (grants_to to))) ≡ b
            → IfOk (if b then Ok (grants_before p index + j) else Err NoTicket) (λ ticket. IsTicketOf p name j ticket)
        by_test true is =
            let parts = both (nat_le 1 j) (nat_le j (length (grants_to to))) is in
            let some : 1 ≤ j = grind (arith, nat_tests, parts.0) in
            let few : j ≤ length (grants_to to) = grind (arith, nat_tests, parts.1) in ticket_by j some few
        by_test false is = tt

    pub among-here : (before j : ℕ)
        → ticket_among before name j (drop index (grantees p)) ≡ ticket_after before j (length (grants_to to))
    among-here before j =
        ap (ticket_among before name j) (drop-get (grantees p) index to at) ∙ cond-true (is_named name to) _ _ named

  pub among-later : (name : NameBytes) → is_named name to ≡ false → (before j : ℕ)
      → ticket_among before name j (drop index (grantees p))
      ≡ ticket_among (before + length (grants_to to)) name j (drop (index + 1) (grantees p))
  among-later name other before j =
      ap (ticket_among before name j) (drop-get (grantees p) index to at) ∙ cond-false (is_named name to) _ _ other

pub among-none : (p : PlanView) (name : NameBytes) (before j index : ℕ) → length (grantees p) ≤ index
    → ticket_among before name j (drop index (grantees p)) ≡ Err NoCurrency
among-none p name before j index past = ap (ticket_among before name j) (drop-past (grantees p) index past)
