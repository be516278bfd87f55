-- Funding is Deep if and only if nine currencies would stand in a chain, and Cycle if the currency backs already.
use Rattle.std.proofs.Common.{◌≡◌, ◌≤◌, ◌+◌, ◌-◌, ℕ, zero, suc, Bool, true, false, not, ◌||◌, ◌&&◌, List, [], ◌∷◌}
use Rattle.std.proofs.Common.{bytes_eq, nat_le, refl, sym, ap, ◌∙◌, arith, true≢false}
use Rattle.std.specs.List.{list_any}
use Rattle.std.proofs.lemmas.Bool.Decides.{nat_tests}
use Rattle.std.proofs.Math.Bool.{or-true}
use Rattle.std.proofs.lemmas.Bool.{leb-true}
use Rattle.share_model.proofs.lemmas.lists.FirstItemLemmas.{each_map}
use Rattle.share_model.specs.declared.funding.Holder.{Holder}
use Rattle.share_model.specs.declared.funding.Holder.TheVariants.{Nobody, Currency, Flow}
use Rattle.share_model.specs.declared.funding.Ticket.{Ticket}
use Rattle.share_model.specs.funding.Graph.{NameBytes, base, Graph, holder_is_currency, denominated_in, leads_on}
use Rattle.share_model.specs.funding.Graph.{chain}
use Rattle.share_model.specs.funding.Graph.{chain_within, runs, is_deep}
use Rattle.share_model.specs.funding.Changes.{fund_currency}
use Rattle.share_model.specs.funding.WellFormed.{IsShallow}
use Rattle.share_model.specs.funding.Laws.{HasNineInChain, DeepIsNine, CycleIsBacking}
use Rattle.share_model.proofs.lemmas.lists.SumLemmas.{name_refl, Each-filter}
use Rattle.share_model.proofs.lemmas.funding.SettledGraphLemmas.{none_any, holder-short}
use Rattle.share_model.proofs.lemmas.funding.CycleLemmas.{runs-fewer}
use Rattle.share_model.proofs.lemmas.funding.ChainLemmas.{chain-runs, short-from_deep}

-- an item that passes a test, and that is among the items
record Passing {X : Type 0} (p : X → Bool) (xs : List X) : Type 0 where
  item : X
  passes : p item ≡ true
  among : (q : X → Bool) → q item ≡ true → list_any q xs ≡ true

some-passes : {X : Type 0} (p : X → Bool) (xs : List X) → list_any p xs ≡ true → Passing p xs
some-passes p [] e = absurd (true≢false (sym e))
some-passes {X} p (x ∷ xs) e = by (p x) refl e (some-passes p xs)
  where
    by : (b : Bool) → p x ≡ b → (b || list_any p xs) ≡ true → (list_any p xs ≡ true → Passing p xs) → Passing p (x ∷ xs)
    by true here e rest = record { item = x; passes = here; among = λ q also. ap (λ b. b || list_any q xs) also }
    by false here e rest =
        let found = rest e in
        record {
          item = found.item;
          passes = found.passes;
          among = λ q also. ap (λ b. q x || b) (found.among q also) ∙ or-true (q x);
        }

-- if chains of n steps begin, one goes somewhere
runs-chain : (ts : List Ticket) (n : ℕ) (a : NameBytes) → runs ts n a ≡ true → (b : NameBytes) × (chain ts n a b ≡ true)
unfolding runs chain
runs-chain ts zero a e = (a, name_refl a)
runs-chain ts (suc n) a e =
    let found = some-passes (λ (t : Ticket). leads_on (runs ts n) t.holder) (denominated_in ts a) e in
    by found.item found.item.holder refl found.passes found.among (runs-chain ts n)
  where
    by : (t : Ticket) (h : Holder) → t.holder ≡ h → leads_on (runs ts n) t.holder ≡ true
        → ((q : Ticket → Bool) → q t ≡ true → list_any q (denominated_in ts a) ≡ true)
        → ((c : NameBytes) → runs ts n c ≡ true → (b : NameBytes) × (chain ts n c b ≡ true))
        → (b : NameBytes) × (list_any (λ (t : Ticket). leads_on (λ c. chain ts n c b) t.holder) (denominated_in ts a)
        ≡ true)
    by t Nobody is leads among rest = absurd (true≢false (sym leads ∙ ap (leads_on (runs ts n)) is))
    by t (Flow f) is leads among rest = absurd (true≢false (sym leads ∙ ap (leads_on (runs ts n)) is))
    by t (Currency c) is leads among rest =
        let on = rest c (sym (ap (leads_on (runs ts n)) is) ∙ leads) in
        let q : Ticket → Bool = λ t. leads_on (λ c. chain ts n c on.0) t.holder in
        (on.0, among q (ap (leads_on (λ c. chain ts n c on.0)) is ∙ on.1))

deep-chain : (ts : List Ticket) → is_deep ts ≡ true → HasNineInChain ts
unfolding is_deep
deep-chain ts deep =
    let found = some-passes (λ (t : Ticket). not (bytes_eq t.denomination base) && runs ts 8 t.denomination) ts deep in
    let parts = both (bytes_eq found.item.denomination base) (runs ts 8 found.item.denomination) found.passes in
    let long = runs-chain ts 8 found.item.denomination parts.1 in
    (found.item.denomination, (long.0, (parts.0, long.1)))
  where
    both : (x y : Bool) → (not x && y) ≡ true → (x ≡ false) × (y ≡ true)
    both true y e = absurd (true≢false (sym e))
    both false y e = (refl, e)

chain-deep : (ts : List Ticket) → HasNineInChain ts → is_deep ts ≡ true
chain-deep ts long = by (is_deep ts) refl
  where
    by : (b : Bool) → is_deep ts ≡ b → is_deep ts ≡ true
    by true e = e
    by false e = absurd (true≢false (sym long.1.1.1 ∙ short-from_deep ts e long.0 long.1.0 long.1.1.0))

pub deep-is-nine : (g : Graph) → DeepIsNine g
deep-is-nine g n c = (deep-chain (fund_currency g n c).tickets, chain-deep (fund_currency g n c).tickets)

-- chains of any length are among those of few steps
within-chain : (ts : List Ticket) (n : ℕ) (a b : NameBytes) → chain_within ts n a b ≡ true
    → (m : ℕ) × (chain ts m a b ≡ true)
unfolding chain_within
within-chain ts zero a b e = (0, e)
within-chain ts (suc n) a b e = by (chain_within ts n a b) refl e (within-chain ts n a b)
  where
    by : (r : Bool) → chain_within ts n a b ≡ r → (r || chain ts (suc n) a b) ≡ true
        → (chain_within ts n a b ≡ true → (m : ℕ) × (chain ts m a b ≡ true)) → (m : ℕ) × (chain ts m a b ≡ true)
    by true is e rest = rest is
    by false is e rest = (suc n, e)

chain-within : (ts : List Ticket) (n m : ℕ) (a b : NameBytes) → m ≤ n → chain ts m a b ≡ true
    → chain_within ts n a b ≡ true
unfolding chain_within
chain-within ts zero zero a b few e = e
chain-within ts zero (suc m) a b few e = absurd (omega arith)
chain-within ts (suc n) m a b few e = by (nat_le m n) refl (λ less. chain-within ts n m a b less e)
  where
    last : (k l : ℕ) → nat_le k l ≡ false → k ≤ suc l → k ≡ suc l
    last k l e few = grind (arith, nat_tests)

    by : (r : Bool) → nat_le m n ≡ r → (m ≤ n → chain_within ts n a b ≡ true)
        → (chain_within ts n a b || chain ts (suc n) a b) ≡ true
    by true is rest = ap (λ r. r || chain ts (suc n) a b) (rest (leb-true m n is))
    by false is rest =
        ap (λ r. chain_within ts n a b || r) (sym (ap (λ k. chain ts k a b) (last m n is few)) ∙ e)
        ∙ or-true (chain_within ts n a b)

module _ (g : Graph) (ok : IsShallow g) where
  runs-few : (a : NameBytes) → runs g.tickets 9 a ≡ false
  unfolding runs denominated_in
  runs-few a =
      none_any (λ (t : Ticket). leads_on (runs g.tickets 8) t.holder) (denominated_in g.tickets a)
      (each_map _ (λ (t : Ticket). leads_on (runs g.tickets 8) t.holder ≡ false)
      (λ t e. holder-short g ok t.holder e.0) (denominated_in g.tickets a)
      (Each-filter (λ (t : Ticket). holder_is_currency base t.holder ≡ false)
      (λ (t : Ticket). bytes_eq a t.denomination) g.tickets ok.unbacked))

  runs-never : (k : ℕ) (a : NameBytes) → runs g.tickets (9 + k) a ≡ true → ⊥
  runs-never zero a e = true≢false (sym e ∙ runs-few a)
  runs-never (suc k) a e =
      let next : suc (9 + k) ≡ 9 + suc k = omega arith in
      runs-never k a (runs-fewer g.tickets (9 + k) a (ap (λ m. runs g.tickets m a) next ∙ e))

  chain-few : (n : ℕ) (a b : NameBytes) → chain g.tickets n a b ≡ true → n ≤ 8
  chain-few n a b e = by (nat_le n 8) refl
    where
      less : nat_le n 8 ≡ true → n ≤ 8
      less is = grind (arith, nat_tests)

      more : nat_le n 8 ≡ false → n ≡ 9 + (n - 9)
      more is = grind (arith, nat_tests)

      by : (r : Bool) → nat_le n 8 ≡ r → n ≤ 8
      by true is = less is
      by false is =
          let long : runs g.tickets (9 + (n - 9)) a ≡ true =
          ap (λ m. runs g.tickets m a) (sym (more is)) ∙ chain-runs g.tickets n a b e in
          absurd (runs-never (n - 9) a long)

  pub cycle-is-backing : CycleIsBacking g
  cycle-is-backing c d = (
    within-chain g.tickets 8 c d,
    λ backs. chain-within g.tickets 8 backs.0 c d (chain-few backs.0 c d backs.1) backs.1,
  )
