-- The first entry of the heap is that of the next flow.
use Rattle.std.proofs.Common.{◌≡◌, ◌≢◌, ◌⊎◌, ℕ, ◌≤◌, Option, None, Some, Bool, IsTrue, true, false, inl, inr}
use Rattle.std.proofs.Common.{refl, sym, ap, subst, ◌∙◌, arith, option_map}
use Rattle.std.specs.Prelude.{ℤ, ◌<ℤ◌}
use Rattle.std.specs.Ordering.{nat_cmp}
use Rattle.std.specs.FinMap.{FinMap, get}
use Rattle.share_model.specs.declared.stride.Client.{Client}
use Rattle.share_model.specs.stride.Moves.{Precedes, IsNext}
use Rattle.share_stride.specs.declared.seating.HeapEntry.{HeapEntry}
use Rattle.share_stride.specs.declared.table.ClientSlot.{ClientSlot}
use Rattle.share_stride.specs.Heap.{Standings, standing_under, IsFirstStanding}
use Rattle.share_stride.specs.Table.{Slots, client_map, slot_at, entry_of, entry_in, AreDistinct, IsRanked, Clients}
use Rattle.share_stride.proofs.TableLemmas.{client_of_slot, slot_of_client}
use Rattle.share_stride.proofs.RankLemmas.{entry_of-competes, entry_of-idle}
use Rattle.share_stride.proofs.ClientKeyLemmas.{clients_of}

precedes_other : (p q : ℤ) (f g : ℕ) → g ≢ f → (p <ℤ q) ⊎ ((p ≡ q) × (f ≤ g)) → Precedes p f q g
precedes_other p q f g apart (inl less) = inl less
precedes_other p q f g apart (inr tie) = inr (tie.0, omega (arith, tie.1, apart))

-- the slot of an entry, whose client competes with that pass and flow
record StandsInHeap (slots : Slots) (entry : HeapEntry) : Type 0 where
  slot : ClientSlot
  found : slot_at slots entry.key ≡ Some slot
  competing : IsTrue slot.client.competes
  pass_is : slot.client.pass ≡ entry.pass
  flow_is : slot.flow ≡ entry.flow

competes_of : (slots : Slots) (entry : HeapEntry) (slot : ClientSlot) (b : Bool) → slot.client.competes ≡ b
    → slot_at slots entry.key ≡ Some slot → entry_of entry.key slot ≡ Some entry → StandsInHeap slots entry
competes_of slots entry slot true is at made =
    let whole = entry_of-competes entry.key slot is in
    let same : Some (record { pass = slot.client.pass; flow = slot.flow; key = entry.key }) ≡ Some entry =
    sym whole ∙ made in
    record { slot = slot; found = at; competing = is; pass_is = cc; flow_is = cc }
competes_of slots entry slot false is at made = let none = entry_of-idle entry.key slot is in absurd (cc)

stands_of : (slots : Slots) (standings : Standings) (entry : HeapEntry) → IsRanked slots standings
    → standing_under standings entry.key ≡ Some entry → StandsInHeap slots entry
stands_of slots standings entry ranked stands =
    elim (slot_at slots entry.key) as (λ o. slot_at slots entry.key ≡ o → entry_in entry.key o ≡ Some entry
    → StandsInHeap slots entry) [
      | None ↦ λ _ none. absurd (cc)
      | Some slot ↦ λ at made. competes_of slots entry slot slot.client.competes refl at made
    ] refl (sym (ranked.entry_is entry.key) ∙ stands)

-- the entry under the key of a client that competes
standing_of_client : (slots : Slots) (standings : Standings) (key : ℕ) (slot : ClientSlot) → IsRanked slots standings
    → slot_at slots key ≡ Some slot → IsTrue slot.client.competes
    → standing_under standings key ≡ Some (record { pass = slot.client.pass; flow = slot.flow; key = key })
standing_of_client slots standings key slot ranked at competes =
    ranked.entry_is key ∙ ap (entry_in key) at ∙ entry_of-competes key slot competes

pub IsNext-first : (slots : Slots) (standings : Standings) (first : Option HeapEntry) → AreDistinct slots
    → IsRanked slots standings → IsFirstStanding standings first
    → IsNext (client_map slots) (option_map (λ entry. entry.flow) first)
IsNext-first slots standings None distinct ranked none = λ g d competes.
    let s = slot_of_client slots g d competes.found in
    let there =
    standing_of_client slots standings s.key s.slot ranked s.found
    (subst (λ (c : Client). IsTrue c.competes) (sym s.client_is) competes.competing) in
    let nothing = none s.key in
    absurd (cc)
IsNext-first slots standings (Some entry) distinct ranked is =
    let own = stands_of slots standings entry ranked is.stands in
    let flow_is = own.flow_is in
    record {
      chosen = own.slot.client;
      competes = record {
        found = ap (get (client_map slots)) (sym flow_is) ∙ client_of_slot slots distinct entry.key own.slot own.found;
        competing = own.competing;
      };
      least = λ g d competes apart.
          let s = slot_of_client slots g d competes.found in
          let there =
          standing_of_client slots standings s.key s.slot ranked s.found
          (subst (λ (c : Client). IsTrue c.competes) (sym s.client_is) competes.competing) in
          let no_later = is.first s.key _ there in
          let precedes = precedes_other entry.pass s.slot.client.pass entry.flow s.slot.flow
          (λ e. apart (sym s.flow_is ∙ e)) no_later in
          subst (λ p. Precedes p entry.flow d.pass g) (sym own.pass_is)
          (subst (λ (h : ℕ). Precedes entry.pass entry.flow d.pass h) s.flow_is
          (subst (λ (c : Client). Precedes entry.pass entry.flow c.pass s.slot.flow) s.client_is precedes));
    }

pub IsNext-view : (slots : Slots) (standings : Standings) (now : Clients) (first : Option HeapEntry)
    {keys : FinMap nat_cmp ℕ}
    → AreDistinct slots → IsRanked slots standings → clients_of slots keys ≡ now → IsFirstStanding standings first
    → IsNext now.by_flow (option_map (λ entry. entry.flow) first)
IsNext-view slots standings now first distinct ranked view is =
    subst (λ (c : Clients). IsNext c.by_flow (option_map (λ entry. entry.flow) first)) view
    (IsNext-first slots standings first distinct ranked is)
