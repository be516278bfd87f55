-- The keys of the flows, and the slots under them.
use Rattle.std.proofs.Common.{◌≡◌, ◌≢◌, ℕ, Option, None, Some}
use Rattle.std.proofs.Common.{option_map}
use Rattle.std.proofs.Common.{inl, inr, refl, sym, ap, ◌∙◌}
use Rattle.std.proofs.lemmas.Bool.{cases_eq}
use Rattle.std.specs.Ordering.{nat_cmp}
use Rattle.std.specs.FinMap.{FinMap, get, insert, remove}
use Rattle.share_model.proofs.lemmas.stride.MapLemmas.{get-insert_same, get-insert_other, get-remove_same}
use Rattle.share_model.proofs.lemmas.stride.MapLemmas.{get-remove_other}
use Rattle.share_stride.specs.declared.table.ClientSlot.{ClientSlot}
use Rattle.share_stride.specs.Table.{Slots, client_map, slot_at, AreDistinct, HoldsFlow, flow_under}
use Rattle.share_stride.specs.Table.{IsIndexed}
use Rattle.share_stride.proofs.TableLemmas.{ChangesSlot, absent_of_lack, client_map-write, lack_of_absent}
use Rattle.share_stride.proofs.TableLemmas.{only_where_lacking}

holds_under : (slots : Slots) (flow key : ℕ) → flow_under slots key ≡ Some flow → HoldsFlow slots flow key
holds_under slots flow key =
    elim (slot_at slots key) as (λ o. slot_at slots key ≡ o → option_map (λ (s : ClientSlot). s.flow) o ≡ Some flow
    → HoldsFlow slots flow key) [
      | None ↦ λ at none. absurd (cc)
      | Some slot ↦ λ at is. record { slot = slot; found = at; has = cc }
    ] refl

pub flow_of_slot : (slots : Slots) (key : ℕ) (slot : ClientSlot) → slot_at slots key ≡ Some slot
    → flow_under slots key ≡ Some slot.flow
flow_of_slot slots key slot at = ap (λ o. option_map (λ (s : ClientSlot). s.flow) o) at

pub key_holds : (slots : Slots) (keys : FinMap nat_cmp ℕ) (flow key : ℕ) → IsIndexed slots keys
    → get keys flow ≡ Some key → HoldsFlow slots flow key
key_holds slots keys flow key indexed found = holds_under slots flow key ((indexed.key_is flow key).0 found)

key_of_slot : (slots : Slots) (keys : FinMap nat_cmp ℕ) (key : ℕ) (slot : ClientSlot) → IsIndexed slots keys
    → slot_at slots key ≡ Some slot → get keys slot.flow ≡ Some key
key_of_slot slots keys key slot indexed at = (indexed.key_is slot.flow key).1 (flow_of_slot slots key slot at)

pub distinct : (slots : Slots) (keys : FinMap nat_cmp ℕ) → IsIndexed slots keys → AreDistinct slots
distinct slots keys indexed = record {
  same_key = λ i j a b at_i at_j same.
      let first = key_of_slot slots keys i a indexed at_i in
      let second = key_of_slot slots keys j b indexed at_j in
      let one = ap (get keys) same in
      cc;
}

-- a flow that has no key has no client
pub absent_without_key : (slots : Slots) (keys : FinMap nat_cmp ℕ) (flow : ℕ) → IsIndexed slots keys
    → get keys flow ≡ None → get (client_map slots) flow ≡ None
absent_without_key slots keys flow indexed none =
    absent_of_lack slots flow (record {
      none = λ key slot at same.
          let found = key_of_slot slots keys key slot indexed at in
          let here = ap (get keys) same in
          absurd (cc);
    })

-- nor has one that has no client a key
pub keyless_of_absent : (slots : Slots) (keys : FinMap nat_cmp ℕ) (flow : ℕ) → IsIndexed slots keys
    → get (client_map slots) flow ≡ None → get keys flow ≡ None
keyless_of_absent slots keys flow indexed absent =
    elim (get keys flow) as (λ o. get keys flow ≡ o → o ≡ None) [
      | None ↦ λ _. refl
      | Some key ↦ λ found.
          let holds = key_holds slots keys flow key indexed found in
          absurd ((lack_of_absent slots flow (distinct slots keys indexed) absent).none key holds.slot holds.found
          holds.has)
    ] refl

-- a change of one slot under which another flow, or none, comes to stand
pub flow_under_other : (old new : Slots) (key : ℕ) (slot : Option ClientSlot) → ChangesSlot old new key slot
    → (other : ℕ)
    → other ≢ key → flow_under new other ≡ flow_under old other
flow_under_other old new key slot changes other apart =
    ap (λ o. option_map (λ (s : ClientSlot). s.flow) o) (changes.others other apart)

pub flow_under_changed : (old new : Slots) (key : ℕ) (slot : Option ClientSlot) → ChangesSlot old new key slot
    → flow_under new key ≡ option_map (λ (s : ClientSlot). s.flow) slot
flow_under_changed old new key slot changes = ap (λ o. option_map (λ (s : ClientSlot). s.flow) o) changes.changed

pub IsIndexed-same : (old new : Slots) (keys : FinMap nat_cmp ℕ)
    → ((key : ℕ) → flow_under new key ≡ flow_under old key) → IsIndexed old keys → IsIndexed new keys
IsIndexed-same old new keys same indexed = record {
  key_is = λ flow key. (
    λ found. same key ∙ (indexed.key_is flow key).0 found,
    λ under. (indexed.key_is flow key).1 (sym (same key) ∙ under),
  );
}

pub IsIndexed-add : (old new : Slots) (keys : FinMap nat_cmp ℕ) (key : ℕ) (slot : ClientSlot) → IsIndexed old keys
    → slot_at old key ≡ None → get keys slot.flow ≡ None → ChangesSlot old new key (Some slot)
    → IsIndexed new (insert keys slot.flow key)
IsIndexed-add old new keys key slot indexed vacant keyless changes = record {
  key_is = λ flow k. (
    λ found.
        elim (cases_eq flow slot.flow) [
          | inl same ↦
              let here = get-insert_same keys slot.flow key in
              let there = ap (get (insert keys slot.flow key)) same in
              let k_is : k ≡ key = cc in
              ap (flow_under new) k_is ∙ flow_under_changed old new key (Some slot) changes ∙ ap Some (sym same)
          | inr apart ↦
              let under = (indexed.key_is flow k).0 (sym (get-insert_other keys slot.flow key flow apart) ∙ found) in
              let holds = holds_under old flow k under in
              flow_under_other old new key (Some slot) changes k
              (λ is. let there = ap (slot_at old) is in let occupied = holds.found in absurd (cc))
              ∙ under
        ],
    λ under.
        elim (cases_eq k key) [
          | inl same ↦
              let flow_is : Some flow ≡ Some slot.flow =
              sym under ∙ ap (flow_under new) same ∙ flow_under_changed old new key (Some slot) changes in
              let is : flow ≡ slot.flow = cc in
              ap (get (insert keys slot.flow key)) is ∙ get-insert_same keys slot.flow key ∙ ap Some (sym same)
          | inr apart ↦
              let found = (indexed.key_is flow k).1
              (sym (flow_under_other old new key (Some slot) changes k apart) ∙ under) in
              get-insert_other keys slot.flow key flow
              (λ is. let there = ap (get keys) is in absurd (cc))
              ∙ found
        ],
  );
}

pub IsIndexed-removal : (old new : Slots) (keys : FinMap nat_cmp ℕ) (flow key : ℕ) → IsIndexed old keys
    → get keys flow ≡ Some key → ChangesSlot old new key None → IsIndexed new (remove keys flow)
IsIndexed-removal old new keys flow key indexed stood changes = record {
  key_is = λ f k. (
    λ found.
        elim (cases_eq f flow) [
          | inl same ↦
              let gone = get-remove_same keys flow in
              let there = ap (get (remove keys flow)) same in
              absurd (cc)
          | inr apart ↦
              let was = sym (get-remove_other keys flow f apart) ∙ found in
              let under = (indexed.key_is f k).0 was in
              flow_under_other old new key None changes k
              (λ is. let one = ap (flow_under old) is in let other = (indexed.key_is flow key).0 stood in
              let f_is : f ≡ flow = cc in absurd (apart f_is))
              ∙ under
        ],
    λ under.
        elim (cases_eq k key) [
          | inl same ↦
              let gone = flow_under_changed old new key None changes in
              let there = ap (flow_under new) same in
              absurd (cc)
          | inr apart ↦
              let found = (indexed.key_is f k).1
              (sym (flow_under_other old new key None changes k apart) ∙ under) in
              get-remove_other keys flow f
              (λ is. let there = ap (get keys) is in let k_is : k ≡ key = cc in absurd (apart k_is))
              ∙ found
        ],
  );
}

-- a slot is filled that was empty, by a flow that has no client
pub client_map-add : (old new : Slots) (keys : FinMap nat_cmp ℕ) (key : ℕ) (slot : ClientSlot) → IsIndexed old keys
    → get (client_map old) slot.flow ≡ None → slot_at old key ≡ None → ChangesSlot old new key (Some slot)
    → client_map new ≡ insert (client_map old) slot.flow slot.client
client_map-add old new keys key slot indexed absent vacant changes =
    let apart = distinct old keys indexed in
    client_map-write old new key slot apart
    (only_where_lacking old slot.flow key (lack_of_absent old slot.flow apart absent)) (λ was at. absurd (cc)) changes
