-- The answers of the map of a table's slots, before and after a change of one slot.
use Rattle.std.proofs.Common.{◌≡◌, ◌≢◌, ℕ, zero, suc, [], ◌∷◌, Option, None, Some, is_some}
use Rattle.std.proofs.Common.{count_by, cond, inl, inr, refl, sym, ap, subst, ◌∙◌, arith}
use Rattle.std.proofs.lemmas.Bool.{cases_eq}
use Rattle.std.proofs.lemmas.List.Sums.{sum_by-cons}
use Rattle.std.specs.Ordering.{nat_cmp}
use Rattle.std.specs.Cmp.{nat_cmp_total}
use Rattle.std.specs.FinMap.{get, insert, remove, len, get-empty, len-empty, same_map}
use Rattle.std.specs.FinMap.{nat_cmp-IsAntisymmetric}
use Rattle.share_model.specs.declared.stride.Client.{Client}
use Rattle.share_model.proofs.lemmas.stride.MapLemmas.{get-insert_same, get-insert_other, get-remove_same}
use Rattle.share_model.proofs.lemmas.stride.MapLemmas.{get-remove_other}
use Rattle.share_model.proofs.lemmas.stride.MapLemmas.{len-insert_new}
use Rattle.share_stride.specs.declared.table.ClientSlot.{ClientSlot}
use Rattle.share_stride.specs.Table.{Slots, client_map, slot_at, AreDistinct, HoldsFlow, LacksFlow}

AreDistinct-rest : (head : Option ClientSlot) (rest : Slots) → AreDistinct (head ∷ rest) → AreDistinct rest
AreDistinct-rest head rest distinct = record {
  same_key = λ i j a b at_i at_j same. let e = distinct.same_key (suc i) (suc j) a b at_i at_j same in omega arith;
}

-- the client in a slot is the one that the map has for its flow
pub client_of_slot : (slots : Slots) → AreDistinct slots → (key : ℕ) (slot : ClientSlot) → slot_at slots key ≡ Some slot
    → get (client_map slots) slot.flow ≡ Some slot.client
client_of_slot [] distinct key slot at = absurd (cc)
client_of_slot (None ∷ rest) distinct zero slot at = absurd (cc)
client_of_slot (None ∷ rest) distinct (suc key) slot at =
    client_of_slot rest (AreDistinct-rest None rest distinct) key slot at
client_of_slot (Some a ∷ rest) distinct zero slot at =
    let same : a ≡ slot = cc in
    subst (λ (s : ClientSlot). get (insert (client_map rest) a.flow a.client) s.flow ≡ Some s.client) same
    (get-insert_same (client_map rest) a.flow a.client)
client_of_slot (Some a ∷ rest) distinct (suc key) slot at =
    get-insert_other (client_map rest) a.flow a.client slot.flow
    (λ e. let zero_is = distinct.same_key (suc key) 0 slot a at refl e in omega arith)
    ∙ client_of_slot rest (AreDistinct-rest (Some a) rest distinct) key slot at

-- a slot has this client under this flow
pub record SlotFor (slots : Slots) (flow : ℕ) (client : Client) : Type 0 where
  pub key : ℕ
  pub slot : ClientSlot
  pub found : slot_at slots key ≡ Some slot
  pub flow_is : slot.flow ≡ flow
  pub client_is : slot.client ≡ client

SlotFor-cons : (head : Option ClientSlot) (rest : Slots) (flow : ℕ) (client : Client) → SlotFor rest flow client
    → SlotFor (head ∷ rest) flow client
SlotFor-cons head rest flow client s =
    record { key = suc s.key; slot = s.slot; found = s.found; flow_is = s.flow_is; client_is = s.client_is }

pub slot_of_client : (slots : Slots) (flow : ℕ) (client : Client) → get (client_map slots) flow ≡ Some client
    → SlotFor slots flow client
slot_of_client [] flow client found = let absent = get-empty {X = Client} nat_cmp flow in absurd (cc)
slot_of_client (None ∷ rest) flow client found =
    SlotFor-cons None rest flow client (slot_of_client rest flow client found)
slot_of_client (Some a ∷ rest) flow client found =
    elim (cases_eq flow a.flow) [
      | inl same ↦
          let here = get-insert_same (client_map rest) a.flow a.client in
          let there = ap (get (insert (client_map rest) a.flow a.client)) same in
          record { key = 0; slot = a; found = refl; flow_is = sym same; client_is = cc }
      | inr apart ↦
          SlotFor-cons (Some a) rest flow client
          (slot_of_client rest flow client
          (sym (get-insert_other (client_map rest) a.flow a.client flow apart) ∙ found))
    ]

-- a flow that no slot has is not in the map
pub absent_of_lack : (slots : Slots) (flow : ℕ) → LacksFlow slots flow → get (client_map slots) flow ≡ None
absent_of_lack slots flow lacks =
    elim (get (client_map slots) flow) as (λ o. get (client_map slots) flow ≡ o → o ≡ None) [
      | None ↦ λ _. refl
      | Some c ↦ λ found. let s = slot_of_client slots flow c found in
          absurd (lacks.none s.key s.slot s.found s.flow_is)
    ] refl

-- and one that the map does not have has no slot
pub lack_of_absent : (slots : Slots) (flow : ℕ) → AreDistinct slots → get (client_map slots) flow ≡ None
    → LacksFlow slots flow
lack_of_absent slots flow distinct absent = record {
  none = λ key slot found same. let there = client_of_slot slots distinct key slot found in
      let here = ap (get (client_map slots)) same in absurd (cc);
}

-- slots that agree on a flow give it one client
agree : (xs ys : Slots) (flow : ℕ) → AreDistinct xs → AreDistinct ys
    → ((key : ℕ) (slot : ClientSlot) → slot_at xs key ≡ Some slot → slot.flow ≡ flow → slot_at ys key ≡ Some slot)
    → ((key : ℕ) (slot : ClientSlot) → slot_at ys key ≡ Some slot → slot.flow ≡ flow → slot_at xs key ≡ Some slot)
    → get (client_map xs) flow ≡ get (client_map ys) flow
agree xs ys flow distinct_xs distinct_ys to back =
    elim (get (client_map xs) flow) as (λ o. get (client_map xs) flow ≡ o → o ≡ get (client_map ys) flow) [
      | None ↦ λ absent. sym (absent_of_lack ys flow (record {
        none = λ key slot found same. (lack_of_absent xs flow distinct_xs absent).none key slot
            (back key slot found same) same;
      }))
      | Some c ↦ λ found.
          let s = slot_of_client xs flow c found in
          let there = client_of_slot ys distinct_ys s.key s.slot (to s.key s.slot s.found s.flow_is) in
          let here = ap (get (client_map ys)) s.flow_is in
          let is = s.client_is in
          cc
    ] refl

-- one slot is new, and each other one is as it was
pub record ChangesSlot (old new : Slots) (key : ℕ) (slot : Option ClientSlot) : Type 0 where
  pub changed : slot_at new key ≡ slot
  pub others : (other : ℕ) → other ≢ key → slot_at new other ≡ slot_at old other

-- no slot but this one has the flow
pub record IsOnlyAt (slots : Slots) (flow key : ℕ) : Type 0 where
  pub only : (k : ℕ) (slot : ClientSlot) → slot_at slots k ≡ Some slot → slot.flow ≡ flow → k ≡ key

pub only_where_held : (slots : Slots) (flow key : ℕ) → AreDistinct slots → HoldsFlow slots flow key
    → IsOnlyAt slots flow key
only_where_held slots flow key distinct holds = record {
  only = λ k slot found same. distinct.same_key k key slot holds.slot found holds.found (same ∙ sym holds.has);
}

pub only_where_lacking : (slots : Slots) (flow key : ℕ) → LacksFlow slots flow → IsOnlyAt slots flow key
only_where_lacking slots flow key lacks = record { only = λ k slot found same. absurd (lacks.none k slot found same) }

-- a flow that is written where it was, or in a new slot, still has one slot
pub AreDistinct-write : (old new : Slots) (key : ℕ) (slot : ClientSlot) → AreDistinct old → IsOnlyAt old slot.flow key
    → ChangesSlot old new key (Some slot) → AreDistinct new
AreDistinct-write old new key slot distinct only changes = record {
  same_key = λ i j a b at_i at_j same.
      elim (cases_eq i key) [
        | inl i_is ↦
            elim (cases_eq j key) [
              | inl j_is ↦ i_is ∙ sym j_is
              | inr j_apart ↦
                  let a_is : Some a ≡ Some slot = sym at_i ∙ ap (slot_at new) i_is ∙ changes.changed in
                  let was = sym (changes.others j j_apart) ∙ at_j in
                  let flow_is : b.flow ≡ slot.flow = cc in
                  absurd (j_apart (only.only j b was flow_is))
            ]
        | inr i_apart ↦
            let was = sym (changes.others i i_apart) ∙ at_i in
            elim (cases_eq j key) [
              | inl j_is ↦
                  let b_is : Some b ≡ Some slot = sym at_j ∙ ap (slot_at new) j_is ∙ changes.changed in
                  let flow_is : a.flow ≡ slot.flow = cc in
                  absurd (i_apart (only.only i a was flow_is))
              | inr j_apart ↦ distinct.same_key i j a b was (sym (changes.others j j_apart) ∙ at_j) same
            ]
      ];
}

pub AreDistinct-removal : (old new : Slots) (key : ℕ) → AreDistinct old → ChangesSlot old new key None → AreDistinct new
AreDistinct-removal old new key distinct changes = record {
  same_key = λ i j a b at_i at_j same. distinct.same_key i j a b (kept i a at_i) (kept j b at_j) same;
}
  where
    kept : (k : ℕ) (slot : ClientSlot) → slot_at new k ≡ Some slot → slot_at old k ≡ Some slot
    kept k slot at =
        elim (cases_eq k key) [
          | inl is ↦ let gone = ap (slot_at new) is in let none = changes.changed in absurd (cc)
          | inr apart ↦ sym (changes.others k apart) ∙ at
        ]

-- to write a client is to insert it in the map
pub client_map-write : (old new : Slots) (key : ℕ) (slot : ClientSlot) → AreDistinct old → IsOnlyAt old slot.flow key
    → ((was : ClientSlot) → slot_at old key ≡ Some was → was.flow ≡ slot.flow) → ChangesSlot old new key (Some slot)
    → client_map new ≡ insert (client_map old) slot.flow slot.client
client_map-write old new key slot distinct only stood changes =
    let distinct_new = AreDistinct-write old new key slot distinct only changes in
    same_map nat_cmp_total nat_cmp-IsAntisymmetric _ _ (λ flow.
    elim (cases_eq flow slot.flow) [
      | inl same ↦
          ap (get (client_map new)) same
          ∙ client_of_slot new distinct_new key slot changes.changed
          ∙ sym (get-insert_same (client_map old) slot.flow slot.client)
          ∙ ap (get (insert (client_map old) slot.flow slot.client)) (sym same)
      | inr apart ↦
          agree new old flow distinct_new distinct (to flow apart) (back flow apart)
          ∙ sym (get-insert_other (client_map old) slot.flow slot.client flow apart)
    ])
  where
    to : (flow : ℕ) → flow ≢ slot.flow → (k : ℕ) (s : ClientSlot) → slot_at new k ≡ Some s → s.flow ≡ flow
        → slot_at old k ≡ Some s
    to flow apart k s at same =
        elim (cases_eq k key) [
          | inl is ↦
              let s_is : Some s ≡ Some slot = sym at ∙ ap (slot_at new) is ∙ changes.changed in
              let flow_is : flow ≡ slot.flow = cc in
              absurd (apart flow_is)
          | inr differs ↦ sym (changes.others k differs) ∙ at
        ]

    back : (flow : ℕ) → flow ≢ slot.flow → (k : ℕ) (s : ClientSlot) → slot_at old k ≡ Some s → s.flow ≡ flow
        → slot_at new k ≡ Some s
    back flow apart k s at same =
        elim (cases_eq k key) [
          | inl is ↦ absurd (apart (sym same ∙ stood s (sym (ap (slot_at old) is) ∙ at)))
          | inr differs ↦ changes.others k differs ∙ at
        ]

-- to remove a slot is to remove its flow from the map
pub client_map-removal : (old new : Slots) (flow key : ℕ) → AreDistinct old → HoldsFlow old flow key
    → ChangesSlot old new key None → client_map new ≡ remove (client_map old) flow
client_map-removal old new flow key distinct holds changes =
    let distinct_new = AreDistinct-removal old new key distinct changes in
    same_map nat_cmp_total nat_cmp-IsAntisymmetric _ _ (λ q.
    elim (cases_eq q flow) [
      | inl same ↦
          ap (get (client_map new)) same
          ∙ absent_of_lack new flow lacking
          ∙ sym (get-remove_same (client_map old) flow)
          ∙ ap (get (remove (client_map old) flow)) (sym same)
      | inr apart ↦
          agree new old q distinct_new distinct (λ k s at _. kept k s at) (back q apart)
          ∙ sym (get-remove_other (client_map old) flow q apart)
    ])
  where
    not_there : (k : ℕ) (s : ClientSlot) → slot_at new k ≡ Some s → k ≢ key
    not_there k s at is = let gone = ap (slot_at new) is in let none = changes.changed in absurd (cc)

    kept : (k : ℕ) (s : ClientSlot) → slot_at new k ≡ Some s → slot_at old k ≡ Some s
    kept k s at = sym (changes.others k (not_there k s at)) ∙ at

    lacking : LacksFlow new flow
    lacking =
        record {
          none = λ k s at same. not_there k s at
              ((only_where_held old flow key distinct holds).only k s (kept k s at) same);
        }

    back : (q : ℕ) → q ≢ flow → (k : ℕ) (s : ClientSlot) → slot_at old k ≡ Some s → s.flow ≡ q → slot_at new k ≡ Some s
    back q apart k s at same =
        elim (cases_eq k key) [
          | inl is ↦
              let s_is : Some s ≡ Some holds.slot = sym at ∙ ap (slot_at old) is ∙ holds.found in
              let has = holds.has in
              let flow_is : q ≡ flow = cc in
              absurd (apart flow_is)
          | inr differs ↦ changes.others k differs ∙ at
        ]

-- the map has as many clients as there are slots with one
pub len-client_map : (slots : Slots) → AreDistinct slots → len (client_map slots) ≡ count_by is_some slots
len-client_map [] distinct = len-empty nat_cmp Client
len-client_map (None ∷ rest) distinct =
    len-client_map rest (AreDistinct-rest None rest distinct)
len-client_map (Some a ∷ rest) distinct =
    let absent = absent_of_lack rest a.flow
    (record { none = λ k s at same. let e = distinct.same_key (suc k) 0 s a at refl same in omega arith }) in
    omega (
      arith,
      len-insert_new (client_map rest) a.flow a.client absent,
      len-client_map rest (AreDistinct-rest (Some a) rest distinct),
      sum_by-cons (λ o. cond (is_some o) 1 0) (Some a) rest,
    )
