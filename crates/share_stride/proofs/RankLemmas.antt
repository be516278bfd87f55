-- The entries of the heap for the clients of a table.
use Rattle.std.proofs.Common.{◌≡◌, ℕ, ◌<◌, [], set, length, Option, None, Some, is_some}
use Rattle.std.proofs.Common.{◌≤◌, Bool, true, false, replicate}
use Rattle.std.proofs.Common.{inl, inr, refl, sym, ap, subst, ◌∙◌, arith}
use Rattle.std.proofs.lemmas.Bool.{cases_eq, cases_lt, cond-true, cond-false}
use Rattle.std.proofs.lemmas.List.{get_or-set_same, get_or-set_other, get_or_past}
use Rattle.std.proofs.lemmas.List.{length-replicate, get_or-replicate}
use Rattle.std.specs.Prelude.{FitsSigned}
use Rattle.std.proofs.lemmas.Int.{to_z-of_z}
use mir.Syntax.{w128}
use mir.Val.{to_z, of_z}
use Rattle.std.specs.Ordering.{nat_cmp}
use Rattle.std.specs.FinMap.{FinMap, empty, len, get-empty, len-empty}
use Rattle.slab.specs.Slab.{Slab}
use Rattle.share_model.specs.declared.stride.Client.{Client}
use Rattle.share_model.specs.stride.Moves.{after_charge}
use Rattle.share_stride.specs.declared.table.ClientSlot.{ClientSlot}
use Rattle.share_stride.specs.Table.{Slots, client_map, slot_at}
use Rattle.share_stride.specs.Table.{IsIndexed, IsWellFormed}
use Rattle.share_stride.specs.Table.{entry_of, entry_in, IsRanked}
use Rattle.share_stride.specs.declared.seating.HeapEntry.{HeapEntry}
use Rattle.share_stride.specs.Heap.{Standings, standing_under}
use Rattle.share_stride.proofs.TableLemmas.{ChangesSlot}

pub entry_of-competes : (key : ℕ) (slot : ClientSlot) → slot.client.competes ≡ true
    → entry_of key slot ≡ Some (record { pass = slot.client.pass; flow = slot.flow; key = key })
entry_of-competes key slot competes = cond-true _ _ _ competes

-- the same as the code reads the pass
pub entry_of-read : (key : ℕ) (slot : ClientSlot) → slot.client.competes ≡ true → FitsSigned w128 slot.client.pass
    → entry_of key slot
    ≡ Some (record { pass = to_z w128 (of_z w128 slot.client.pass); flow = slot.flow; key = key })
entry_of-read key slot competes fits =
    entry_of-competes key slot competes
    ∙ ap (λ p. Some (record { pass = p; flow = slot.flow; key = key })) (sym (to_z-of_z w128 slot.client.pass fits))

pub entry_of-idle : (key : ℕ) (slot : ClientSlot) → slot.client.competes ≡ false → entry_of key slot ≡ None
entry_of-idle key slot idle = cond-false _ _ _ idle

pub is_some-entry_of : (key : ℕ) (slot : ClientSlot) → is_some (entry_of key slot) ≡ slot.client.competes
is_some-entry_of key slot = by_case slot.client.competes refl
  where
    by_case : (b : Bool) → slot.client.competes ≡ b → is_some (entry_of key slot) ≡ b
    by_case true is = ap is_some (entry_of-competes key slot is)
    by_case false is = ap is_some (entry_of-idle key slot is)

-- a charge lets a client compete as it did
pub after_charge-competes : (client : Client) (units : ℕ) → (after_charge client units).competes ≡ client.competes
after_charge-competes client units = by_case client.competes refl
  where
    by_case : (b : Bool) → client.competes ≡ b → (after_charge client units).competes ≡ b
    by_case true is = rw is refl
    by_case false is = rw is refl

-- a slot is written, and under its key stands what its client asks for
pub IsRanked-written : (old new : Slots) (key : ℕ) (slot : Option ClientSlot) (standings after : Standings)
    → key < length standings → IsRanked old standings → ChangesSlot old new key slot
    → after ≡ set standings key (entry_in key slot) → IsRanked new after
IsRanked-written old new key slot standings after fits ranked changes is = record {
  entry_is = λ k. elim (cases_eq k key) [
    | inl same ↦
        let here : standing_under after key ≡ entry_in key (slot_at new key) =
        ap (λ (s : Standings). standing_under s key) is
        ∙ get_or-set_same standings key (entry_in key slot) None fits
        ∙ ap (entry_in key) (sym changes.changed) in
        subst (λ (i : ℕ). standing_under after i ≡ entry_in i (slot_at new i)) (sym same) here
    | inr apart ↦
        ap (λ (s : Standings). standing_under s k) is
        ∙ get_or-set_other standings key k (entry_in key slot) None apart
        ∙ ranked.entry_is k
        ∙ ap (entry_in k) (sym (changes.others k apart))
  ];
}

-- a change of a slot that asks for nothing before and after
pub IsRanked-idle : (old new : Slots) (key : ℕ) (slot : Option ClientSlot) (standings : Standings)
    → IsRanked old standings
    → ChangesSlot old new key slot → entry_in key (slot_at old key) ≡ None → entry_in key slot ≡ None
    → IsRanked new standings
IsRanked-idle old new key slot standings ranked changes was is = record {
  entry_is = λ k. elim (cases_eq k key) [
    | inl same ↦
        let here : standing_under standings key ≡ entry_in key (slot_at new key) =
        ranked.entry_is key ∙ was ∙ sym is ∙ ap (entry_in key) (sym changes.changed) in
        subst (λ (i : ℕ). standing_under standings i ≡ entry_in i (slot_at new i)) (sym same) here
    | inr apart ↦ ranked.entry_is k ∙ ap (entry_in k) (sym (changes.others k apart))
  ];
}

-- every key that has a slot is below a bound
abbrev pub FitKeys : Slots → ℕ → Type 0
FitKeys slots bound = (key : ℕ) (slot : ClientSlot) → slot_at slots key ≡ Some slot → key < bound

pub key_fits-written : (old new : Slots) (key : ℕ) (slot : ClientSlot) (was bound : ℕ) → FitKeys old was
    → ChangesSlot old new key (Some slot) → bound ≡ was → key < bound → FitKeys new bound
key_fits-written old new key slot was bound fits changes same lt k s found =
    elim (cases_eq k key) [
      | inl is ↦ omega arith
      | inr apart ↦ let below = fits k s (sym (changes.others k apart) ∙ found) in omega arith
    ]

pub key_fits-removed : (old new : Slots) (key was bound : ℕ) → FitKeys old was → ChangesSlot old new key None
    → bound ≡ was → FitKeys new bound
key_fits-removed old new key was bound fits changes same k s found =
    elim (cases_eq k key) [
      | inl is ↦ let gone = ap (slot_at new) is in let none = changes.changed in absurd (cc)
      | inr apart ↦ let below = fits k s (sym (changes.others k apart) ∙ found) in omega arith
    ]

pub IsWellFormed-new : (slab : Slab ClientSlot) (keys : FinMap nat_cmp ℕ) (standings : Standings) (wide : ℕ)
    → slab.slots ≡ [] → keys ≡ empty → 64 ≤ slab.capacity → wide ≡ slab.capacity → standings ≡ replicate wide None
    → IsWellFormed slab keys standings
IsWellFormed-new slab keys standings wide no_slots no_keys room all nothing = record {
  indexed = subst (λ (slots : Slots). IsIndexed slots keys) (sym no_slots)
      (subst (λ (k : FinMap nat_cmp ℕ). IsIndexed [] k) (sym no_keys) (record {
        key_is = λ flow key. (
          λ found. let none = get-empty {X = ℕ} nat_cmp flow in absurd (cc),
          λ under. absurd (cc),
        );
      }));
  count = ap len no_keys ∙ len-empty nat_cmp ℕ ∙ sym (len-empty nat_cmp Client)
      ∙ sym (ap (λ (slots : Slots). len (client_map slots)) no_slots);
  room = room;
  ranked = record {
    entry_is = λ key.
        ap (λ (s : Standings). standing_under s key) nothing
        ∙ (elim (cases_lt key wide) [
          | inl lt ↦ get_or-replicate wide key None None lt
          | inr le ↦
              let long = length-replicate {A = Option HeapEntry} wide None in
              get_or_past (replicate wide None) key None (omega arith)
        ])
        ∙ sym (ap (λ (slots : Slots). entry_in key (slot_at slots key)) no_slots);
  };
  wide = ap length nothing ∙ length-replicate {A = Option HeapEntry} wide None ∙ all;
  key_fits = λ key slot found. let gone = ap (λ (slots : Slots). slot_at slots key) no_slots in absurd (cc);
}
