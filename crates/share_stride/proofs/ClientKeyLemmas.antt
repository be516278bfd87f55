-- A table as its caller sees it, and the client of a key.
use Rattle.std.proofs.Common.{◌≡◌, ℕ, ◌<◌, set, length, Option, None, Some, is_some}
use Rattle.std.proofs.Common.{IsSome, false}
use Rattle.std.proofs.Common.{unwrap_or, inl, inr, refl, sym, ap, subst, ◌∙◌, arith}
use Rattle.std.proofs.lemmas.Bool.{cases_eq}
use Rattle.std.proofs.lemmas.List.{get_or-set_same, get_or-set_other, get_or_past, length-set}
use Rattle.std.specs.Ordering.{nat_cmp}
use Rattle.std.specs.FinMap.{FinMap, get, insert, len}
use Rattle.slab.specs.Slab.{Slab}
use Rattle.share_model.specs.declared.stride.Client.{Client}
use Rattle.share_model.proofs.lemmas.stride.MapLemmas.{len-insert_found}
use Rattle.share_model.specs.stride.Moves.{new_client}
use Rattle.share_stride.specs.declared.table.ClientSlot.{ClientSlot}
use Rattle.share_stride.specs.declared.table.ClientKey.{ClientKey}
use Rattle.share_stride.specs.Table.{Slots, client_map, slot_at, HoldsFlow, flow_under}
use Rattle.share_stride.specs.Table.{IsIndexed, IsWellFormed, Clients, IsClientKeyIn, client_at, with_client_at}
use Rattle.share_stride.specs.Table.{entry_of, entry_in}
use Rattle.share_stride.specs.Heap.{Standings, standing_under}
use Rattle.share_stride.proofs.TableLemmas.{ChangesSlot, client_map-write, client_of_slot, only_where_held}
use Rattle.share_stride.proofs.KeyLemmas.{IsIndexed-same, absent_without_key, distinct, flow_of_slot}
use Rattle.share_stride.proofs.KeyLemmas.{flow_under_changed, flow_under_other, key_holds}
use Rattle.share_stride.proofs.RankLemmas.{IsRanked-written, entry_of-idle, is_some-entry_of, key_fits-written}

-- the view of the slots and the keys
abbrev pub clients_of : Slots → FinMap nat_cmp ℕ → Clients
clients_of slots keys = record { by_flow = client_map slots; keys = keys }

module _ (slots : Slots) (keys : FinMap nat_cmp ℕ) (now : Clients) (indexed : IsIndexed slots keys)
    (view : clients_of slots keys ≡ now) (client_key : ClientKey) (is_in : IsClientKeyIn now client_key) where
  place_holds : HoldsFlow slots client_key.flow client_key.key
  place_holds =
      key_holds slots keys client_key.flow client_key.key indexed
      (ap (λ (c : Clients). get c.keys client_key.flow) view ∙ is_in)

  pub place_filled : None ≡ slot_at slots client_key.key → ⊥
  place_filled none = let found = place_holds.found in absurd (cc)

  module _ (was : ClientSlot) (at : Some was ≡ slot_at slots client_key.key) where
    place_flow : was.flow ≡ client_key.flow
    place_flow =
        let is : Some was ≡ Some place_holds.slot = at ∙ place_holds.found in
        let flow_is : was.flow ≡ place_holds.slot.flow = cc in
        flow_is ∙ place_holds.has

    pub client_found : Some was.client ≡ get now.by_flow client_key.flow
    client_found =
        sym (client_of_slot slots (distinct slots keys indexed) client_key.key was (sym at))
        ∙ ap (get (client_map slots)) place_flow
        ∙ ap (λ (c : Clients). get c.by_flow client_key.flow) view

    pub client_is_at : was.client ≡ client_at now client_key
    client_is_at = ap (λ o. unwrap_or o new_client) client_found

    -- a client that is written in its slot
    module _ (client : Client) where
      changes : ChangesSlot slots (set slots client_key.key (Some (record { flow = was.flow; client = client })))
          client_key.key
          (Some (record { flow = was.flow; client = client }))
      changes =
          let within : client_key.key < length slots = let there = sym at in grind (arith, get_or_past) in
          record {
            changed = get_or-set_same slots client_key.key (Some (record { flow = was.flow; client = client })) None
                within;
            others = λ other differs. get_or-set_other slots client_key.key other
                (Some (record { flow = was.flow; client = client })) None differs;
          }

      pub indexed_written
          : IsIndexed (set slots client_key.key (Some (record { flow = was.flow; client = client }))) keys
      indexed_written =
          IsIndexed-same slots _ keys (λ key.
          elim (cases_eq key client_key.key) [
            | inl same ↦
                ap (flow_under (set slots client_key.key (Some (record { flow = was.flow; client = client })))) same
                ∙ flow_under_changed slots _ client_key.key (Some (record { flow = was.flow; client = client })) changes
                ∙ sym (flow_of_slot slots client_key.key was (sym at))
                ∙ ap (flow_under slots) (sym same)
            | inr apart ↦
                flow_under_other slots _ client_key.key (Some (record { flow = was.flow; client = client })) changes key
                apart
          ]) indexed

      map_written : client_map (set slots client_key.key (Some (record { flow = was.flow; client = client })))
          ≡ insert (client_map slots) client_key.flow client
      map_written =
          let apart = distinct slots keys indexed in
          client_map-write slots _ client_key.key (record { flow = was.flow; client = client }) apart
          (rw place_flow (only_where_held slots client_key.flow client_key.key apart place_holds))
          (λ s s_at. let is : Some s ≡ Some was = sym s_at ∙ sym at in cc) changes
          ∙ ap (λ f. insert (client_map slots) f client) place_flow

      pub count_written : len keys ≡ len (client_map slots)
          → len keys ≡ len (client_map (set slots client_key.key (Some (record { flow = was.flow; client = client }))))
      count_written count =
          count
          ∙ sym (len-insert_found (client_map slots) client_key.flow was.client client
          (sym (client_found ∙ ap (λ (c : Clients). get c.by_flow client_key.flow) (sym view))))
          ∙ ap len (sym map_written)

      pub view_written : clients_of (set slots client_key.key (Some (record { flow = was.flow; client = client }))) keys
          ≡ with_client_at now client_key client
      view_written =
          ap (λ m. record { by_flow = m; keys = keys }) map_written
          ∙ ap (λ (c : Clients). with_client_at c client_key client) view

-- a flow that has no key has no client, as its caller sees it
pub absent_in_view : (slots : Slots) (keys : FinMap nat_cmp ℕ) (now : Clients) (flow : ℕ) → IsIndexed slots keys
    → clients_of slots keys ≡ now → None ≡ get keys flow → IsSome (get now.by_flow flow) → ⊥
absent_in_view slots keys now flow indexed view none there =
    let absent : get now.by_flow flow ≡ None =
    sym (ap (λ (c : Clients). get c.by_flow flow) view) ∙ absent_without_key slots keys flow indexed (sym none) in
    let nothing : IsSome {T = Client} None = subst (λ (o : Option Client). IsSome o) absent there in
    cc

pub there_in_view : (slots : Slots) (keys : FinMap nat_cmp ℕ) (now : Clients) (flow key : ℕ) → IsIndexed slots keys
    → clients_of slots keys ≡ now → Some key ≡ get keys flow → IsSome (get now.by_flow flow)
there_in_view slots keys now flow key indexed view found =
    let holds = key_holds slots keys flow key indexed (sym found) in
    let here = client_of_slot slots (distinct slots keys indexed) key holds.slot holds.found in
    subst (λ (o : Option Client). IsSome o)
    (sym (sym (ap (λ (c : Clients). get c.by_flow flow) view) ∙ ap (get (client_map slots)) (sym holds.has)
    ∙ here)) refl

-- a client is written in its slot, and the heap follows
module _ (slab : Slab ClientSlot) (keys : FinMap nat_cmp ℕ) (standings : Standings) (now : Clients)
    (well : IsWellFormed slab keys standings) (view : clients_of slab.slots keys ≡ now) (client_key : ClientKey)
    (is_in : IsClientKeyIn now client_key) (was : ClientSlot)
    (at : Some was ≡ slot_at slab.slots client_key.key) where
  pub place_fits : client_key.key < length standings
  place_fits =
      let wide = well.wide in
      let fits = well.key_fits client_key.key was (sym at) in
      omega arith

  stood : standing_under standings client_key.key ≡ entry_of client_key.key was
  stood = well.ranked.entry_is client_key.key ∙ ap (entry_in client_key.key) (sym at)

  competed : was.client.competes ≡ (client_at now client_key).competes
  competed =
      ap (λ (c : Client). c.competes) (client_is_at slab.slots keys now well.indexed view client_key is_in was at)

  pub stood_out : (client_at now client_key).competes ≡ false → standing_under standings client_key.key ≡ None
  stood_out idle = stood ∙ entry_of-idle client_key.key was (competed ∙ idle)

  pub stood_as : is_some (standing_under standings client_key.key) ≡ (client_at now client_key).competes
  stood_as = ap is_some stood ∙ is_some-entry_of client_key.key was ∙ competed

  pub IsWellFormed-written : (client : Client) (after : Standings)
      → after ≡ set standings client_key.key (entry_of client_key.key (record { flow = was.flow; client = client }))
      → IsWellFormed
      (record slab { slots = set slab.slots client_key.key (Some (record { flow = was.flow; client = client })) })
      keys after
  IsWellFormed-written client after is =
      let slot : ClientSlot = record { flow = was.flow; client = client } in
      let change = changes slab.slots keys now well.indexed view client_key is_in was at client in
      record {
        indexed = indexed_written slab.slots keys now well.indexed view client_key is_in was at client;
        count = count_written slab.slots keys now well.indexed view client_key is_in was at client well.count;
        room = well.room;
        ranked = IsRanked-written slab.slots _ client_key.key (Some slot) standings after place_fits well.ranked
            change is;
        wide = ap length is ∙ length-set standings client_key.key (entry_of client_key.key slot) ∙ well.wide;
        key_fits = key_fits-written slab.slots _ client_key.key slot slab.capacity slab.capacity well.key_fits
            change refl
            (well.key_fits client_key.key was (sym at));
      }
