-- The slots of a table: each holds a client with its flow number, or nothing.
use Rattle.std.specs.Prelude.{◌≡◌, ◌≢◌, ℕ, ◌<◌, ◌≤◌, List, [], ◌∷◌, length, Option, None, Some}
use Rattle.std.specs.Prelude.{slice_index_or, unwrap_or, option_map, ◌↔◌, if◌then◌else◌, refl}
use Rattle.std.specs.Ordering.{nat_cmp}
use Rattle.std.specs.FinMap as map
use Rattle.std.specs.FinMap.{FinMap, empty, get, insert, len}
use Rattle.std.specs.Coded.{Coded, code_by, coded×, coded_ℕ}
use Rattle.slab.specs.Slab.{Slab}
use Rattle.share_model.specs.declared.stride.Client.{Client}
use Rattle.share_model.specs.stride.Moves.{new_client, coded_client}
use Rattle.share_stride.specs.declared.table.ClientSlot.{ClientSlot}
use Rattle.share_stride.specs.declared.table.ClientKey.{ClientKey}
use Rattle.share_stride.specs.declared.table.TheConstants.{MAX_CLIENTS}
use Rattle.share_stride.specs.declared.seating.HeapEntry.{HeapEntry}
use Rattle.share_stride.specs.Heap.{Standings, standing_under}

abbrev pub Slots : Type 0
Slots = List (Option ClientSlot)

-- the clients by their flow numbers
abbrev pub client_map : Slots → FinMap nat_cmp Client
client_map [] = empty
client_map (None ∷ rest) = client_map rest
client_map (Some slot ∷ rest) = insert (client_map rest) slot.flow slot.client

-- the client of a flow, or one that never competed
abbrev pub client_of : FinMap nat_cmp Client → ℕ → Client
client_of clients flow = unwrap_or (get clients flow) new_client

-- the slot under a key
abbrev pub slot_at : Slots → ℕ → Option ClientSlot
slot_at slots key = slice_index_or slots key None

-- no flow has two slots
pub record AreDistinct (slots : Slots) : Type 0 where
  pub same_key : (i j : ℕ) (a b : ClientSlot) → slot_at slots i ≡ Some a → slot_at slots j ≡ Some b → a.flow ≡ b.flow
      → i ≡ j

-- the flow of the client under a key
abbrev pub flow_under : Slots → ℕ → Option ℕ
flow_under slots key = option_map (λ slot. slot.flow) (slot_at slots key)

-- the key of a flow is that of its client's slot
pub record IsIndexed (slots : Slots) (keys : FinMap nat_cmp ℕ) : Type 0 where
  pub key_is : (flow key : ℕ) → (get keys flow ≡ Some key) ↔ (flow_under slots key ≡ Some flow)

-- a client that competes is in the heap, with its pass, its flow and its key
abbrev pub entry_of : ℕ → ClientSlot → Option HeapEntry
entry_of key slot =
    if slot.client.competes then Some (record { pass = slot.client.pass; flow = slot.flow; key = key }) else None

abbrev pub entry_in : ℕ → Option ClientSlot → Option HeapEntry
entry_in key None = None
entry_in key (Some slot) = entry_of key slot

-- the heap has the entries of the clients that compete, and nothing else
pub record IsRanked (slots : Slots) (standings : Standings) : Type 0 where
  pub entry_is : (key : ℕ) → standing_under standings key ≡ entry_in key (slot_at slots key)

-- there are as many keys as clients; 64 clients fit without more memory; and the heap has room for each key
pub record IsWellFormed (slab : Slab ClientSlot) (keys : FinMap nat_cmp ℕ) (standings : Standings) : Type 0 where
  pub indexed : IsIndexed slab.slots keys
  pub count : len keys ≡ len (client_map slab.slots)
  pub room : MAX_CLIENTS ≤ slab.capacity
  pub ranked : IsRanked slab.slots standings
  pub wide : length standings ≡ slab.capacity
  pub key_fits : (key : ℕ) (slot : ClientSlot) → slot_at slab.slots key ≡ Some slot → key < slab.capacity

-- the clients by their flow numbers, and their keys
pub record Clients : Type 0 where
  pub by_flow : FinMap nat_cmp Client
  pub keys : FinMap nat_cmp ℕ

abbrev pub coded_clients : Coded Clients
coded_clients =
    code_by
    (FinMap nat_cmp Client × FinMap nat_cmp ℕ)
    (coded× (map.code coded_ℕ coded_client) (map.code coded_ℕ coded_ℕ))
    (λ c. (c.by_flow, c.keys))
    (λ p. record { by_flow = p.0; keys = p.1 })
    (λ _. refl)

abbrev pub no_clients : Clients
no_clients = record { by_flow = map.empty; keys = map.empty }

-- its key is that of its flow
abbrev pub IsClientKeyIn : Clients → ClientKey → Type 0
IsClientKeyIn clients client_key = get clients.keys client_key.flow ≡ Some client_key.key

-- the client of a key, or one that never competed
abbrev pub client_at : Clients → ClientKey → Client
client_at clients client_key = client_of clients.by_flow client_key.flow

-- the clients with this one at a key
abbrev pub with_client_at : Clients → ClientKey → Client → Clients
with_client_at clients client_key client = record clients { by_flow = insert clients.by_flow client_key.flow client }

-- the slot under this key has this flow
pub record HoldsFlow (slots : Slots) (flow key : ℕ) : Type 0 where
  pub slot : ClientSlot
  pub found : slot_at slots key ≡ Some slot
  pub has : slot.flow ≡ flow

-- no slot has this flow
pub record LacksFlow (slots : Slots) (flow : ℕ) : Type 0 where
  pub none : (key : ℕ) (slot : ClientSlot) → slot_at slots key ≡ Some slot → slot.flow ≢ flow
