-- The seats of a heap. Each key has a seat, and each seat the entry of a key. The first seats, as many as the heap
-- counts, are those of the heap; the entries in the others are not in it.
use Rattle.std.specs.Prelude.{◌≡◌, ◌≢◌, ℕ, ◌+◌, ◌*◌, ◌<◌, ◌≤◌, ltb, if◌then◌else◌, pos, ◌<ℤ◌, ◌⊎◌, ◌↔◌}
use Rattle.std.specs.Prelude.{List, length, Option, None, Some, slice_index_or}
use Rattle.share_model.specs.stride.Moves.{Precedes}
use Rattle.share_stride.specs.declared.seating.HeapEntry.{HeapEntry}

abbrev pub no_entry : HeapEntry
no_entry = record { pass = pos 0; flow = 0; key = 0 }

-- the entry of a seat
abbrev pub entry_in_seat : List HeapEntry → ℕ → HeapEntry
entry_in_seat entries seat = slice_index_or entries seat no_entry

-- the seat of a key
abbrev pub seat_of : List ℕ → ℕ → ℕ
seat_of seats key = slice_index_or seats key 0

-- ---- The order of a heap

abbrev pub IsBefore : HeapEntry → HeapEntry → Type 0
IsBefore a b = Precedes a.pass a.flow b.pass b.flow

-- a is before b, or both have the same pass and flow
abbrev pub IsNoLater : HeapEntry → HeapEntry → Type 0
IsNoLater a b = (a.pass <ℤ b.pass) ⊎ ((a.pass ≡ b.pass) × (a.flow ≤ b.flow))

-- the seat is one of the two right below the parent
pub record IsRightBelow (parent seat : ℕ) : Type 0 where
  pub from : parent * 2 + 1 ≤ seat
  pub to : seat ≤ parent * 2 + 2

-- no entry of the heap is later than one right below it
pub record IsOrdered (count : ℕ) (entries : List HeapEntry) : Type 0 where
  pub ordered : (parent seat : ℕ) → IsRightBelow parent seat → seat < count
      → IsNoLater (entry_in_seat entries parent) (entry_in_seat entries seat)

-- the same, but for one seat that is open: of seats other than it, and of the seat above it and those below it
pub record IsOpen (count : ℕ) (entries : List HeapEntry) (hole : ℕ) : Type 0 where
  pub in_heap : hole < count
  pub beside : (parent seat : ℕ) → IsRightBelow parent seat → seat < count → parent ≢ hole → seat ≢ hole
      → IsNoLater (entry_in_seat entries parent) (entry_in_seat entries seat)
  pub across : (parent seat : ℕ) → IsRightBelow parent hole → IsRightBelow hole seat → seat < count
      → IsNoLater (entry_in_seat entries parent) (entry_in_seat entries seat)

-- the entry is not before the one right above the open seat
pub record FitsAbove (entries : List HeapEntry) (hole : ℕ) (entry : HeapEntry) : Type 0 where
  pub above : (parent : ℕ) → IsRightBelow parent hole → IsNoLater (entry_in_seat entries parent) entry

-- no entry right below the open seat is before this one
pub record FitsBelow (count : ℕ) (entries : List HeapEntry) (hole : ℕ) (entry : HeapEntry) : Type 0 where
  pub below : (seat : ℕ) → IsRightBelow hole seat → seat < count → IsNoLater entry (entry_in_seat entries seat)

-- this entry is before the one right above the open seat
pub record RisesPast (entries : List HeapEntry) (hole : ℕ) (entry : HeapEntry) (from : ℕ) : Type 0 where
  pub above : IsRightBelow from hole
  pub before : IsBefore entry (entry_in_seat entries from)

-- no seat right below the open one has an entry before that of this one
pub record IsFirstBelow (count : ℕ) (entries : List HeapEntry) (hole from : ℕ) : Type 0 where
  pub below : IsRightBelow hole from
  pub in_heap : from < count
  pub first : (seat : ℕ) → IsRightBelow hole seat → seat < count
      → IsNoLater (entry_in_seat entries from) (entry_in_seat entries seat)

-- the first of the entries right below the open seat is before this entry
pub record SinksPast (count : ℕ) (entries : List HeapEntry) (hole : ℕ) (entry : HeapEntry) (from : ℕ) : Type 0 where
  pub first : IsFirstBelow count entries hole from
  pub before : IsBefore (entry_in_seat entries from) entry

-- ---- The seats

-- each key sits where its seat says
pub record IsSeated (entries : List HeapEntry) (seats : List ℕ) : Type 0 where
  pub as_many : length seats ≡ length entries
  pub key_fits : (seat : ℕ) → seat < length entries → (entry_in_seat entries seat).key < length entries
  pub seat_is : (seat : ℕ) → seat < length entries → seat_of seats (entry_in_seat entries seat).key ≡ seat
  pub seat_fits : (key : ℕ) → key < length entries → seat_of seats key < length entries
  pub key_is : (key : ℕ) → key < length entries → (entry_in_seat entries (seat_of seats key)).key ≡ key

-- the same, but for one key, whose seat is open
pub record IsLifted (entries : List HeapEntry) (seats : List ℕ) (hole key : ℕ) : Type 0 where
  pub as_many : length seats ≡ length entries
  pub hole_fits : hole < length entries
  pub lifted_fits : key < length entries
  pub key_fits : (seat : ℕ) → seat < length entries → seat ≢ hole → (entry_in_seat entries seat).key < length entries
  pub seat_is : (seat : ℕ) → seat < length entries → seat ≢ hole
      → seat_of seats (entry_in_seat entries seat).key ≡ seat
  pub other_key : (seat : ℕ) → seat < length entries → seat ≢ hole → (entry_in_seat entries seat).key ≢ key
  pub seat_fits : (k : ℕ) → k < length entries → k ≢ key → seat_of seats k < length entries
  pub other_seat : (k : ℕ) → k < length entries → k ≢ key → seat_of seats k ≢ hole
  pub key_is : (k : ℕ) → k < length entries → k ≢ key → (entry_in_seat entries (seat_of seats k)).key ≡ k

-- ---- The entries in the heap

-- the entry of a seat, if the seat is one of the heap
abbrev pub standing_at : ℕ → List HeapEntry → ℕ → Option HeapEntry
standing_at count entries seat = if ltb seat count then Some (entry_in_seat entries seat) else None

-- the entry of a key, if it is in the heap
abbrev pub standing_of : ℕ → List HeapEntry → List ℕ → ℕ → Option HeapEntry
standing_of count entries seats key = standing_at count entries (seat_of seats key)

-- the heap has the same entry as before, or none as before, for each key but one
pub record KeepsOthers (key old_count : ℕ) (old_entries : List HeapEntry) (old_seats : List ℕ) (count : ℕ)
    (entries : List HeapEntry) (seats : List ℕ) : Type 0 where
  pub as_many : length entries ≡ length old_entries
  pub kept : (k : ℕ) → k < length old_entries → k ≢ key
      → standing_of count entries seats k ≡ standing_of old_count old_entries old_seats k

-- the open seat has gone up, and if no entry below it was before this one, none is before it
pub record HoleRises (old_entries : List HeapEntry) (old_seats : List ℕ) (old_hole : ℕ) (entries : List HeapEntry)
    (seats : List ℕ)
    (hole : ℕ) (entry : HeapEntry) : Type 0 where
  pub lifted : IsLifted entries seats hole entry.key
  pub kept : (count : ℕ) → old_hole < count → KeepsOthers entry.key count old_entries old_seats count entries seats
  pub higher : hole ≤ old_hole
  pub is_open : (count : ℕ) → IsOpen count old_entries old_hole → FitsBelow count old_entries old_hole entry
      → IsOpen count entries hole × FitsBelow count entries hole entry

-- the open seat has gone down, and this entry is not before the one above it
pub record HoleSinks (count : ℕ) (old_entries : List HeapEntry) (old_seats : List ℕ) (entries : List HeapEntry)
    (seats : List ℕ)
    (hole : ℕ) (entry : HeapEntry) : Type 0 where
  pub lifted : IsLifted entries seats hole entry.key
  pub kept : KeepsOthers entry.key count old_entries old_seats count entries seats
  pub is_open : IsOpen count entries hole
  pub above : FitsAbove entries hole entry

-- the heap is in order and has this entry; for the other keys it has what it had
pub record Sifts (count : ℕ) (old_entries : List HeapEntry) (old_seats : List ℕ) (entries : List HeapEntry)
    (seats : List ℕ)
    (entry : HeapEntry) : Type 0 where
  pub seated : IsSeated entries seats
  pub ordered : IsOrdered count entries
  pub stands : standing_of count entries seats entry.key ≡ Some entry
  pub kept : KeepsOthers entry.key count old_entries old_seats count entries seats

-- for every key the heap has what it had
pub record KeepsAll (old_count : ℕ) (old_entries : List HeapEntry) (old_seats : List ℕ) (count : ℕ)
    (entries : List HeapEntry)
    (seats : List ℕ) : Type 0 where
  pub as_many : length entries ≡ length old_entries
  pub kept : (k : ℕ) → k < length old_entries
      → standing_of count entries seats k ≡ standing_of old_count old_entries old_seats k

-- the entries of two seats are exchanged. A heap that has both seats or neither has what it had for the other keys
pub record Swaps (old_entries : List HeapEntry) (old_seats : List ℕ) (entries : List HeapEntry) (seats : List ℕ)
    (a b : ℕ)
    : Type 0 where
  pub seated : IsSeated entries seats
  pub first : entry_in_seat entries a ≡ entry_in_seat old_entries b
  pub second : entry_in_seat entries b ≡ entry_in_seat old_entries a
  pub others : (i : ℕ) → i ≢ a → i ≢ b → entry_in_seat entries i ≡ entry_in_seat old_entries i
  pub kept : (count : ℕ) → ((a < count) ↔ (b < count))
      → KeepsOthers (entry_in_seat old_entries a).key count old_entries old_seats count entries seats

-- the heap is in order, and for every key it has what it had
pub record Resifts (count : ℕ) (old_entries : List HeapEntry) (old_seats : List ℕ) (entries : List HeapEntry)
    (seats : List ℕ)
    : Type 0 where
  pub seated : IsSeated entries seats
  pub ordered : IsOrdered count entries
  pub kept : KeepsAll count old_entries old_seats count entries seats
