-- The view of a heap in contracts: for each key its entry, or none.
use Rattle.std.specs.Prelude.{◌≡◌, ℕ, ◌≤◌, ℤ, List, length, map, Option, None, Some, slice_index_or, refl}
use Rattle.std.specs.Coded.{Coded, code_by, coded×, coded_ℕ, coded_ℤ, coded_list, coded_option}
use Rattle.share_stride.specs.declared.seating.HeapEntry.{HeapEntry}
use Rattle.share_stride.specs.Seating.{IsNoLater, IsOrdered, IsSeated, standing_at}

-- the entry of each key, if it has one
abbrev pub Standings : Type 0
Standings = List (Option HeapEntry)

abbrev pub coded_entry : Coded HeapEntry
coded_entry =
    code_by (ℤ × (ℕ × ℕ)) (coded× coded_ℤ (coded× coded_ℕ coded_ℕ)) (λ e. (e.pass, (e.flow, e.key)))
    (λ p. record { pass = p.0; flow = p.1.0; key = p.1.1 }) (λ _. refl)

abbrev pub coded_standings : Coded Standings
coded_standings = coded_list (coded_option coded_entry)

-- the entry of a key
abbrev pub standing_under : Standings → ℕ → Option HeapEntry
standing_under standings key = slice_index_or standings key None

-- the entries of a heap, given its count and the seats
abbrev pub standings_of : ℕ → List HeapEntry → List ℕ → Standings
standings_of count entries seats = map (standing_at count entries) seats

-- the entries of the heap are in order, and every key has its seat
pub record IsHeap (count : ℕ) (entries : List HeapEntry) (seats : List ℕ) : Type 0 where
  pub seated : IsSeated entries seats
  pub few : count ≤ length entries
  pub ordered : IsOrdered count entries

-- the entry is in the heap, and no other is before it
pub record IsFirstEntry (standings : Standings) (entry : HeapEntry) : Type 0 where
  pub stands : standing_under standings entry.key ≡ Some entry
  pub first : (key : ℕ) (other : HeapEntry) → standing_under standings key ≡ Some other → IsNoLater entry other

-- there is no first entry if and only if the heap is empty
abbrev pub IsFirstStanding : Standings → Option HeapEntry → Type 0
IsFirstStanding standings None = (key : ℕ) → standing_under standings key ≡ None
IsFirstStanding standings (Some entry) = IsFirstEntry standings entry
