-- The traffic of tenants in several books together.
use Rattle.std.specs.Prelude.{ℕ, ◌+◌, ◌-◌, ◌^◌, Bool, true, false, not, List, [], ◌∷◌, ◌++◌, filter, min, if◌then◌else◌}
use Rattle.std.specs.List.{position_or_len}
use Rattle.std.specs.Str.{bytes_eq}
use Rattle.share_bill.specs.declared.bill.running.TenantBill.{TenantBill}
use Rattle.share_bill.specs.declared.bill.total.Figures.{Figures}
use Rattle.share_bill.specs.declared.bill.total.TenantTotal.{TenantTotal}

-- a figure goes up to this
abbrev pub capped : ℕ → ℕ
capped n = min n (2 ^ 128 - 1)

abbrev pub no_figures : Figures
no_figures = record { packets = 0; bytes = 0; units = 0; amount = 0 }

abbrev pub plus : Figures → Figures → Figures
plus sent more = record {
  packets = capped (sent.packets + more.packets);
  bytes = capped (sent.bytes + more.bytes);
  units = capped (sent.units + more.units);
  amount = capped (sent.amount + more.amount);
}

abbrev pub plus_row : Figures → TenantBill → Figures
plus_row sent row = record {
  packets = capped (sent.packets + row.packets);
  bytes = capped (sent.bytes + row.bytes);
  units = capped (sent.units + row.units);
  amount = capped (sent.amount + row.amount);
}

-- Names

abbrev pub name_of : TenantTotal → List ℕ
name_of total = total.name

abbrev pub row_name : TenantBill → List ℕ
row_name row = row.name

abbrev pub is_other : List ℕ → List ℕ → Bool
is_other name other = not (bytes_eq other name)

-- each name once, where it first appears
abbrev pub each_once : List (List ℕ) → List (List ℕ)
each_once [] = []
each_once (name ∷ names) = name ∷ filter (is_other name) (each_once names)

abbrev pub has_name : List ℕ → List (List ℕ) → Bool
has_name name [] = false
has_name name (n ∷ ns) = if bytes_eq n name then true else has_name name ns

-- a name comes after the others, if it is not one of them
abbrev pub with_name : List (List ℕ) → List ℕ → List (List ℕ)
with_name names name = if has_name name names then names else names ++ name ∷ []

-- the place of the first entry of a name, and the length if none has it
abbrev pub index_of : List TenantTotal → List ℕ → ℕ
index_of totals name = position_or_len (λ (t : TenantTotal). bytes_eq t.name name) totals

-- Sums

-- the traffic of the tenant of this name: nothing if it has no entry
abbrev pub figures_of : List TenantTotal → List ℕ → Figures
figures_of [] name = no_figures
figures_of (t ∷ ts) name = if bytes_eq t.name name then t.sent else figures_of ts name

-- with the row added if it is of this name
abbrev pub figures_and : List ℕ → Figures → TenantBill → Figures
figures_and name sent row = if bytes_eq row.name name then plus_row sent row else sent

-- with the rows of this name added
abbrev pub figures_with : List ℕ → List TenantBill → Figures → Figures
figures_with name [] sent = sent
figures_with name (row ∷ rows) sent = figures_with name rows (figures_and name sent row)
