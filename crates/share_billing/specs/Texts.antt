-- The text of a bill.
use Rattle.std.specs.Prelude.{ℕ, ◌-◌, List, [], ◌∷◌, ◌++◌, codes, decimal, flat_map, length, replicate}
use Rattle.share_bill.specs.declared.bill.total.Figures.{Figures}
use Rattle.share_bill.specs.declared.bill.total.TenantTotal.{TenantTotal}
use Rattle.share_bill.specs.Totals.{no_figures, plus}
use Rattle.share_billing.specs.declared.printing.Form.{Form}
use Rattle.share_billing.specs.declared.printing.Form.TheVariants.{Table, Csv, Json}

-- the decimal of a number after some bytes
abbrev pub field : List ℕ → ℕ → List ℕ
field before number = before ++ decimal number

-- CSV

abbrev pub csv_row : List ℕ → Figures → List ℕ
csv_row name sent =
    name ++ field (codes ",") sent.packets ++ field (codes ",") sent.bytes ++ field (codes ",") sent.units
    ++ field (codes ",") sent.amount ++ codes "\n"

abbrev pub csv_of : TenantTotal → List ℕ
csv_of t = csv_row t.name t.sent

abbrev pub csv_head : List ℕ
csv_head = codes "tenant,packets,bytes,units,amount\n"

abbrev pub csv_text : List TenantTotal → List ℕ
csv_text ts = csv_head ++ flat_map csv_of ts

-- JSON

abbrev pub json_figures : Figures → List ℕ
json_figures sent =
    field (codes "\",\"packets\":") sent.packets ++ field (codes ",\"bytes\":") sent.bytes
    ++ field (codes ",\"units\":") sent.units ++ field (codes ",\"amount\":") sent.amount

abbrev pub json_row : List ℕ → Figures → List ℕ
json_row name sent = codes "{\"name\":\"" ++ name ++ json_figures sent ++ codes "}"

-- a tenant that is not the first one
abbrev pub next_json : TenantTotal → List ℕ
next_json t = codes "," ++ json_row t.name t.sent

abbrev pub json_rows : List TenantTotal → List ℕ
json_rows [] = []
json_rows (t ∷ ts) = json_row t.name t.sent ++ flat_map next_json ts

abbrev pub json_text : ℕ → List TenantTotal → List ℕ
json_text books ts = field (codes "{\"books\":") books ++ codes ",\"tenants\":[" ++ json_rows ts ++ codes "]}\n"

-- The table

abbrev pub left : ℕ → List ℕ → List ℕ
left width text = text ++ replicate (width - length text) 32

-- after a space
abbrev pub right : ℕ → List ℕ → List ℕ
right width text = codes " " ++ replicate (width - length text) 32 ++ text

abbrev pub table_row : List ℕ → Figures → List ℕ
table_row name sent =
    left 16 name ++ right 12 (decimal sent.packets) ++ right 16 (decimal sent.bytes)
    ++ right 16 (decimal sent.units) ++ right 20 (decimal sent.amount) ++ codes "\n"

abbrev pub table_of : TenantTotal → List ℕ
table_of t = table_row t.name t.sent

abbrev pub sum_with : Figures → List TenantTotal → Figures
sum_with sum [] = sum
sum_with sum (t ∷ ts) = sum_with (plus sum t.sent) ts

abbrev pub sum_of : List TenantTotal → Figures
sum_of ts = sum_with no_figures ts

abbrev pub table_head : List ℕ
table_head = codes "tenant                packets            bytes            units               amount\n"

abbrev pub table_text : List TenantTotal → List ℕ
table_text ts =
    table_head ++ flat_map table_of ts ++ table_row (codes "all tenants") (sum_of ts)

abbrev pub shown_text : Form → ℕ → List TenantTotal → List ℕ
shown_text Table books ts = table_text ts
shown_text Csv books ts = csv_text ts
shown_text Json books ts = json_text books ts
