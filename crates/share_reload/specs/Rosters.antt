-- The names and the flow numbers of tenants, and how they clash.
use Rattle.std.specs.Prelude.{◌≡◌, ◌≢◌, Bool, not, ◌==◌, List, [], ◌∷◌, ◌++◌, map, filter, find, bytes_eq, Option}
use Rattle.std.specs.Prelude.{None, Some}
use Rattle.std.specs.Prelude.{if◌then◌else◌, AllPairs}
use Rattle.std.specs.List.{list_any}
use Rattle.share_model.specs.funding.Graph.{NameBytes}
use Rattle.share_gateway.specs.Plan.{PlanView, TenantView}
use Rattle.share_reload.specs.declared.clash.Numbered.{Numbered}
use Rattle.share_reload.specs.declared.clash.Clash.{Clash}
use Rattle.share_reload.specs.declared.clash.Clash.TheVariants.{Taken, Renumbered}
use Rattle.share_reload.specs.declared.roster.NotAdmitted.{NotAdmitted}
use Rattle.share_reload.specs.declared.roster.NotAdmitted.TheVariants as not_admitted

abbrev pub numbered : TenantView → Numbered
numbered t = record { name = t.name; flow = t.flow }

abbrev pub tenants_of : PlanView → List Numbered
tenants_of p = map numbered p.tenants

-- ---- Clashes

-- two tenants have one name and two numbers, or one number and two names
abbrev pub clashes : Numbered → Numbered → Bool
clashes t known = if bytes_eq t.name known.name then not (t.flow == known.flow) else (t.flow == known.flow)

-- the number is another name's, or the name has another number
abbrev pub clash_of : Numbered → Numbered → Clash
clash_of t known = if t.flow == known.flow then Taken known.flow known.name else Renumbered known.name known.flow

abbrev pub clash_or : Numbered → Option Numbered → Option Clash → Option Clash
clash_or t None rest = rest
clash_or t (Some known) rest = Some (clash_of t known)

-- the clash of the first tenant that clashes with one that is known or stands before it
abbrev pub first_clash : List Numbered → List Numbered → Option Clash
first_clash known [] = None
first_clash known (t ∷ ts) = clash_or t (find (clashes t) known) (first_clash (known ++ t ∷ []) ts)

-- ---- The roster

abbrev pub is_known : List Numbered → Numbered → Bool
is_known known t = list_any (λ (k : Numbered). bytes_eq t.name k.name) known

abbrev pub is_new : List Numbered → Numbered → Bool
is_new known t = not (is_known known t)

-- the known tenants, and after them those of the plan whose names are new
abbrev pub admitted : List Numbered → PlanView → List Numbered
admitted known p = known ++ filter (is_new known) (tenants_of p)

-- a tenant of the plan clashes; or none does, and memory was refused
abbrev pub IsNotAdmitted : List Numbered → PlanView → NotAdmitted → Type 0
IsNotAdmitted known p (not_admitted.Clash c) = first_clash known (tenants_of p) ≡ Some c
IsNotAdmitted known p not_admitted.NoMemory = first_clash known (tenants_of p) ≡ None

abbrev pub names_of : List TenantView → List NameBytes
names_of ts = map (λ (t : TenantView). t.name) ts

-- no two tenants of the plan have one name
abbrev pub HaveOwnNames : PlanView → Type 0
HaveOwnNames p = AllPairs (λ (m n : NameBytes). m ≢ n) (names_of p.tenants)

-- ---- Plans one after the other

-- none of the plans clashes when it comes
abbrev pub AreAdmitted : List Numbered → List PlanView → Type 0
AreAdmitted known [] = Unit {0}
AreAdmitted known (p ∷ ps) = (first_clash known (tenants_of p) ≡ None) × AreAdmitted (admitted known p) ps
