-- Plans that are admitted one after the other, and the names and the numbers of their tenants.
use Rattle.std.specs.Prelude.{◌≡◌, ◌≢◌, ◌<◌, ◌≤◌, ◌+◌, ◌↔◌, ℕ, zero, suc, Bool, true, false, not, ◌==◌, ◌&&◌}
use Rattle.std.specs.Prelude.{List, [], ◌∷◌, ◌++◌, map, filter, find, take, drop, get_or, length, nat_lt}
use Rattle.std.specs.Prelude.{nat_le, bytes_eq, Option, None, Some, Decides, Contains, AllPairs, if◌then◌else◌}
use Rattle.std.specs.Prelude.{◌-◌}
use Rattle.std.specs.List.{list_all}
use Rattle.std.proofs.Common.{refl, ap, sym, ◌∙◌, arith, subst, append_assoc, append-nil}
use Rattle.std.proofs.lemmas.Bool.Decides.{Decides-eqb, not_from_Decides, nat_tests}
use Rattle.std.proofs.lemmas.Slice.Eq.{bytes_eq-Decides}
use Rattle.std.proofs.lemmas.List.{map-append, take_more, drop_more, drop_all}
use Rattle.std.proofs.lemmas.List.Elements.{Contains-append_left, Contains-append_right}
use Rattle.std.proofs.lemmas.List.Kept.{AllPairs-cons}
use Rattle.share_model.specs.lists.Each.{Each}
use Rattle.share_model.proofs.lemmas.lists.FirstItemLemmas.{each_map, each-append}
use Rattle.share_model.specs.funding.Graph.{NameBytes}
use Rattle.share_gateway.specs.Plan.{PlanView, TenantView, IsInLimits, ascends, flows_of}
use Rattle.share_reload.proofs.ListLemmas.{none_found, each_kept, each_front, each_back, each_contained}
use Rattle.share_reload.proofs.ListLemmas.{contained_later, filtered}
use Rattle.share_reload.specs.declared.clash.Numbered.{Numbered}
use Rattle.share_reload.specs.Rosters.{numbered, tenants_of, clashes, clash_of, first_clash, is_known}
use Rattle.share_reload.specs.Rosters.{is_new, admitted}
use Rattle.share_reload.specs.Rosters.{names_of, HaveOwnNames, AreAdmitted}

-- ---- Tenants that agree

-- two tenants have one name if and only if they have one number
abbrev pub Agrees : Numbered → Numbered → Type 0
Agrees t u = (t.name ≡ u.name) ↔ (t.flow ≡ u.flow)

agreeing : (t u : Numbered) → clashes t u ≡ false → Agrees t u
agreeing t u clear =
    by_tests (bytes_eq t.name u.name) (t.flow == u.flow) (bytes_eq-Decides t.name u.name)
    (Decides-eqb t.flow u.flow) clear
  where
    by_tests : (b f : Bool) → Decides b (t.name ≡ u.name) → Decides f (t.flow ≡ u.flow)
        → (if b then not f else f) ≡ false → Agrees t u
    by_tests true true names flows clear = (λ _. flows.0 refl, λ _. names.0 refl)
    by_tests true false names flows clear = absurd (cc)
    by_tests false true names flows clear = absurd (cc)
    by_tests false false names flows clear =
        (λ e. absurd (not_from_Decides false names refl e), λ e. absurd (not_from_Decides false flows refl e))

turned : (t u : Numbered) → Agrees t u → Agrees u t
turned t u agree = (λ e. sym (agree.0 (sym e)), λ e. sym (agree.1 (sym e)))

agreeing_known : (t : Numbered) (known : List Numbered) → find (clashes t) known ≡ None → Each (Agrees t) known
agreeing_known t known none =
    each_map (λ u. clashes t u ≡ false) (Agrees t) (agreeing t) known (none_found (clashes t) known none)

abbrev pub AllAgree : List Numbered → Type 0
AllAgree known = Each (λ t. Each (Agrees t) known) known

one_more : (t : Numbered) (known : List Numbered) → AllAgree known → Each (Agrees t) known → AllAgree (known ++ t ∷ [])
one_more t known all agree =
    each-append (λ u. Each (Agrees u) (known ++ t ∷ [])) known (t ∷ [])
    (by_each known all agree)
    (each-append (Agrees t) known (t ∷ []) agree ((λ _. refl, λ _. refl), tt), tt)
  where
    by_each : (us : List Numbered) → Each (λ u. Each (Agrees u) known) us → Each (Agrees t) us
        → Each (λ u. Each (Agrees u) (known ++ t ∷ [])) us
    by_each [] all agree = tt
    by_each (u ∷ us) all agree =
        (each-append (Agrees u) known (t ∷ []) all.0 (turned t u agree.0, tt), by_each us all.1 agree.1)

-- ---- Clashes

record IsClear (t : Numbered) (known ts : List Numbered) : Type 0 where
  here : find (clashes t) known ≡ None
  rest : first_clash (known ++ t ∷ []) ts ≡ None

clear_at : (t : Numbered) (known ts : List Numbered) → first_clash known (t ∷ ts) ≡ None → IsClear t known ts
clear_at t known ts clear = by_found (find (clashes t) known) refl
  where
    by_found : (o : Option Numbered) → find (clashes t) known ≡ o → IsClear t known ts
    by_found None is =
        let rest : first_clash (known ++ t ∷ []) ts ≡ None = rw is at clear in record { here = is; rest = rest }
    by_found (Some u) is =
        let clash : first_clash known (t ∷ ts) ≡ Some (clash_of t u) = rw is refl in absurd (cc)

clear_all : (known ts : List Numbered) → first_clash known ts ≡ None → AllAgree known → AllAgree (known ++ ts)
clear_all known [] clear all = rw append-nil all
clear_all known (t ∷ ts) clear all =
    let step = clear_at t known ts clear in
    subst AllAgree (append_assoc known (t ∷ []) ts)
    (clear_all (known ++ t ∷ []) ts step.rest (one_more t known all (agreeing_known t known step.here)))

clear_known : (known ts : List Numbered) → first_clash known ts ≡ None → Each (λ t. Each (Agrees t) known) ts
clear_known known [] clear = tt
clear_known known (t ∷ ts) clear =
    let step = clear_at t known ts clear in (
      agreeing_known t known step.here,
      each_map (λ u. Each (Agrees u) (known ++ t ∷ [])) (λ u. Each (Agrees u) known)
          (λ u agree. each_front (Agrees u) known (t ∷ []) agree) ts (clear_known (known ++ t ∷ []) ts step.rest),
    )

-- ---- Names

both : (a b : Bool) → (a && b) ≡ true → (a ≡ true) × (b ≡ true)
both true b h = (refl, h)
both false b h = absurd (cc)

above : (m : ℕ) (ts : List TenantView) → ascends m (flows_of ts) ≡ true → Each (λ (u : TenantView). m < u.flow) ts
above m [] rising = tt
above m (t ∷ ts) rising =
    let parts = both (nat_lt m t.flow) (ascends t.flow (flows_of ts)) rising in
    let up : m < t.flow = grind (arith, nat_tests, parts.0) in (
      up,
      each_map (λ (u : TenantView). t.flow < u.flow) (λ (u : TenantView). m < u.flow)
          (λ u past. omega (arith, up, past)) ts (above t.flow ts parts.1),
    )

other_names : (t : TenantView) (ts : List TenantView) → Each (λ (u : TenantView). t.flow < u.flow) ts
    → Each (λ u. Agrees u (numbered t)) (map numbered ts) → (k : ℕ) (d : NameBytes) → k < length (names_of ts)
    → t.name ≢ get_or (names_of ts) k d
other_names t [] past agree k d inside = absurd (omega (arith, inside))
other_names t (u ∷ us) past agree zero d inside = λ e.
    absurd (let same = agree.0.0 (sym e) in omega (arith, same, past.0))
other_names t (u ∷ us) past agree (suc k) d inside = other_names t us past.1 agree.1 k d (omega (arith, inside))

own_names : (m : ℕ) (known : List Numbered) (ts : List TenantView) → ascends m (flows_of ts) ≡ true
    → first_clash known (map numbered ts) ≡ None → AllPairs (λ (m n : NameBytes). m ≢ n) (names_of ts)
own_names m known [] rising clear = λ i j d before inside. absurd (omega (arith, inside))
own_names m known (t ∷ ts) rising clear =
    let parts = both (nat_lt m t.flow) (ascends t.flow (flows_of ts)) rising in
    let step = clear_at (numbered t) known (map numbered ts) clear in
    let agree = clear_known (known ++ numbered t ∷ []) (map numbered ts) step.rest in
    let agree_here = each_map (λ u. Each (Agrees u) (known ++ numbered t ∷ [])) (λ u. Agrees u (numbered t))
    (λ u all. (each_back (Agrees u) known (numbered t ∷ []) all).0) (map numbered ts) agree in
    AllPairs-cons (λ (m n : NameBytes). m ≢ n) t.name (names_of ts)
    (λ k d inside. other_names t ts (above t.flow ts parts.1) agree_here k d inside)
    (own_names t.flow (known ++ numbered t ∷ []) ts parts.1 step.rest)

pub own_names_of : (known : List Numbered) (p : PlanView) → IsInLimits p → first_clash known (tenants_of p) ≡ None
    → HaveOwnNames p
own_names_of known p limits clear =
    let parts = both (ascends 0 (flows_of p.tenants)) (list_all (λ n. nat_le n 1024) (flows_of p.tenants))
    limits.flows in
    own_names 0 known p.tenants parts.0 clear

-- ---- The loop over a plan

abbrev pub IsClearTo : List Numbered → List TenantView → ℕ → Type 0
IsClearTo known ts i =
    first_clash known (map numbered ts) ≡ first_clash (known ++ map numbered (take i ts)) (map numbered (drop i ts))

module _ (known : List Numbered) (ts : List TenantView) (i : ℕ) (t : TenantView) (so_far : IsClearTo known ts i)
    (inside : i < length ts) where
  pub clear_more : find (clashes (numbered (get_or ts i t))) (known ++ map numbered (take i ts)) ≡ None
      → IsClearTo known ts (i + 1)
  clear_more none = so_far
      ∙ rw (drop_more ts i t inside, none, take_more ts i t inside)
      (ap (λ ks. first_clash ks (map numbered (drop (i + 1) ts)))
      (append_assoc known (map numbered (take i ts)) (numbered (get_or ts i t) ∷ [])
      ∙ ap (λ ns. known ++ ns) (sym (map-append numbered (take i ts) (get_or ts i t ∷ [])))))

  pub clash_here : (u : Numbered)
      → find (clashes (numbered (get_or ts i t))) (known ++ map numbered (take i ts)) ≡ Some u
      → first_clash known (map numbered ts) ≡ Some (clash_of (numbered (get_or ts i t)) u)
  clash_here u found = so_far ∙ rw (drop_more ts i t inside, found) refl

pub clear_whole : (known : List Numbered) (ts : List TenantView) (i : ℕ) → IsClearTo known ts i → length ts ≤ i
    → first_clash known (map numbered ts) ≡ None
clear_whole known ts i so_far whole = so_far ∙ rw (drop_all i ts whole) refl

-- ---- Plans one after the other

all_admitted : (known ts : List Numbered) → AllAgree (known ++ ts) → AllAgree (known ++ filter (is_new known) ts)
all_admitted known ts all =
    let kept : (P : Numbered → Type 0) → Each P (known ++ ts) → Each P (known ++ filter (is_new known) ts) =
    λ P each. each-append P known (filter (is_new known) ts) (each_front P known ts each)
    (each_kept P (is_new known) ts (each_back P known ts each)) in
    kept (λ t. Each (Agrees t) (known ++ filter (is_new known) ts))
    (each_map (λ t. Each (Agrees t) (known ++ ts)) (λ t. Each (Agrees t) (known ++ filter (is_new known) ts))
    (λ t each. kept (Agrees t) each) (known ++ ts) all)

same_numbered : (t u : Numbered) → u.name ≡ t.name → u.flow ≡ t.flow → t ≡ u
same_numbered t u name flow =
    ap (λ (n : NameBytes). let v : Numbered = record { name = n; flow = t.flow } in v) (sym name)
    ∙ ap (λ (f : ℕ). let v : Numbered = record { name = u.name; flow = f } in v) (sym flow)

-- a tenant whose name is known is known, if it agrees with all that are
known_by_name : (known : List Numbered) (t : Numbered) → Each (Agrees t) known → is_known known t ≡ true
    → Contains known t
known_by_name [] t agree is = absurd (cc)
known_by_name (k ∷ ks) t agree is = by_test (bytes_eq t.name k.name) refl (known_by_name ks t agree.1)
  where
    by_test : (b : Bool) → bytes_eq t.name k.name ≡ b → (is_known ks t ≡ true → Contains ks t) → Contains (k ∷ ks) t
    by_test true same more =
        let name = (bytes_eq-Decides t.name k.name).0 same in (0, omega arith, same_numbered k t name (agree.0.0 name))
    by_test false other more =
        let rest : is_known ks t ≡ true = rw other at is in contained_later t k ks (more rest)

all_known : (known ts : List Numbered) → AllAgree (known ++ ts)
    → Each (λ t. Contains (known ++ filter (is_new known) ts) t) ts
all_known known ts all =
    by_each ts (each_back (λ t. Each (Agrees t) (known ++ ts)) known ts all) (filtered (is_new known) ts)
  where
    here : (t : Numbered) → Each (Agrees t) (known ++ ts)
        → (is_new known t ≡ true → Contains (filter (is_new known) ts) t) → (b : Bool) → is_known known t ≡ b
        → Contains (known ++ filter (is_new known) ts) t
    here t agree passed true is =
        Contains-append_left known (filter (is_new known) ts) t
        (known_by_name known t (each_front (Agrees t) known ts agree) is)
    here t agree passed false is =
        let new : is_new known t ≡ true = rw is refl in
        Contains-append_right known (filter (is_new known) ts) t (passed new)

    by_each : (us : List Numbered) → Each (λ t. Each (Agrees t) (known ++ ts)) us
        → Each (λ t. is_new known t ≡ true → Contains (filter (is_new known) ts) t) us
        → Each (λ t. Contains (known ++ filter (is_new known) ts) t) us
    by_each [] agree passed = tt
    by_each (t ∷ us) agree passed =
        (here t agree.0 passed.0 (is_known known t) refl, by_each us agree.1 passed.1)

-- the roster after all plans
known_after : List Numbered → List PlanView → List Numbered
known_after known [] = known
known_after known (p ∷ ps) = known_after (admitted known p) ps

agree_after : (known : List Numbered) (ps : List PlanView) → AreAdmitted known ps → AllAgree known
    → AllAgree (known_after known ps)
unfolding known_after
agree_after known [] clear all = all
agree_after known (p ∷ ps) clear all =
    agree_after (admitted known p) ps clear.1
    (all_admitted known (tenants_of p) (clear_all known (tenants_of p) clear.0 all))

still_known : (known : List Numbered) (ps : List PlanView) (t : Numbered) → Contains known t
    → Contains (known_after known ps) t
unfolding known_after
still_known known [] t is = is
still_known known (p ∷ ps) t is =
    still_known (admitted known p) ps t (Contains-append_left known (filter (is_new known) (tenants_of p)) t is)

tenants_known : (known : List Numbered) (ps : List PlanView) → AreAdmitted known ps → AllAgree known
    → Each (λ (p : PlanView). Each (λ t. Contains (known_after known ps) t) (tenants_of p)) ps
unfolding known_after
tenants_known known [] clear all = tt
tenants_known known (p ∷ ps) clear all =
    let wide = clear_all known (tenants_of p) clear.0 all in (
      each_map (λ t. Contains (admitted known p) t) (λ t. Contains (known_after (admitted known p) ps) t)
          (λ t is. still_known (admitted known p) ps t is) (tenants_of p) (all_known known (tenants_of p) wide),
      tenants_known (admitted known p) ps clear.1 (all_admitted known (tenants_of p) wide),
    )

numbered_contained : (ts : List TenantView) (t : TenantView) → Contains ts t → Contains (map numbered ts) (numbered t)
numbered_contained [] t (k, inside, is) = absurd (omega (arith, inside))
numbered_contained (u ∷ us) t (zero, inside, is) = (0, omega arith, ap numbered is)
numbered_contained (u ∷ us) t (suc k, inside, is) =
    contained_later (numbered t) (numbered u) (map numbered us) (numbered_contained us t (k, omega (arith, inside), is))

pub names_numbers : (ps : List PlanView) → AreAdmitted [] ps → (p q : PlanView) → Contains ps p → Contains ps q
    → (t u : TenantView) → Contains p.tenants t → Contains q.tenants u → (t.name ≡ u.name) ↔ (t.flow ≡ u.flow)
names_numbers ps clear p q of_p of_q t u in_p in_q =
    let all = agree_after [] ps clear tt in
    let known = tenants_known [] ps clear tt in
    let is_known_in : (r : PlanView) (v : TenantView) → Contains ps r → Contains r.tenants v
    → Contains (known_after [] ps) (numbered v) =
    λ r v of_r in_r. each_contained (λ n. Contains (known_after [] ps) n) (tenants_of r) (numbered v)
    (each_contained (λ (p : PlanView). Each (λ t. Contains (known_after [] ps) t) (tenants_of p)) ps r known of_r)
    (numbered_contained r.tenants v in_r) in
    each_contained (Agrees (numbered t)) (known_after [] ps) (numbered u)
    (each_contained (λ n. Each (Agrees n) (known_after [] ps)) (known_after [] ps) (numbered t) all
    (is_known_in p t of_p in_p))
    (is_known_in q u of_q in_q)

-- ---- The loop that adds tenants

-- the tenants before an index are added, and the others have room
pub record AddsTo (known now : List Numbered) (ts : List TenantView) (i room : ℕ) : Type 0 where
  pub added : now ≡ known ++ filter (is_new known) (map numbered (take i ts))
  pub roomy : length now + (length ts - i) ≤ room
