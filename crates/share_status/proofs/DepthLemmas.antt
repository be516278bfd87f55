-- A status nests so little that it is read back.
use Rattle.std.proofs.Common.{◌≡◌, ◌+◌, ◌≤◌, ℕ, List, [], ◌∷◌, ◌++◌, map, Option, Some, None, option_and_then}
use Rattle.std.proofs.Common.{append-nil, arith, ap, ◌∙◌, sym}
use Rattle.json.specs.Json.{Json, document, max_depth, if_last, value}
use Rattle.json.specs.Lex.{tokens}
use Rattle.json.specs.Tree.{depth, items_depth, json_tokens, members_depth}
use Rattle.json.specs.Value.{items_of}
use Rattle.json.proofs.Printed.Trees.{value-json_tokens}
use Rattle.share_gateway.specs.declared.plan.Grant.{Grant}
use Rattle.share_status.specs.Members.{array_of, members_of}
use Rattle.share_status.specs.Status.{book_members, disk_members, disk_of, downlink_members, downlink_of, fault_of}
use Rattle.share_status.specs.Status.{grant_members, grant_of, grants_of, or_null, part_members, status_of}
use Rattle.share_status.specs.Status.{tenant_counts, tenant_of, tenant_plan, tenants_of, uplink_members, uplink_of}
use Rattle.share_status.specs.Status.{whole}
use Rattle.share_status.specs.declared.status.DiskStatus.{DiskStatus}
use Rattle.share_status.specs.declared.status.DownlinkStatus.{DownlinkStatus}
use Rattle.share_status.specs.declared.status.Status.{Status}
use Rattle.share_status.specs.declared.status.TenantStatus.{TenantStatus}
use Rattle.share_status.specs.declared.status.UplinkStatus.{UplinkStatus}

two_within : (k : ℕ) (ms ns : List (List ℕ × Json)) → members_depth (members_of ms) ≤ k
    → members_depth (members_of ns) ≤ k
    → members_depth (members_of (ms ++ ns)) ≤ k
two_within k [] ns a b = b
two_within k (m ∷ ms) ns a b =
    let rest : members_depth (members_of (ms ++ ns)) ≤ k = two_within k ms ns (omega arith) b in
    omega arith

items_within : {A : Type 0} (k : ℕ) (f : A → Json) (xs : List A) → ((x : A) → depth (f x) ≤ k)
    → items_depth (items_of (map f xs)) ≤ k
items_within k f [] h = omega arith
items_within k f (x ∷ xs) h =
    let first : depth (f x) ≤ k = h x in
    let rest : items_depth (items_of (map f xs)) ≤ k = items_within k f xs h in
    omega arith

array_within : {A : Type 0} (k : ℕ) (f : A → Json) (xs : List A) → ((x : A) → depth (f x) ≤ k)
    → depth (array_of (map f xs)) ≤ k + 1
array_within k f xs h = omega (arith, items_within k f xs h)

or_null_within : {A : Type 0} (k : ℕ) (f : A → Json) (x : Option A) → ((x : A) → depth (f x) ≤ k)
    → depth (or_null f x) ≤ k
or_null_within k f None h = omega arith
or_null_within k f (Some x) h = h x

uplink_depth : (u : UplinkStatus) → depth (uplink_of u) ≤ 1
unfolding uplink_members
uplink_depth u = omega arith

downlink_depth : (d : DownlinkStatus) → depth (downlink_of d) ≤ 1
unfolding downlink_members
downlink_depth d = omega arith

disk_depth : (d : DiskStatus) → depth (disk_of d) ≤ 1
unfolding disk_members
disk_depth d = omega (arith, or_null_within 0 fault_of d.fault (λ f. omega arith))

grant_depth : (g : Grant) → depth (grant_of g) ≤ 1
unfolding grant_members
grant_depth g = omega arith

tenant_depth : (t : TenantStatus) → depth (tenant_of t) ≤ 3
unfolding tenant_plan tenant_counts
tenant_depth t =
    let grants : depth (grants_of t.grants.now) ≤ 2 = array_within 1 grant_of t.grants.now grant_depth in
    let plan : members_depth (members_of (tenant_plan t)) ≤ 2 = omega arith in
    let counts : members_depth (members_of (tenant_counts t)) ≤ 2 = omega arith in
    omega (arith, two_within 2 (tenant_plan t) (tenant_counts t) plan counts)

status_depth : (s : Status) → depth (status_of s) ≤ 5
unfolding book_members part_members
status_depth s =
    let uplink : depth (or_null uplink_of s.uplink) ≤ 4 =
    or_null_within 4 uplink_of s.uplink (λ u. omega (arith, uplink_depth u)) in
    let rate : depth (or_null whole s.rate) ≤ 4 = or_null_within 4 whole s.rate (λ n. omega arith) in
    let disk : depth (disk_of s.disk) ≤ 4 = omega (arith, disk_depth s.disk) in
    let tenants : depth (tenants_of s.tenants.now) ≤ 4 = array_within 3 tenant_of s.tenants.now tenant_depth in
    let downlink : depth (or_null downlink_of s.downlink) ≤ 4 =
    or_null_within 4 downlink_of s.downlink (λ d. omega (arith, downlink_depth d)) in
    let book : members_depth (members_of (book_members s)) ≤ 4 = omega arith in
    let parts : members_depth (members_of (part_members s)) ≤ 4 = omega arith in
    omega (arith, two_within 4 (book_members s) (part_members s) book parts)

-- a text that has the tokens of a status reads as that status
pub read_back : (s : Status) (text : List ℕ) → tokens text ≡ json_tokens (status_of s)
    → document text ≡ Some (status_of s)
read_back s text is =
    let shallow : depth (status_of s) ≤ max_depth = omega (arith, status_depth s) in
    let all : tokens text ≡ json_tokens (status_of s) ++ [] = is ∙ sym (append-nil (json_tokens (status_of s))) in
    ap (λ ts. option_and_then (λ p. if_last p.0 p.1) (value max_depth ts)) all
    ∙ ap (option_and_then (λ p. if_last p.0 p.1)) (value-json_tokens (status_of s) max_depth [] shallow)
