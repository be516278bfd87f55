-- Ports by their places.
use Rattle.std.specs.Prelude.{◌≡◌, ◌<◌, ◌≤◌, ◌+◌, ℕ, Bool, true, false, ◌==◌, List, slice_get}
use Rattle.std.specs.Prelude.{get_or, length, position, bytes_eq, Option, None, Some, option_and_then, Decides}
use Rattle.std.proofs.Common.{refl, ap, sym, ◌∙◌, arith, subst, rules}
use Rattle.std.proofs.lemmas.Bool.Decides.{Decides-eqb, Decides-like, not_from_Decides}
use Rattle.std.proofs.lemmas.Slice.Eq.{bytes_eq-Decides}
use Rattle.std.proofs.lemmas.List.Quantifiers.{position-Some}
use Rattle.std.proofs.lemmas.Option.{slice_get-get_or, slice_get_within, get_or_from_slice_get}
use Rattle.std.specs.declared.net.socket_addr.SocketAddr.{SocketAddr}
use Rattle.std.specs.declared.net.socket_addr.SocketAddr.TheVariants.{V4, V6}
use Rattle.share_settings.specs.Ports.{PortsView}
use Rattle.share_settings.specs.Same.{same_address, same_port}
use Rattle.share_settings.specs.declared.port.Port.{Port}
use Rattle.share_settings.specs.declared.port.Port.TheVariants.{Tcp, Unix, Udp, UdpTo, Descriptor}
use Rattle.share_reload.proofs.ListLemmas.{none_placed, each_at}
use Rattle.share_reload.specs.Origins.{port_at, IsFirstPlace}

same_address-Decides : (a b : SocketAddr) → Decides (same_address a b) (a ≡ b)
same_address-Decides (V4 a) (V4 b) = search rules
same_address-Decides (V6 a) (V6 b) = search rules
same_address-Decides (V4 a) (V6 b) = (λ e. absurd (cc), λ e. absurd (cc))
same_address-Decides (V6 a) (V4 b) = (λ e. absurd (cc), λ e. absurd (cc))

same_port-Decides : (a b : Port) → Decides (same_port a b) (a ≡ b)
same_port-Decides (Tcp a) (Tcp b) =
    Decides-like (same_address a b) (λ e. ap Tcp e) (λ e. cc) (same_address-Decides a b)
same_port-Decides (Unix a) (Unix b) =
    Decides-like (bytes_eq a b) (λ e. ap Unix e) (λ e. cc) (bytes_eq-Decides a b)
same_port-Decides (Udp a) (Udp b) =
    Decides-like (same_address a b) (λ e. ap Udp e) (λ e. cc) (same_address-Decides a b)
same_port-Decides (UdpTo a) (UdpTo b) =
    Decides-like (same_address a b) (λ e. ap UdpTo e) (λ e. cc) (same_address-Decides a b)
same_port-Decides (Descriptor a) (Descriptor b) =
    Decides-like (a == b) (λ e. ap Descriptor e) (λ e. cc) (Decides-eqb a b)
same_port-Decides a b = (λ e. absurd (cc), λ e. absurd (cc))

-- ---- In one list

same_itself : (port : Port) → same_port port port ≡ false → ⊥
same_itself port other = not_from_Decides (same_port port port) (same_port-Decides port port) other refl

-- the index is that of the port, and none before it is
placed : (port : Port) (ports : List Port) (i : ℕ) → position (same_port port) ports ≡ Some i
    → (slice_get ports i ≡ Some port) × ((k : ℕ) → k < i → ¬ (slice_get ports k ≡ Some port))
placed port ports i is =
    let first = position-Some (same_port port) ports i port is in
    let here : port ≡ get_or ports i port = (same_port-Decides port (get_or ports i port)).0 first.1 in (
      slice_get-get_or ports i port first.0 ∙ ap Some (sym here),
      λ k before at.
          let there : get_or ports k port ≡ port = get_or_from_slice_get ports k port port at in
          same_itself port (ap (same_port port) (sym there) ∙ first.2 k before),
    )

unplaced : (port : Port) (ports : List Port) (k : ℕ) → position (same_port port) ports ≡ None
    → slice_get ports k ≡ Some port → ⊥
unplaced port ports k none at =
    same_itself port (each_at (λ q. same_port port q ≡ false) ports k port (none_placed (same_port port) ports none) at)

-- ---- Among the ports of all tenants

-- no tenant before an index has the port
abbrev pub NoneTo : List PortsView → Port → ℕ → Type 0
NoneTo tenants port n = (i j : ℕ) → i < n → ¬ (port_at tenants i j ≡ Some port)

module _ (tenants : List PortsView) (port : Port) (n : ℕ) (t : PortsView) (inside : n < length tenants)
    (is : t ≡ get_or tenants n t) where
  at_tenant : (j : ℕ) → port_at tenants n j ≡ slice_get t.ports j
  at_tenant j =
      ap (option_and_then (λ (u : PortsView). slice_get u.ports j))
      (slice_get-get_or tenants n t inside ∙ ap Some (sym is))

  pub none_more : NoneTo tenants port n → position (same_port port) t.ports ≡ None → NoneTo tenants port (n + 1)
  none_more before none i j within at = by_index (◌==◌ i n) (Decides-eqb i n)
    where
      by_index : (b : Bool) → Decides b (i ≡ n) → ⊥
      by_index true same =
          let here : port_at tenants n j ≡ Some port = subst (λ k. port_at tenants k j ≡ Some port) (same.0 refl) at in
          unplaced port t.ports j none (sym (at_tenant j) ∙ here)
      by_index false same =
          let other = not_from_Decides false same refl in before i j (omega (arith, within, other)) at

  pub found_here : (k : ℕ) → NoneTo tenants port n → position (same_port port) t.ports ≡ Some k
      → IsFirstPlace tenants port (record { tenant = n; port = k })
  found_here k before some =
      let place = placed port t.ports k some in
      record {
        here = at_tenant k ∙ place.0;
        tenants_before = before;
        ports_before = λ j earlier at. place.1 j earlier (sym (at_tenant j) ∙ at);
      }

pub none_at_all : (tenants : List PortsView) (port : Port) (n : ℕ) → NoneTo tenants port n → length tenants ≤ n
    → (i j : ℕ) → ¬ (port_at tenants i j ≡ Some port)
none_at_all tenants port n before whole i j at = by_place (slice_get tenants i) refl
  where
    by_place : (o : Option PortsView) → slice_get tenants i ≡ o → ⊥
    by_place None is =
        let none : port_at tenants i j ≡ None = ap (option_and_then (λ (u : PortsView). slice_get u.ports j)) is in
        absurd (cc)
    by_place (Some t) is = before i j (omega (arith, slice_get_within tenants i t is, whole)) at
