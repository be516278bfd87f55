-- The reader of std finds the address that a text spells, and only that.
use Rattle.std.proofs.Common.{◌≡◌, ℕ, List, [], ◌∷◌, ◌++◌, Option, Some, None, Result, Ok, Err, refl, sym, ap, ◌∙◌}
use Rattle.std.proofs.Common.{subst, append-nil, lit≤}
use Rattle.std.proofs.Common.{length, take, drop, Bool, true, false, Bor, MatchOption}
use Rattle.std.specs.Str.Pattern.{FindsTextPrefix, StripsPrefix}
use Rattle.std.proofs.Math.Seq.{take-append_seam, drop-append_seam}
use Rattle.std.proofs.lemmas.List.{take-append-drop}
use Rattle.std.proofs.lemmas.Slice.Eq.{bytes_eq-Decides}
use Rattle.std.specs.Result.{result_ok}
use Rattle.std.specs.Str.{bytes_eq}
use Rattle.std.specs.declared.net.ip_addr.IpAddr.{IpAddr}
use Rattle.std.specs.declared.net.ip_addr.IpAddr.TheVariants as host
use Rattle.std.specs.declared.net.socket_addr.SocketAddr.{SocketAddr}
use Rattle.std.specs.declared.net.socket_addr.SocketAddr.TheVariants as socket
use Rattle.std.specs.declared.net.socket_addr.SocketAddrV4.{SocketAddrV4}
use Rattle.std.specs.declared.net.socket_addr.SocketAddrV6.{SocketAddrV6}
use Rattle.std.specs.Net.Grammar.{Parses, IsDotted, IsColonHex, IsIpText, IsSocketText, IsSocketV4Text}
use Rattle.std.specs.Net.Grammar.{IsSocketV6Text}
use Rattle.std.specs.Net.Reader.{read_socket_v4, read_socket_v6, read_ipv4, read_ipv6}
use Rattle.std.proofs.NetLemmas.Sockets.{read_socket_v4_complete, read_socket_v4_sound, read_socket_v6_complete}
use Rattle.std.proofs.NetLemmas.Sockets.{read_socket_v6_sound, IsSocketV4Text-not_v6}
use Rattle.std.proofs.NetLemmas.Ipv4.{read_ipv4_complete, read_ipv4_sound}
use Rattle.std.proofs.NetLemmas.Ipv6.{read_ipv6_complete, read_ipv6_sound, EndsGroups-nil, IsDotted-not_colon_hex}
use Rattle.share_spellings.specs.Addresses.{whole, or_else, mapped, ipv4, ipv6, socket_v4, socket_v6, socket_of}
use Rattle.share_spellings.specs.Addresses.{host_v4, host_v6, host_of, after}

-- a text that was read as a whole is in the grammar of its kind
at_whole : {A : Type 0} (Spells : List ℕ → A → Type 0) (text : List ℕ) (o : Option (A × List ℕ))
    → ((a : A) (rest : List ℕ) → o ≡ Some (a, rest) → (front : List ℕ) × (text ≡ front ++ rest) × Spells front a)
    → (a : A) → whole o ≡ Some a → Spells text a
at_whole Spells text None sound a e = let no : ⊥ = cc in absurd no
at_whole Spells text (Some (b, [])) sound a e =
    let found = sound b [] refl in
    let text_is : found.0 ≡ text = sym (found.1 ∙ append-nil found.0) in
    let value_is : b ≡ a = cc in
    subst (Spells text) value_is (subst (λ t. Spells t b) text_is found.2)
at_whole Spells text (Some (b, c ∷ rest)) sound a e = let no : ⊥ = cc in absurd no

-- ---- Prefixes

-- a text that begins with a prefix is the prefix and what follows it
begun : (prefix text : List ℕ) → take (length prefix) text ≡ prefix → text ≡ prefix ++ drop (length prefix) text
begun prefix text e =
    sym (take-append-drop (length prefix) text) ∙ ap (λ t. t ++ drop (length prefix) text) e

pub not_after : (prefix text : List ℕ) → ((rest : List ℕ) → text ≡ prefix ++ rest → ⊥) → after prefix text ≡ None
not_after prefix text none = by (bytes_eq (take (length prefix) text) prefix) refl
  where
    by : (b : Bool) → bytes_eq (take (length prefix) text) prefix ≡ b → after prefix text ≡ None
    by false e = rw e
    by true e =
        let front : take (length prefix) text ≡ prefix = (bytes_eq-Decides (take (length prefix) text) prefix).0 e in
        absurd (none (drop (length prefix) text) (begun prefix text front))

pub is_after : (prefix text rest : List ℕ) → text ≡ prefix ++ rest → after prefix text ≡ Some rest
is_after prefix text rest e =
    let front : take (length prefix) text ≡ prefix = ap (take (length prefix)) e ∙ take-append_seam prefix rest in
    let back : drop (length prefix) text ≡ rest = ap (drop (length prefix)) e ∙ drop-append_seam prefix rest in
    let same : bytes_eq (take (length prefix) text) prefix ≡ true =
    (bytes_eq-Decides (take (length prefix) text) prefix).1 front in
    rw same (ap Some back)

-- the finding of `strip_prefix`
pub stripped : (prefix text : List ℕ) (r : Option (Bor (List ℕ)))
    → MatchOption r (FindsTextPrefix prefix text None) (λ x. StripsPrefix (FindsTextPrefix prefix) text x.now)
    → MatchOption r (after prefix text ≡ None) (λ rest. after prefix text ≡ Some rest.now)
stripped prefix text None h = not_after prefix text h
stripped prefix text (Some x) h = is_after prefix text x.now (h.1.1 ∙ ap (λ t. prefix ++ t) (sym h.2))

-- ---- Socket addresses

v4_of : List ℕ × ℕ → SocketAddrV4
v4_of p = record { ip = ipv4 p.0; port = p.1 }

v4_sound : (text : List ℕ) (p : List ℕ × ℕ) → whole (read_socket_v4 text) ≡ Some p → IsSocketV4Text text (v4_of p)
unfolding read_socket_v4 v4_of
v4_sound text p e =
    at_whole (λ t q. IsSocketV4Text t (v4_of q)) text (read_socket_v4 text)
    (λ q rest r. read_socket_v4_sound text rest (v4_of q) r) p e

v6_of : List ℕ × ℕ × ℕ × ℕ → SocketAddrV6
v6_of p = record { ip = ipv6 p.0; port = p.1; flowinfo = p.2; scope_id = p.3 }

v6_sound : (text : List ℕ) (p : List ℕ × ℕ × ℕ × ℕ) → whole (read_socket_v6 text) ≡ Some p
    → IsSocketV6Text text (v6_of p)
unfolding read_socket_v6 v6_of
v6_sound text p e =
    at_whole (λ t q. IsSocketV6Text t (v6_of q)) text (read_socket_v6 text)
    (λ q rest r. read_socket_v6_sound text rest (v6_of q) r) p e

v6_found : (text : List ℕ) (a : SocketAddrV6) → IsSocketV6Text text a → (o : Option (List ℕ × ℕ))
    → whole (read_socket_v4 text) ≡ o
    → or_else (mapped socket_v4 o) (mapped socket_v6 (whole (read_socket_v6 text))) ≡ Some (socket.V6 a)
v6_found text a h None e = rw (read_socket_v6_complete text a h)
v6_found text a h (Some p) e = absurd (IsSocketV4Text-not_v6 text (v4_of p) a (v4_sound text p e) h)

socket_found : (text : List ℕ) (a : SocketAddr) → IsSocketText text a → socket_of text ≡ Some a
socket_found text (socket.V4 a) h = rw (read_socket_v4_complete text a h)
socket_found text (socket.V6 a) h = v6_found text a h _ refl

no_socket : (text : List ℕ) → ((a : SocketAddr) → ¬ (IsSocketText text a)) → (o : Option (List ℕ × ℕ))
    (p : Option (List ℕ × ℕ × ℕ × ℕ)) → whole (read_socket_v4 text) ≡ o → whole (read_socket_v6 text) ≡ p
    → or_else (mapped socket_v4 o) (mapped socket_v6 p) ≡ None
no_socket text none None None e f = refl
no_socket text none (Some a) p e f = absurd (none (socket.V4 (v4_of a)) (v4_sound text a e))
no_socket text none None (Some a) e f = absurd (none (socket.V6 (v6_of a)) (v6_sound text a f))

pub socket_parsed : {E : Type 0} (text : List ℕ) (r : Result SocketAddr E) → Parses IsSocketText text r
    → result_ok r ≡ socket_of text
socket_parsed text (Ok a) h = sym (socket_found text a h)
socket_parsed text (Err e) h = sym (no_socket text h _ _ refl refl)

-- ---- IP addresses

host_v4_sound : (text octets : List ℕ) → whole (read_ipv4 text) ≡ Some octets → IsDotted text octets
host_v4_sound text octets e =
    at_whole IsDotted text (read_ipv4 text) (λ q rest r. read_ipv4_sound text q rest r) octets e

host_v6_sound : (text segments : List ℕ) → whole (read_ipv6 text) ≡ Some segments → IsColonHex text segments
host_v6_sound text segments e =
    at_whole IsColonHex text (read_ipv6 text) (λ q rest r. read_ipv6_sound text q rest r) segments e

whole_v4 : (text octets : List ℕ) → IsDotted text octets → whole (read_ipv4 text) ≡ Some octets
whole_v4 text octets h =
    ap (λ t. whole (read_ipv4 t)) (sym (append-nil text)) ∙ ap whole (read_ipv4_complete text octets [] h (lit≤ tt))

whole_v6 : (text segments : List ℕ) → IsColonHex text segments → whole (read_ipv6 text) ≡ Some segments
whole_v6 text segments h =
    ap (λ t. whole (read_ipv6 t)) (sym (append-nil text))
    ∙ ap whole (read_ipv6_complete text segments [] h EndsGroups-nil)

host_v6_found : (text segments : List ℕ) → IsColonHex text segments → (o : Option (List ℕ))
    → whole (read_ipv4 text) ≡ o
    → or_else (mapped host_v4 o) (mapped host_v6 (whole (read_ipv6 text))) ≡ Some (host_v6 segments)
host_v6_found text segments h None e = rw (whole_v6 text segments h)
host_v6_found text segments h (Some octets) e =
    absurd (IsDotted-not_colon_hex text _ _ (host_v4_sound text octets e) h)

host_found : (text : List ℕ) (a : IpAddr) → IsIpText text a → host_of text ≡ Some a
host_found text (host.V4 a) h = rw (whole_v4 text _ h)
host_found text (host.V6 a) h = host_v6_found text _ h _ refl

no_host : (text : List ℕ) → ((a : IpAddr) → ¬ (IsIpText text a)) → (o p : Option (List ℕ))
    → whole (read_ipv4 text) ≡ o → whole (read_ipv6 text) ≡ p → or_else (mapped host_v4 o) (mapped host_v6 p) ≡ None
no_host text none None None e f = refl
no_host text none (Some a) p e f = absurd (none (host.V4 (ipv4 a)) (host_v4_sound text a e))
no_host text none None (Some a) e f = absurd (none (host.V6 (ipv6 a)) (host_v6_sound text a f))

pub host_parsed : {E : Type 0} (text : List ℕ) (r : Result IpAddr E) → Parses IsIpText text r
    → result_ok r ≡ host_of text
host_parsed text (Ok a) h = sym (host_found text a h)
host_parsed text (Err e) h = sym (no_host text h _ _ refl refl)
