-- The number of packets that the buffers hold, as packets come and go and buffers are opened and closed.
use Rattle.std.specs.Prelude.{◌≡◌, ◌<◌, ◌≤◌, ◌+◌, ◌-◌, ℕ, suc, Bool, true, false, List, [], ◌∷◌, ◌++◌, length, drop}
use Rattle.std.specs.Prelude.{find, nat_eq, Option, None, Some, if◌then◌else◌}
use Rattle.std.proofs.Common.{refl, ap, arith, length-append}
use Rattle.std.proofs.lemmas.Bool.{eqb-true}
use Rattle.std.proofs.lemmas.List.Sums.{sum_by-append}
use Rattle.share_model.specs.declared.link.Book.{Book}
use Rattle.share_model.specs.declared.link.Counts.{Counts}
use Rattle.std.specs.Set.{remove_key}
use Rattle.share_model.proofs.lemmas.lists.ItemSumLemmas.{sum_by-change_first}
use Rattle.share_model.proofs.lemmas.lists.RemovalLemmas.{sum_by-remove_found, remove_key-none}
use Rattle.share_model.specs.link.Frame.{Packet}
use Rattle.share_model.specs.link.Buffers.{Buffer, is_buffer_of, buffer_of, new_buffer, open_in, close_in, count_by}
use Rattle.share_model.specs.link.Buffers.{count_in}
use Rattle.share_model.specs.link.Buffers.{with_packet, push_in, without_head, pop_in, head_of}
use Rattle.share_model.proofs.lemmas.link.BufferLemmas.{IsHeadBuffer, head_buffer}
use Rattle.share_model.specs.link.Books.{is_book_of, account_in, account_of}
use Rattle.share_model.specs.link.Commands.{is_torn_of}
use Rattle.share_model.specs.link.Totals.{packets_in}
use Rattle.share_model.specs.run.Sound.{torn_gone, CountsAreSound, TornIsNamed, accounts_in}

abbrev size : Buffer → ℕ
size b = length b.packets

pub packets_in-push_in : (bs : List Buffer) (f : ℕ) (body : List ℕ) (b : Buffer) → buffer_of bs f ≡ Some b
    → packets_in (push_in bs f body) ≡ packets_in bs + 1
packets_in-push_in bs f body b found =
    let more : packets_in (push_in bs f body) + length b.packets ≡ packets_in bs + length (b.packets ++ body ∷ [])
    = sum_by-change_first size (is_buffer_of f) (with_packet body) b bs found in
    let long : length (b.packets ++ body ∷ []) ≡ length b.packets + 1 = length-append b.packets (body ∷ []) in
    omega arith

pub packets_in-pop_in : (bs : List Buffer) (f : ℕ) (h : Packet) → head_of bs f ≡ Some h
    → packets_in (pop_in bs f) + 1 ≡ packets_in bs
packets_in-pop_in bs f h is =
    let there : IsHeadBuffer bs f h = head_buffer bs f h is in
    let less : packets_in (pop_in bs f) + length there.buffer.packets
    ≡ packets_in bs + length (drop 1 there.buffer.packets)
    = sum_by-change_first size (is_buffer_of f) without_head there.buffer bs there.found in
    let long : length there.buffer.packets ≡ suc (length there.head.behind) = ap length there.head.packets in
    let left : length (drop 1 there.buffer.packets) ≡ length there.head.behind
    = ap (λ ps. length (drop 1 ps)) there.head.packets in
    omega arith

pub packets_in-open_in : (bs : List Buffer) (f limit : ℕ) → packets_in (open_in bs f limit) ≡ packets_in bs
packets_in-open_in bs f limit =
    let same : packets_in (open_in bs f limit) ≡ packets_in bs + 0 = sum_by-append size bs (new_buffer f limit ∷ []) in
    omega arith

closed_by : (bs : List Buffer) (f : ℕ) (o : Option Buffer) → buffer_of bs f ≡ o
    → packets_in (close_in bs f) + count_by o ≡ packets_in bs
closed_by bs f None found =
    let same : packets_in (close_in bs f) ≡ packets_in bs = ap packets_in (remove_key-none (is_buffer_of f) bs found) in
    omega arith
closed_by bs f (Some b) found = sum_by-remove_found size (is_buffer_of f) b bs found

pub packets_in-close_in : (bs : List Buffer) (f : ℕ) → packets_in (close_in bs f) + count_in bs f ≡ packets_in bs
packets_in-close_in bs f = closed_by bs f (buffer_of bs f) refl

-- a flow with a head packet holds some
pub some-held : (bs : List Buffer) (f : ℕ) (h : Packet) → head_of bs f ≡ Some h → 1 ≤ count_in bs f
some-held bs f h is =
    let there : IsHeadBuffer bs f h = head_buffer bs f h is in
    let long : length there.buffer.packets ≡ suc (length there.head.behind) = ap length there.head.packets in
    let count : count_in bs f ≡ length there.buffer.packets = ap count_by there.found in
    omega arith

pub count-within : (bs : List Buffer) (f : ℕ) → count_in bs f ≤ packets_in bs
count-within bs f = omega (arith, packets_in-close_in bs f)

-- The balance

pub counts-later : {life held gone : ℕ} {c : Counts} → CountsAreSound life c held gone → c.events < life
    → CountsAreSound life (record c { events = c.events + 1 }) held gone
counts-later was few = record {
  events = omega (arith, few);
  accepted = omega (arith, was.accepted);
  sent = omega (arith, was.sent);
  balance = was.balance;
}

closed_named : (accepted written dropped : ℕ) (bs : List Buffer) (broken : Bool) (f g : ℕ) (b : Bool) → nat_eq f g ≡ b
    → TornIsNamed bs broken (Some g) → accepted ≡ written + dropped + packets_in bs + torn_gone broken (Some g)
    → accepted ≡ written + (dropped + (count_in bs f - (if b then 1 else 0))) + packets_in (close_in bs f)
    + torn_gone broken (if b then None else Some g)
closed_named accepted written dropped bs broken f g true test named was =
    let some : 1 ≤ count_in bs g = some-held bs g named.head named.found in
    let same : count_in bs f ≡ count_in bs g = ap (count_in bs) (eqb-true f g test) in
    let before : torn_gone broken (Some g) ≡ 0 = ap (λ b. torn_gone b (Some g)) named.broken_is in
    let after : torn_gone broken None ≡ 1 = ap (λ b. torn_gone b None) named.broken_is in
    omega (arith, packets_in-close_in bs f)
closed_named accepted written dropped bs broken f g false test named was = omega (arith, packets_in-close_in bs f)

-- a flow that is closed drops what waits, and a torn packet of it is in no buffer then
pub close_in-balance : (accepted written dropped : ℕ) (bs : List Buffer) (broken : Bool) (torn : Option ℕ) (f : ℕ)
    → TornIsNamed bs broken torn → accepted ≡ written + dropped + packets_in bs + torn_gone broken torn
    → accepted ≡ written + (dropped + (count_in bs f - (if is_torn_of f torn then 1 else 0)))
    + packets_in (close_in bs f)
    + torn_gone broken (if is_torn_of f torn then None else torn)
close_in-balance accepted written dropped bs broken None f named was = omega (arith, packets_in-close_in bs f)
close_in-balance accepted written dropped bs broken (Some g) f named was =
    closed_named accepted written dropped bs broken f g (nat_eq f g) refl named was

-- Accounts

accounts_by : (books : List Book) (f : ℕ) (o : Option Book) → account_of books f ≡ account_in o
    → (o ≡ None → remove_key (is_book_of f) books ≡ books)
    → ((b : Book) → o ≡ Some b → accounts_in (remove_key (is_book_of f) books) + b.account ≡ accounts_in books)
    → accounts_in (remove_key (is_book_of f) books) + account_of books f ≡ accounts_in books
accounts_by books f None is none some =
    let same : accounts_in (remove_key (is_book_of f) books) ≡ accounts_in books = ap accounts_in (none refl) in
    omega arith
accounts_by books f (Some b) is none some = let more = some b refl in omega arith

-- the account of a flow that is closed is gone from the others
pub accounts-close_in : (books : List Book) (f : ℕ)
    → accounts_in (remove_key (is_book_of f) books) + account_of books f ≡ accounts_in books
accounts-close_in books f =
    accounts_by books f (find (is_book_of f) books) refl (remove_key-none (is_book_of f) books)
    (λ b found. sum_by-remove_found (λ (b : Book). b.account) (is_book_of f) b books found)
