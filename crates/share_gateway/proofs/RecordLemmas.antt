-- Records that are cut out of a stream.
use Rattle.std.proofs.Common.{◌≡◌, ◌≢◌, inl, inr, ℕ, ◌+◌, ◌-◌, ◌*◌, ◌<◌, ◌≤◌, Bool, true, false}
use Rattle.std.proofs.Common.{List, [], ◌∷◌, ◌++◌, length, map, take, drop, arith, refl, sym, ap, ◌∙◌}
use Rattle.std.proofs.Common.{not, true≢false}
use Rattle.std.proofs.lemmas.Bool.Decides.{nat_tests}
use Rattle.std.proofs.lemmas.List.{append_assoc, append-nil, map-append, take_at, drop_at, length-append}
use Rattle.std.proofs.lemmas.List.{length-take-le, take-append-drop}
use Rattle.std.specs.Bool.{Decides, MatchBool}
use Rattle.share_base.specs.Name.{is_name}
use Rattle.share_model.proofs.lemmas.lists.FirstItemLemmas.{each-append, each-one}
use Rattle.share_model.specs.declared.ingress.Ended.{Ended}
use Rattle.share_model.specs.declared.ingress.Ended.TheVariants.{End, Cut, BadRecord}
use Rattle.share_model.specs.ingress.Records.{Item, IsItem, record_of, records_of, two_bytes, is_name_length}
use Rattle.share_model.specs.ingress.Records.{cut_in_name, cut_in_length, cut_in_payload, IsBad, Front, IsRecords}
use Rattle.share_ingress.specs.Found.{BeginsWhole, NeedsMore}
use Rattle.share_ingress.specs.Streams.{EndsStream}
use Rattle.share_gateway.specs.Records.{item_for, NamesOther, NamesOnly, GivesItem, Reads, began, fed, given}

-- The name in front

same_first : (m n : ℕ) (xs ys : List ℕ) → m ∷ xs ≡ n ∷ ys → (m ≡ n) × (xs ≡ ys)
same_first m n xs ys same = (cc, cc)

in_range : (n : ℕ) → n ≢ 0 → n ≤ 16 → is_name_length n ≡ true
in_range n some few = grind (arith, nat_tests)

pub name_in_range : (name : List ℕ) → is_name name ≡ true → is_name_length (length name) ≡ true
name_in_range [] good = cc
name_in_range (b ∷ bs) good = grind (arith, good)

pub short_name : (name : List ℕ) → is_name name ≡ true → length name ≤ 16
short_name name good = grind (arith, good)

module _ (name : List ℕ) (first : ℕ) (rest : List ℕ) (n : ℕ) (n_is : n ≡ first) (some : n ≢ 0) (few : n ≤ 16)
    (long : n ≤ length rest) where
  front_of : (all front back : List ℕ) (size : ℕ) → first ≡ size → all ≡ front ++ back
      → first ∷ all ≡ (size ∷ front) ++ back
  front_of all front back size size_is all_is = (λ k. size_is k ∷ all_is k)

  pub other_by : (same : Bool) (bytes : List ℕ) → bytes ≡ name → Decides same (take n rest ≡ bytes)
      → MatchBool (not same) (NamesOther name (first ∷ rest)) (NamesOnly name (first ∷ rest))
  other_by true bytes is decides =
      λ other more in_range all.
      let parts = same_first first (length other) rest (other ++ more) all in
      let size : length other ≡ n = sym (n_is ∙ parts.0) in
      let front : take n rest ≡ other = ap (λ t. take n t) parts.1 ∙ take_at other more n size in
      sym front ∙ decides.0 refl ∙ is
  other_by false bytes is decides =
      let size : length (take n rest) ≡ n = length-take-le n rest long in
      record {
        other = take n rest;
        rest = drop n rest;
        in_range = rw size (in_range n some few);
        differs = λ same. true≢false (sym (decides.1 (same ∙ sym is)));
        bytes_are = front_of rest (take n rest) (drop n rest) (length (take n rest)) (sym n_is ∙ sym size)
            (sym (take-append-drop n rest));
      }

-- The length of a part of a record

pub part_short : (bytes : List ℕ) → NeedsMore bytes → length bytes < 9019
part_short bytes (inl none) = rw none (omega arith)
part_short bytes (inr (cut_in_name n part in_range short is)) =
    let few : n ≤ 16 = grind (arith, nat_tests, in_range) in
    let long : length bytes ≡ 1 + length part = rw is (omega arith) in
    omega (arith, few, short, long)
part_short bytes (inr (cut_in_length name part good short is)) =
    let few = short_name name good in
    let long = ap (λ t. length t) is ∙ length-append (length name ∷ name) part in
    omega (arith, few, short, long)
part_short bytes (inr (cut_in_payload name high low part good okay short is)) =
    let few = short_name name good in
    let most : high * 256 + low ≤ 9000 = grind (arith, nat_tests, okay) in
    let long = ap (λ t. length t) is ∙ length-append (length name ∷ name) (high ∷ low ∷ part) in
    omega (arith, few, short, most, long)

-- The item in front

pub gives_item : (name bytes old other payload rest : List ℕ) (size start : ℕ) → NamesOnly name bytes
    → BeginsWhole bytes other size → start ≡ 3 + length other
    → payload ≡ take (start + size - start) (drop start bytes) → rest ≡ drop (start + size) bytes
    → GivesItem (record { name = name; bytes = bytes; payload = old })
    (record { name = name; bytes = rest; payload = payload })
gives_item name bytes old other payload rest size start only whole start_is payload_is rest_is =
    let front = (length other ∷ other) ++ two_bytes (length whole.payload) in
    let item : Item = record { name = other; payload = whole.payload } in
    let all_are : bytes
    ≡ (length other ∷ other) ++ (two_bytes (length whole.payload) ++ (whole.payload ++ whole.rest)) =
    whole.bytes ∙ append_assoc front whole.payload whole.rest
    ∙ append_assoc (length other ∷ other) (two_bytes (length whole.payload)) (whole.payload ++ whole.rest) in
    let same : other ≡ name = only other _ (name_in_range other whole.item.name) all_are in
    let long : length front ≡ start =
    omega (arith, start_is, length-append (length other ∷ other) (two_bytes (length whole.payload))) in
    let all : length (record_of item) ≡ start + size =
    omega (arith, long, whole.size_is, length-append front whole.payload) in
    let after : drop start bytes ≡ whole.payload ++ whole.rest =
    ap (λ t. drop start t) (whole.bytes ∙ append_assoc front whole.payload whole.rest)
    ∙ drop_at front (whole.payload ++ whole.rest) start long in
    let size_same : start + size - start ≡ size = omega arith in
    let is : payload ≡ whole.payload =
    rw size_same at payload_is ∙ ap (λ t. take size t) after ∙ take_at whole.payload whole.rest size whole.size_is in
    let left : rest ≡ whole.rest =
    rest_is ∙ ap (λ t. drop (start + size) t) whole.bytes ∙ drop_at (record_of item) whole.rest (start + size) all in
    rw (is, left, ← same) record { good = whole.item; bytes = whole.bytes; name = refl }

-- The whole stream

records_of-one : (items : List Item) (item : Item)
    → records_of (items ++ item ∷ []) ≡ records_of items ++ record_of item
records_of-one [] item = append-nil (record_of item)
records_of-one (i ∷ items) item =
    ap (λ t. record_of i ++ t) (records_of-one items item)
    ∙ sym (append_assoc (record_of i) (records_of items) (record_of item))

pub front_is : (name stream : List ℕ) (payloads : List (List ℕ)) (bytes : List ℕ)
    → Reads name stream payloads bytes → Front stream (map (item_for name) payloads) bytes
front_is name _ _ _ began = record { good = tt; bytes = refl }
front_is name _ _ _ (fed stream payloads bytes reads piece) =
    let f = front_is name stream payloads bytes reads in
    record {
      good = f.good;
      bytes = ap (λ t. t ++ piece) f.bytes
          ∙ append_assoc (records_of (map (item_for name) payloads)) bytes piece;
    }
front_is name _ _ _ (given stream payloads bytes reads payload rest good is) =
    let f = front_is name stream payloads bytes reads in
    let item = item_for name payload in
    let items = map (item_for name) payloads in
    let more : map (item_for name) (payloads ++ payload ∷ []) ≡ items ++ item ∷ [] =
    map-append (item_for name) payloads (payload ∷ []) in
    rw more record {
      good = each-append IsItem items (item ∷ []) f.good (each-one IsItem item good);
      bytes = f.bytes ∙ ap (λ t. records_of items ++ t) is
          ∙ sym (append_assoc (records_of items) (record_of item) rest)
          ∙ ap (λ t. t ++ rest) (sym (records_of-one items item));
    }

abbrev EndsSo : List ℕ → List Item → Type 0
EndsSo stream items = (ended : Ended) × EndsStream ended × IsRecords stream items ended

pub more_is : (name stream : List ℕ) (payloads : List (List ℕ)) (bytes : List ℕ)
    → Reads name stream payloads bytes → NeedsMore bytes → EndsSo stream (map (item_for name) payloads)
more_is name stream payloads bytes reads (inl none) =
    (End, tt, record { rest = bytes; front = front_is name stream payloads bytes reads; ends = none })
more_is name stream payloads bytes reads (inr cut) =
    (Cut, tt, record { rest = bytes; front = front_is name stream payloads bytes reads; ends = cut })

pub bad_is : (name stream : List ℕ) (payloads : List (List ℕ)) (bytes : List ℕ)
    → Reads name stream payloads bytes → IsBad bytes → IsRecords stream (map (item_for name) payloads) BadRecord
bad_is name stream payloads bytes reads bad =
    record { rest = bytes; front = front_is name stream payloads bytes reads; ends = bad }
