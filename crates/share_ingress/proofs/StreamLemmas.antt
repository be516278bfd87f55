-- A stream of bytes has one list of records, and one way to end after them.
use Rattle.std.proofs.Common.{◌≡◌, ℕ, suc, zero, ◌+◌, ◌*◌, ◌/◌, ◌%◌, ◌<◌, ◌≤◌, Bool, true, false}
use Rattle.std.proofs.Common.{List, [], ◌∷◌, ◌++◌, length, arith, refl, sym, ap, ◌∙◌, subst, true≢false}
use Rattle.std.proofs.Common.{take, drop, lit<}
use Rattle.std.proofs.lemmas.List.{append_assoc, length-append, append-nil, length-take-le, take-append-drop}
use Rattle.std.proofs.Math.Decide.{dec_lt}
use Rattle.std.proofs.Math.Nat.{div-add-mod}
use Rattle.share_base.specs.Body.{is_payload_length}
use Rattle.share_base.specs.Name.{is_name}
use Rattle.share_model.specs.declared.ingress.Ended.{Ended}
use Rattle.share_model.specs.declared.ingress.Ended.TheVariants.{End, Cut, BadRecord, Fault, NoMemory, Bound}
use Rattle.share_model.specs.ingress.Records.{Item, IsItem, two_bytes, record_of, records_of, is_name_length, IsCut}
use Rattle.share_model.specs.ingress.Records.{cut_in_name, cut_in_length, cut_in_payload, IsBad, bad_name_length}
use Rattle.share_model.specs.ingress.Records.{bad_name, bad_length, EndsAs, Front, IsRecords}
use Rattle.share_model.proofs.lemmas.link.FrameLemmas.{same_parts}
use Rattle.share_model.specs.lists.Each.{Each}
use Rattle.share_ingress.specs.Streams.{EndsStream}
use Rattle.share_ingress.proofs.RecordLemmas.{two_bytes_are, joined}

-- The fields in front of bytes

-- a name with its length before it, and the bytes after it
abbrev named : List ℕ → List ℕ → List ℕ
named name tail = (length name ∷ name) ++ tail

same_names : (name other tail rest : List ℕ) → named name tail ≡ named other rest → (name ≡ other) × (tail ≡ rest)
same_names name other tail rest same =
    let all : length name ∷ (name ++ tail) ≡ length other ∷ (other ++ rest) = same in
    let long : length name ≡ length other = cc in
    let parts : name ++ tail ≡ other ++ rest = cc in
    same_parts name other tail rest long parts

same_first : (m n : ℕ) (xs ys : List ℕ) → m ∷ xs ≡ n ∷ ys → (m ≡ n) × (xs ≡ ys)
same_first m n xs ys same = (cc, cc)

same_two : (a b c d : ℕ) (xs ys : List ℕ) → a ∷ b ∷ xs ≡ c ∷ d ∷ ys → (a ≡ c) × (b ≡ d) × (xs ≡ ys)
same_two a b c d xs ys same = (cc, cc, cc)

is_two : (n : ℕ) → n / 256 * 256 + n % 256 ≡ n
is_two n = let e : 256 * (n / 256) + n % 256 ≡ n = div-add-mod n 256 in omega (arith, e)

named_length : (name : List ℕ) → is_name name ≡ true → is_name_length (length name) ≡ true
named_length [] good = absurd (true≢false (sym good))
named_length (b ∷ bs) good = grind (arith, good)

-- the record of an item, and the bytes after it
abbrev fields : Item → List ℕ → List ℕ
fields i rest = named i.name (length i.payload / 256 ∷ length i.payload % 256 ∷ (i.payload ++ rest))

record_fields : (i : Item) (rest : List ℕ) → record_of i ++ rest ≡ fields i rest
record_fields i rest =
    append_assoc ((length i.name ∷ i.name) ++ two_bytes (length i.payload)) i.payload rest
    ∙ append_assoc (length i.name ∷ i.name) (two_bytes (length i.payload)) (i.payload ++ rest)

-- Bytes begin in one way: with a record, inside one, with a field out of its range, or not at all

same_record : (i j : Item) (xs ys : List ℕ) → fields i xs ≡ fields j ys → (i ≡ j) × (xs ≡ ys)
same_record i j xs ys same =
    let names = same_names i.name j.name _ _ same in
    let two = same_two _ _ _ _ _ _ names.1 in
    let long : length i.payload ≡ length j.payload =
    sym (is_two (length i.payload)) ∙ (λ k. two.0 k * 256 + two.1 k) ∙ is_two (length j.payload) in
    let parts = same_parts i.payload j.payload xs ys long two.2 in
    ((λ k. record { name = names.0 k; payload = parts.0 k }), parts.1)

whole_not_cut : (i : Item) (xs bs : List ℕ) → IsItem i → bs ≡ fields i xs → IsCut bs → ⊥
whole_not_cut i xs bs good is (cut_in_name n part in_range short cut) =
    let e = same_first _ _ _ _ (sym cut ∙ is) in
    let long = ap (λ t. length t) e.1 ∙ length-append i.name _ in
    omega (arith, short, e.0, long)
whole_not_cut i xs bs good is (cut_in_length name part named short cut) =
    let e = same_names name i.name part _ (sym cut ∙ is) in
    let long = ap (λ t. length t) e.1 in
    omega (arith, short, long)
whole_not_cut i xs bs good is (cut_in_payload name high low part named okay short cut) =
    let e = same_names name i.name _ _ (sym cut ∙ is) in
    let two = same_two _ _ _ _ _ _ e.1 in
    let size : high * 256 + low ≡ length i.payload = (λ k. two.0 k * 256 + two.1 k) ∙ is_two (length i.payload) in
    let long : length part ≡ length i.payload + length xs = ap (λ t. length t) two.2 ∙ length-append i.payload xs in
    omega (arith, short, size, long)

whole_not_bad : (i : Item) (xs bs : List ℕ) → IsItem i → bs ≡ fields i xs → IsBad bs → ⊥
whole_not_bad i xs bs good is (bad_name_length n rest out bad) =
    let e = same_first _ _ _ _ (sym bad ∙ is) in
    true≢false (sym (named_length i.name good.name) ∙ ap is_name_length (sym e.0) ∙ out)
whole_not_bad i xs bs good is (bad_name name rest in_range out bad) =
    let e = same_names name i.name rest _ (sym bad ∙ is) in
    true≢false (sym good.name ∙ ap is_name (sym e.0) ∙ out)
whole_not_bad i xs bs good is (bad_length name high low rest named out bad) =
    let e = same_names name i.name _ _ (sym bad ∙ is) in
    let two = same_two _ _ _ _ _ _ e.1 in
    let size : high * 256 + low ≡ length i.payload = (λ k. two.0 k * 256 + two.1 k) ∙ is_two (length i.payload) in
    true≢false (sym good.payload ∙ ap is_payload_length (sym size) ∙ out)

-- inside a name
name_not_bad : (n : ℕ) (part bs : List ℕ) → is_name_length n ≡ true → length part < n → bs ≡ n ∷ part → IsBad bs → ⊥
name_not_bad n part bs in_range short cut (bad_name_length m rest out bad) =
    let e = same_first _ _ _ _ (sym cut ∙ bad) in
    true≢false (sym in_range ∙ ap is_name_length e.0 ∙ out)
name_not_bad n part bs in_range short cut (bad_name name rest good out bad) =
    let e = same_first n (length name) part (name ++ rest) (sym cut ∙ bad) in
    let long = ap (λ t. length t) e.1 ∙ length-append name rest in
    omega (arith, short, e.0, long)
name_not_bad n part bs in_range short cut (bad_length name high low rest good out bad) =
    let e = same_first n (length name) part (name ++ high ∷ low ∷ rest) (sym cut ∙ bad) in
    let long = ap (λ t. length t) e.1 ∙ length-append name (high ∷ low ∷ rest) in
    omega (arith, short, e.0, long)

-- after a name
tail_not_bad : (name tail bs : List ℕ) → is_name name ≡ true → bs ≡ named name tail → IsBad bs
    → (high : ℕ) × (low : ℕ) × (rest : List ℕ) × (tail ≡ high ∷ low ∷ rest)
    × (is_payload_length (high * 256 + low) ≡ false)
tail_not_bad name tail bs good cut (bad_name_length n rest out bad) =
    let e = same_first n (length name) rest (name ++ tail) (sym bad ∙ cut) in
    absurd (true≢false (sym (named_length name good) ∙ ap is_name_length (sym e.0) ∙ out))
tail_not_bad name tail bs good cut (bad_name other rest in_range out bad) =
    let e = same_names other name rest tail (sym bad ∙ cut) in
    absurd (true≢false (sym good ∙ ap is_name (sym e.0) ∙ out))
tail_not_bad name tail bs good cut (bad_length other high low rest named out bad) =
    let e = same_names other name _ tail (sym bad ∙ cut) in
    (high, low, rest, sym e.1, out)

cut_not_bad : (bs : List ℕ) → IsCut bs → IsBad bs → ⊥
cut_not_bad bs (cut_in_name n part in_range short cut) bad = name_not_bad n part bs in_range short cut bad
cut_not_bad bs (cut_in_length name part good short cut) bad =
    let t = tail_not_bad name part bs good cut bad in
    let long = ap (λ t. length t) t.3 in
    omega (arith, short, long)
cut_not_bad bs (cut_in_payload name high low part good okay short cut) bad =
    let t = tail_not_bad name _ bs good cut bad in
    let two = same_two _ _ _ _ _ _ t.3 in
    true≢false (sym okay ∙ (λ k. is_payload_length (two.0 k * 256 + two.1 k)) ∙ t.4)

none_not_cut : IsCut [] → ⊥
none_not_cut (cut_in_name n part in_range short cut) = cc
none_not_cut (cut_in_length name part good short cut) = cc
none_not_cut (cut_in_payload name high low part good okay short cut) = cc

none_not_bad : IsBad [] → ⊥
none_not_bad (bad_name_length n rest out bad) = cc
none_not_bad (bad_name name rest in_range out bad) = cc
none_not_bad (bad_length name high low rest good out bad) = cc

-- a stream does not end where a record stands
ends_not_whole : (ended : Ended) (i : Item) (xs : List ℕ) → EndsStream ended → IsItem i
    → EndsAs ended (record_of i ++ xs) → ⊥
ends_not_whole End i xs last good ends = let e = sym (record_fields i xs) ∙ ends in cc
ends_not_whole Cut i xs last good ends = whole_not_cut i xs _ good (record_fields i xs) ends
ends_not_whole BadRecord i xs last good ends = whole_not_bad i xs _ good (record_fields i xs) ends
ends_not_whole Fault i xs last good ends = last
ends_not_whole NoMemory i xs last good ends = last
ends_not_whole Bound i xs last good ends = last

ends_once : (a b : Ended) (bs : List ℕ) → EndsStream a → EndsStream b → EndsAs a bs → EndsAs b bs → a ≡ b
ends_once End End bs _ _ f g = refl
ends_once End Cut bs _ _ f g = absurd (none_not_cut (subst (λ t. IsCut t) f g))
ends_once End BadRecord bs _ _ f g = absurd (none_not_bad (subst (λ t. IsBad t) f g))
ends_once Cut End bs _ _ f g = absurd (none_not_cut (subst (λ t. IsCut t) g f))
ends_once Cut Cut bs _ _ f g = refl
ends_once Cut BadRecord bs _ _ f g = absurd (cut_not_bad bs f g)
ends_once BadRecord End bs _ _ f g = absurd (none_not_bad (subst (λ t. IsBad t) g f))
ends_once BadRecord Cut bs _ _ f g = absurd (cut_not_bad bs g f)
ends_once BadRecord BadRecord bs _ _ f g = refl
ends_once Fault b bs last _ f g = absurd last
ends_once NoMemory b bs last _ f g = absurd last
ends_once Bound b bs last _ f g = absurd last
ends_once a Fault bs _ last f g = absurd last
ends_once a NoMemory bs _ last f g = absurd last
ends_once a Bound bs _ last f g = absurd last

-- Records in front of a stream

-- the bytes in front of a stream stand in front of its records, and the rest of these in the bytes that are left
record SplitStream (items all : List Item) (rest last : List ℕ) : Type 0 where
  more : List Item
  good : Each IsItem more
  all_is : all ≡ items ++ more
  rest_is : rest ≡ records_of more ++ last

split_by : (items all : List Item) (rest last : List ℕ) (ended : Ended) → EndsStream ended → EndsAs ended last
    → Each IsItem items → Each IsItem all → records_of items ++ rest ≡ records_of all ++ last
    → SplitStream items all rest last
split_by [] all rest last ended over ends good goods same =
    record { more = all; good = goods; all_is = refl; rest_is = same }
split_by (i ∷ items) [] rest last ended over ends good goods same =
    absurd (ends_not_whole ended i (records_of items ++ rest) over good.0
    (subst (λ t. EndsAs ended t) (sym same ∙ append_assoc (record_of i) (records_of items) rest) ends))
split_by (i ∷ items) (j ∷ all) rest last ended over ends good goods same =
    let fields_same : fields i (records_of items ++ rest) ≡ fields j (records_of all ++ last) =
    sym (record_fields i (records_of items ++ rest)) ∙ sym (append_assoc (record_of i) (records_of items) rest) ∙ same
    ∙ append_assoc (record_of j) (records_of all) last ∙ record_fields j (records_of all ++ last) in
    let e = same_record i j _ _ fields_same in
    let f = split_by items all rest last ended over ends good.1 goods.1 e.1 in
    record { more = f.more; good = f.good; all_is = (λ k. sym e.0 k ∷ f.all_is k); rest_is = f.rest_is }

pub records_in_front : (bytes : List ℕ) (items all : List Item) (rest : List ℕ) (ended : Ended) → EndsStream ended
    → Front bytes items rest → IsRecords bytes all ended → (more : List Item) × (all ≡ items ++ more)
records_in_front bytes items all rest ended over f g =
    let s = split_by items all rest g.rest ended over g.ends f.good g.front.good (sym f.bytes ∙ g.front.bytes) in
    (s.more, s.all_is)

pub records_are_one : (bytes : List ℕ) (items others : List Item) (ended other : Ended) → EndsStream ended
    → EndsStream other → IsRecords bytes items ended → IsRecords bytes others other
    → (items ≡ others) × (ended ≡ other)
records_are_one bytes items others ended other over last f g =
    let s = split_by items others f.rest g.rest other last g.ends f.front.good g.front.good
    (sym f.front.bytes ∙ g.front.bytes) in
    one_more s.more s.good s.all_is s.rest_is
  where
    one_more : (more : List Item) → Each IsItem more → others ≡ items ++ more → f.rest ≡ records_of more ++ g.rest
        → (items ≡ others) × (ended ≡ other)
    one_more [] good all rest = (
      sym (all ∙ append-nil items),
      ends_once ended other f.rest over last f.ends (subst (λ t. EndsAs other t) (sym rest) g.ends),
    )
    one_more (i ∷ more) good all rest =
        absurd (ends_not_whole ended i (records_of more ++ g.rest) over good.0
        (subst (λ t. EndsAs ended t) (rest ∙ append_assoc (record_of i) (records_of more) g.rest) f.ends))

-- Each stream has records

-- the beginning of bytes
data Beginning (bs : List ℕ) : Type 0 where
  nothing : bs ≡ [] → Beginning bs
  inside : IsCut bs → Beginning bs
  wrong : IsBad bs → Beginning bs
  whole : (i : Item) (rest : List ℕ) → IsItem i → bs ≡ record_of i ++ rest → Beginning bs

each_rest : (xs ys : List ℕ) → Each (λ b. b < 256) (xs ++ ys) → Each (λ b. b < 256) ys
each_rest [] ys h = h
each_rest (x ∷ xs) ys h = each_rest xs ys h.1

module _ (name : List ℕ) (good : is_name name ≡ true) where
  after_length : (high low : ℕ) (rest : List ℕ) → low < 256 → is_payload_length (high * 256 + low) ≡ true
      → Beginning (named name (high ∷ low ∷ rest))
  after_length high low rest byte okay =
      let size = high * 256 + low in
      elim (dec_lt (length rest) size) [
        | yes short ↦ inside (cut_in_payload name high low rest good okay short refl)
        | no long ↦
            let payload = take size rest in
            let sized : length payload ≡ size = length-take-le size rest (omega (arith, long)) in
            let i : Item = record { name = name; payload = payload } in
            let fits : is_payload_length (length payload) ≡ true = rw sized okay in
            let two : two_bytes (length payload) ≡ high ∷ low ∷ [] = rw sized (two_bytes_are high low byte) in
            let all : named name (high ∷ low ∷ rest) ≡ record_of i ++ drop size rest =
            joined (length name ∷ name) (two_bytes (length payload)) payload (drop size rest) high low two
            (high ∷ low ∷ rest) (ap (λ t. high ∷ low ∷ t) (sym (take-append-drop size rest))) in
            whole i (drop size rest) (record { name = good; payload = fits }) all
      ]

  after_name : (tail : List ℕ) → Each (λ b. b < 256) tail → Beginning (named name tail)
  after_name [] bytes = inside (cut_in_length name [] good (lit< tt) refl)
  after_name (high ∷ []) bytes = inside (cut_in_length name (high ∷ []) good (lit< tt) refl)
  after_name (high ∷ low ∷ rest) bytes = by_length (is_payload_length (high * 256 + low)) refl
    where
      by_length : (b : Bool) → is_payload_length (high * 256 + low) ≡ b → Beginning (named name (high ∷ low ∷ rest))
      by_length true okay = after_length high low rest bytes.1.0 okay
      by_length false out = wrong (bad_length name high low rest good out refl)

after_first : (name tail : List ℕ) → is_name_length (length name) ≡ true → Each (λ b. b < 256) tail
    → Beginning (named name tail)
after_first name tail in_range bytes = by_name (is_name name) refl
  where
    by_name : (b : Bool) → is_name name ≡ b → Beginning (named name tail)
    by_name true good = after_name name good tail bytes
    by_name false out = wrong (bad_name name tail in_range out refl)

beginning : (bs : List ℕ) → Each (λ b. b < 256) bs → Beginning bs
beginning [] bytes = nothing refl
beginning (n ∷ part) bytes = by_length (is_name_length n) refl
  where
    by_length : (b : Bool) → is_name_length n ≡ b → Beginning (n ∷ part)
    by_length false out = wrong (bad_name_length n part out refl)
    by_length true in_range =
        elim (dec_lt (length part) n) [
          | yes short ↦ inside (cut_in_name n part in_range short refl)
          | no long ↦
              let sized : length (take n part) ≡ n = length-take-le n part (omega (arith, long)) in
              let split : take n part ++ drop n part ≡ part = take-append-drop n part in
              let all : named (take n part) (drop n part) ≡ n ∷ part = (λ k. sized k ∷ split k) in
              subst (λ t. Beginning t) all
              (after_first (take n part) (drop n part) (ap is_name_length sized ∙ in_range)
              (each_rest (take n part) (drop n part) (subst (λ t. Each (λ b. b < 256) t) (sym split) bytes.1)))
        ]

record_long : (i : Item) → 1 ≤ length (record_of i)
record_long i = let e = length-append ((length i.name ∷ i.name) ++ two_bytes (length i.payload)) i.payload in
    let f = length-append (length i.name ∷ i.name) (two_bytes (length i.payload)) in
    omega (arith, e, f)

abbrev pub HasRecords : List ℕ → Type 0
HasRecords bytes = (items : List Item) × (ended : Ended) × EndsStream ended × IsRecords bytes items ended

no_items : (bytes : List ℕ) (ended : Ended) → EndsStream ended → EndsAs ended bytes → HasRecords bytes
no_items bytes ended over ends =
    ([], ended, over, record { rest = bytes; front = record { good = tt; bytes = refl }; ends = ends })

one_item : (bytes : List ℕ) (i : Item) (rest : List ℕ) → IsItem i → bytes ≡ record_of i ++ rest → HasRecords rest
    → HasRecords bytes
one_item bytes i rest good is (items, ended, over, f) = (
  i ∷ items,
  ended,
  over,
  record {
    rest = f.rest;
    front = record {
      good = (good, f.front.good);
      bytes = is ∙ ap (λ t. record_of i ++ t) f.front.bytes
          ∙ sym (append_assoc (record_of i) (records_of items) f.rest);
    };
    ends = f.ends;
  },
)

by_beginning : (bytes : List ℕ) → ((i : Item) (rest : List ℕ) → bytes ≡ record_of i ++ rest → HasRecords rest)
    → Beginning bytes → HasRecords bytes
by_beginning bytes later (nothing is) = no_items bytes End tt is
by_beginning bytes later (inside cut) = no_items bytes Cut tt cut
by_beginning bytes later (wrong bad) = no_items bytes BadRecord tt bad
by_beginning bytes later (whole i rest good is) = one_item bytes i rest good is (later i rest is)

shorter : (bytes : List ℕ) (i : Item) (rest : List ℕ) → bytes ≡ record_of i ++ rest → length rest < length bytes
shorter bytes i rest is =
    let all : length bytes ≡ length (record_of i) + length rest =
    ap (λ t. length t) is ∙ length-append (record_of i) rest in
    omega (arith, all, record_long i)

records_by : (most : ℕ) (bytes : List ℕ) → length bytes ≤ most → Each (λ b. b < 256) bytes → HasRecords bytes
records_by zero bytes few all =
    by_beginning bytes (λ i rest is. absurd (omega (arith, few, shorter bytes i rest is))) (beginning bytes all)
records_by (suc most) bytes few all =
    by_beginning bytes (λ i rest is. records_by most rest (omega (arith, few, shorter bytes i rest is))
    (each_rest (record_of i) rest (subst (λ t. Each (λ b. b < 256) t) is all))) (beginning bytes all)

pub each_has_records : (bytes : List ℕ) → Each (λ b. b < 256) bytes → HasRecords bytes
each_has_records bytes all = records_by (length bytes) bytes (omega arith) all
