-- The fields of a record, read one after the other.
use Rattle.std.proofs.Common.{if◌then◌else◌, ◌≡◌, ◌≢◌, ◌⊎◌, inl, inr, ℕ, ◌+◌, ◌-◌, ◌*◌, ◌<◌, ◌≤◌, Bool, true, false}
use Rattle.std.proofs.Common.{◌&&◌, nat_le}
use Rattle.std.proofs.Common.{List, [], ◌∷◌, ◌++◌, Some, None, length, get_or, take, drop, Fits, w8, arith, refl}
use Rattle.std.proofs.Common.{sym, ap, ◌∙◌, subst}
use Rattle.std.proofs.lemmas.Bool.Decides.{nat_tests}
use Rattle.std.proofs.lemmas.List.{take-append-drop, length-take-le, append_assoc, take_rest}
use Rattle.std.proofs.Math.Seq.{drop-drop}
use Rattle.std.specs.List.{slice_get, slice_range}
use Rattle.std.proofs.lemmas.Nat.{div-mul-add, mod-mul-add}
use Rattle.share_base.specs.Name.{is_name}
use Rattle.share_base.specs.declared.version.TheConstants.{MAX_PAYLOAD}
use Rattle.share_model.specs.ingress.Records.{two_bytes}
use Rattle.share_model.specs.ingress.Records.{cut_in_name, cut_in_length, cut_in_payload}
use Rattle.share_model.specs.ingress.Records.{IsBad, bad_name_length, bad_name, bad_length}
use Rattle.share_ingress.specs.Found.{BeginsWhole, NeedsMore, IsFound}
use Rattle.share_ingress.specs.declared.record.Found.{Found}

-- Numbers in and out of range

in_range : (n most : ℕ) → 1 ≤ n → n ≤ most → (nat_le 1 n && nat_le n most) ≡ true
in_range n most a b = grind (arith, nat_tests)

out_of_range : (n most : ℕ) → (n ≡ 0) ⊎ ((n ≢ 0) × (most < n)) → (nat_le 1 n && nat_le n most) ≡ false
out_of_range n most (inl e) = grind (arith, nat_tests, e)
out_of_range n most (inr h) = grind (arith, nat_tests, h.1)

pub byte_below : (b : ℕ) → Fits w8 b → b < 256
byte_below b h = omega (arith, h)

pub two_bytes_are : (high low : ℕ) → low < 256 → two_bytes (high * 256 + low) ≡ high ∷ low ∷ []
two_bytes_are high low h = rw (div-mul-add high 256 low h, mod-mul-add high 256 low h) refl

pub joined : (front two payload rest : List ℕ) (high low : ℕ) → two ≡ high ∷ low ∷ [] → (tail : List ℕ)
    → tail ≡ high ∷ low ∷ (payload ++ rest) → front ++ tail ≡ front ++ two ++ payload ++ rest
joined front two payload rest high low e tail f =
    rw (e, f) (sym (append_assoc (front ++ high ∷ low ∷ []) payload rest
    ∙ append_assoc front (high ∷ low ∷ []) (payload ++ rest)))

-- The bytes after a name

pub two_first : (tail : List ℕ) → 2 ≤ length tail → tail ≡ get_or tail 0 0 ∷ get_or tail 1 0 ∷ drop 2 tail
two_first [] h = absurd (omega (arith, h))
two_first (a ∷ []) h = absurd (omega (arith, h))
two_first (a ∷ b ∷ rest) h = refl

module _ (name tail : List ℕ) (good : is_name name ≡ true) where
  pub length_cut : length tail < 2 → NeedsMore ((length name ∷ name) ++ tail)
  length_cut h = inr (cut_in_length name tail good h refl)

  module _ (high low : ℕ) (long : 2 ≤ length tail) (high_is : high ≡ get_or tail 0 0) (low_is : low ≡ get_or tail 1 0)
    where
      two : tail ≡ high ∷ low ∷ drop 2 tail
      two = rw (high_is, low_is) (two_first tail long)

      pub length_bad : ((high * 256 + low) ≡ 0) ⊎ ((high * 256 + low ≢ 0) × (MAX_PAYLOAD < high * 256 + low))
          → IsBad ((length name ∷ name) ++ tail)
      length_bad h =
          bad_length name high low (drop 2 tail) good (out_of_range _ _ h) (ap (λ t. (length name ∷ name) ++ t) two)

      length_two : 2 + length (drop 2 tail) ≡ length tail
      length_two = let e : length tail ≡ length (high ∷ low ∷ drop 2 tail) = ap (λ t. length t) two in omega (arith, e)

      module _ (some : 1 ≤ high * 256 + low) (few : high * 256 + low ≤ MAX_PAYLOAD) where
        pub payload_cut : length tail < 2 + (high * 256 + low) → NeedsMore ((length name ∷ name) ++ tail)
        payload_cut h =
            inr (cut_in_payload name high low (drop 2 tail) good (in_range _ _ some few) (omega (arith, length_two))
            (ap (λ t. (length name ∷ name) ++ t) two))

        pub record_whole : low < 256 → 2 + (high * 256 + low) ≤ length tail
            → BeginsWhole ((length name ∷ name) ++ tail) name (high * 256 + low)
        record_whole byte h =
            let size = high * 256 + low in
            let payload = take size (drop 2 tail) in
            let long : length payload ≡ size = length-take-le size (drop 2 tail) (omega (arith, length_two)) in
            record {
              payload = payload;
              rest = drop size (drop 2 tail);
              item = record { name = good; payload = rw long (in_range _ _ some few) };
              size_is = long;
              bytes = joined (length name ∷ name) _ payload _ high low (rw long (two_bytes_are high low byte)) tail
                  (two ∙ ap (λ t. high ∷ low ∷ t) (sym (take-append-drop size (drop 2 tail))));
            }

-- The length of a name, and the name

none_if : (b : Bool) (x : List ℕ) → None ≡ (if b then Some x else None) → b ≡ false
none_if true x e = cc
none_if false x e = refl

pub some_if : (b : Bool) (x y : List ℕ) → Some y ≡ (if b then Some x else None) → (b ≡ true) × (y ≡ x)
some_if true x y e = (refl, cc)
some_if false x y e = cc

pub first_is : (bs : List ℕ) (n : ℕ) → Some n ≡ slice_get bs 0 → bs ≡ n ∷ drop 1 bs
first_is [] n e = cc
first_is (b ∷ bs) n e = let is : n ≡ b = cc in ap (λ m. m ∷ bs) (sym is)

module _ (bs : List ℕ) (n : ℕ) (first : Some n ≡ slice_get bs 0) where
  pub name_length_bad : (n ≡ 0) ⊎ ((n ≢ 0) × (16 < n)) → IsBad bs
  name_length_bad h = bad_name_length n (drop 1 bs) (out_of_range n 16 h) (first_is bs n first)

  long_is : length bs ≡ 1 + length (drop 1 bs)
  long_is = let e : length bs ≡ length (n ∷ drop 1 bs) = ap (λ t. length t) (first_is bs n first) in omega (arith, e)

  module _ (some : n ≢ 0) (few : n ≤ 16) where
    pub name_cut : length bs < 1 + n → NeedsMore bs
    name_cut h =
        inr (cut_in_name n (drop 1 bs) (in_range n 16 (omega arith) few) (omega (arith, long_is)) (first_is bs n first))

    -- the bytes are the name with its length before it, and the bytes after them
    pub split_name : 1 + n ≤ length bs
        → (length (slice_range bs 1 (1 + n)) ≡ n)
        × (bs ≡ (length (slice_range bs 1 (1 + n)) ∷ slice_range bs 1 (1 + n)) ++ drop (1 + n) bs)
    split_name h =
        let name = slice_range bs 1 (1 + n) in
        let same : 1 + n - 1 ≡ n = omega arith in
        let short : length name ≡ n = rw same (length-take-le n (drop 1 bs) (omega (arith, long_is))) in
        let rest : drop n (drop 1 bs) ≡ drop (1 + n) bs = drop-drop n 1 bs in
        (short, rw (short, same, ← rest) (first_is bs n first ∙ ap (λ t. n ∷ t) (sym (take-append-drop n (drop 1 bs)))))

    -- the bytes begin as the name and the bytes after it do
    pub named : (name : List ℕ) (found : Found) → 1 + n ≤ length bs
        → Some name ≡ (if is_name (slice_range bs 1 (1 + n)) then Some (slice_range bs 1 (1 + n)) else None)
        → IsFound ((length name ∷ name) ++ slice_range bs (1 + n) (length bs)) found → IsFound bs found
    named name found h read is =
        let s = split_name h in
        let same = (some_if _ _ _ read).1 in
        subst (λ t. IsFound t found) (rw (same, take_rest bs (1 + n)) (sym s.1)) is

    pub name_bad : 1 + n ≤ length bs → None
        ≡ (if is_name (slice_range bs 1 (1 + n)) then Some (slice_range bs 1 (1 + n)) else None) → IsBad bs
    name_bad h read = let s = split_name h in let bad = none_if _ _ read in
        bad_name (slice_range bs 1 (1 + n)) (drop (1 + n) bs) (rw s.0 (in_range n 16 (omega arith) few)) bad s.1
