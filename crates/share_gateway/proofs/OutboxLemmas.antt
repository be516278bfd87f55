-- The frames of an outbox, and the bytes that they consist of.
use Rattle.std.proofs.Common.{◌≡◌, ℕ, ◌+◌, ◌-◌, ◌<◌, ◌≤◌, Bool, true, false, ◌&&◌, nat_le, nat_lt}
use Rattle.std.proofs.Common.{if◌then◌else◌, ◌⊎◌, inl, inr, min, get_or, subst}
use Rattle.std.proofs.Common.{List, [], ◌∷◌, ◌++◌, length, take, drop, sum, arith, refl, sym, ap, ◌∙◌}
use Rattle.std.proofs.lemmas.Bool.{le-leb, lt-leb, le-ltb, lt-ltb}
use Rattle.std.proofs.lemmas.Bool.Decides.{nat_tests}
use Rattle.std.proofs.lemmas.List.{take-append-drop, take-append-le, drop-append-le, length-drop, length-take-le}
use Rattle.std.proofs.lemmas.List.{nil_from_length, take_all}
use Rattle.std.proofs.lemmas.List.Sums.{sum_by-cons}
use Rattle.std.specs.List.{concat}
use Rattle.share_gateway.specs.Outbox.{OutboxView, frame_bytes, takes, room_of, with_frame, allow_more, ready_of}
use Rattle.share_gateway.specs.Outbox.{passed}
use Rattle.share_gateway.specs.Outbox.{without_whole, frames_in}

sum-cons : (n : ℕ) (ns : List ℕ) → sum (n ∷ ns) ≡ n + sum ns
sum-cons n ns = sum_by-cons (λ x. x) n ns

-- the lengths after the first are those of the bytes after it
pub rest_long : (n : ℕ) (ns bs : List ℕ) → sum (n ∷ ns) ≡ length bs → (n ≤ length bs) × (sum ns ≡ length (drop n bs))
rest_long n ns bs long = (omega (arith, long, sum-cons n ns), omega (arith, long, sum-cons n ns, length-drop n bs))

pub frames-bytes : (ns bs : List ℕ) → sum ns ≡ length bs → concat (frames_in ns bs) ≡ bs
frames-bytes [] bs long = sym (nil_from_length bs (sym long))
frames-bytes (n ∷ ns) bs long =
    ap (λ t. take n bs ++ t) (frames-bytes ns (drop n bs) (rest_long n ns bs long).1) ∙ take-append-drop n bs

pub frames-count : (ns bs : List ℕ) → length (frames_in ns bs) ≡ length ns
frames-count [] bs = refl
frames-count (n ∷ ns) bs = let more = frames-count ns (drop n bs) in omega (arith, more)

pub frames-push : (ns bs : List ℕ) (m : ℕ) (piece : List ℕ) → sum ns ≡ length bs → m ≡ length piece
    → frames_in (ns ++ m ∷ []) (bs ++ piece) ≡ frames_in ns bs ++ piece ∷ []
frames-push [] [] m piece long same = ap (λ t. t ∷ []) (take_all m piece (omega (arith, same)))
frames-push [] (b ∷ bs) m piece long same = absurd (omega (arith, long))
frames-push (n ∷ ns) bs m piece long same =
    let rest = rest_long n ns bs long in
    let front : take n (bs ++ piece) ≡ take n bs = take-append-le n bs piece rest.0 in
    let back : drop n (bs ++ piece) ≡ drop n bs ++ piece = drop-append-le n bs piece rest.0 in
    let more = frames-push ns (drop n bs) m piece rest.1 same in
    (λ k. front k ∷ (ap (λ t. frames_in (ns ++ m ∷ []) t) back ∙ more) k)

-- The part that is passed

if_true : {A : Type 0} (b : Bool) (x y : A) → b ≡ true → (if b then x else y) ≡ x
if_true true x y is = refl
if_true false x y is = cc

if_false : {A : Type 0} (b : Bool) (x y : A) → b ≡ false → (if b then x else y) ≡ y
if_false true x y is = cc
if_false false x y is = refl

-- a first frame that is out whole is gone
pub passed_one : (n : ℕ) (ns bs : List ℕ) (out allowed : ℕ) → sum (n ∷ ns) ≡ length bs → n ≤ out
    → passed (frames_in ns (drop n bs)) (out - n) (allowed - n) ≡ passed (frames_in (n ∷ ns) bs) out allowed
unfolding passed
passed_one n ns bs out allowed long past =
    let size : length (take n bs) ≡ n = length-take-le n bs (rest_long n ns bs long).0 in
    rw size (sym (if_true (nat_le n out) _ _ (le-leb n out past)))

-- one that is not stays
pub passed_none : (n : ℕ) (ns bs : List ℕ) (out allowed : ℕ) → sum (n ∷ ns) ≡ length bs → out < n
    → passed (frames_in (n ∷ ns) bs) out allowed
    ≡ record { frames = frames_in (n ∷ ns) bs; out = out; allowed = allowed }
unfolding passed
passed_none n ns bs out allowed long before =
    let size : length (take n bs) ≡ n = length-take-le n bs (rest_long n ns bs long).0 in
    if_false (nat_le (length (take n bs)) out) _ _ (rw size (lt-leb n out before))

-- A frame that is not longer than the room is taken

takes_by : (few : Bool) (held n : ℕ) → 1 ≤ n → n ≤ (if few then 65536 - held else 0)
    → (few && nat_le (held + n) 65536) ≡ true
takes_by true held n some room = le-leb (held + n) 65536 (omega (arith, some, room))
takes_by false held n some room = absurd (omega (arith, some, room))

pub takes-room : (o : OutboxView) (n : ℕ) → 1 ≤ n → n ≤ room_of o → takes o n ≡ true
takes-room o n some room = takes_by (nat_lt (length o.frames) 4096) (length (concat o.frames)) n some room

not_taken_by : (count held n : ℕ) → (4096 ≤ count) ⊎ (65536 < held + n)
    → (nat_lt count 4096 && nat_le (held + n) 65536) ≡ false
not_taken_by count held n (inl many) = grind (arith, nat_tests, many)
not_taken_by count held n (inr past) = grind (arith, nat_tests, past)

is_taken_by : (count held n : ℕ) → count < 4096 → held + n ≤ 65536
    → (nat_lt count 4096 && nat_le (held + n) 65536) ≡ true
is_taken_by count held n few room = grind (arith, nat_tests, few, room)

stays_by : (n : ℕ) (ms bs : List ℕ) (out allowed : ℕ) (ns : List ℕ) → ns ≡ n ∷ ms → sum ns ≡ length bs → out < n
    → passed (frames_in ns bs) out allowed ≡ record { frames = frames_in ns bs; out = out; allowed = allowed }
stays_by n ms bs out allowed ns is long before =
    rw is (passed_none n ms bs out allowed (subst (λ t. sum t ≡ length bs) is long) before)

goes_by : (n : ℕ) (ms bs : List ℕ) (out allowed : ℕ) (ns rest cs : List ℕ) → ns ≡ n ∷ ms → sum ns ≡ length bs
    → n ≤ out → rest ≡ ms → cs ≡ drop n bs
    → passed (frames_in rest cs) (out - n) (allowed - n) ≡ passed (frames_in ns bs) out allowed
goes_by n ms bs out allowed ns rest cs is long past rest_is cs_is =
    rw (is, rest_is, cs_is) (passed_one n ms bs out allowed (subst (λ t. sum t ≡ length bs) is long) past)

-- The calls, on an outbox whose bytes consist of frames of these lengths

module _ (ns bs : List ℕ) (out allowed : ℕ) (long : sum ns ≡ length bs) where
  abbrev pub seen : OutboxView
  seen = record { frames = frames_in ns bs; out = out; allowed = allowed }

  bytes_long : length (concat (frames_in ns bs)) ≡ length bs
  bytes_long = ap (λ t. length t) (frames-bytes ns bs long)

  pub room_is : (room : ℕ) → length ns < 4096 → room ≡ 65536 - length bs → room ≡ room_of seen
  room_is room few is =
      let count = frames-count ns bs in
      is ∙ ap (λ n. 65536 - n) (sym bytes_long)
      ∙ sym (if_true (nat_lt (length (frames_in ns bs)) 4096) _ _ (lt-ltb _ 4096 (omega (arith, count, few))))

  pub no_room_is : 4096 ≤ length ns → 0 ≡ room_of seen
  no_room_is many =
      let count = frames-count ns bs in
      sym (if_false (nat_lt (length (frames_in ns bs)) 4096) _ _ (le-ltb _ 4096 (omega (arith, count, many))))

  pub allow_is : (count more : ℕ) → allowed ≤ length bs → more ≡ min count (length bs - allowed)
      → record { frames = frames_in ns bs; out = out; allowed = allowed + more } ≡ allow_more count seen
  allow_is count more few is =
      let same : allowed + more ≡ min (allowed + count) (length (concat (frames_in ns bs))) =
      omega (arith, few, is, bytes_long) in
      (λ k. record { frames = frames_in ns bs; out = out; allowed = same k })

  pub waiting_is : (held : ℕ) → held ≡ length bs → held - out ≡ length (frame_bytes seen) - out
  waiting_is held is = ap (λ n. n - out) (is ∙ sym bytes_long)

  pub ready_same : (slice : List ℕ) → slice ≡ bs → take (allowed - out) (drop out slice) ≡ ready_of seen
  ready_same slice is = ap (λ t. take (allowed - out) (drop out t)) (is ∙ sym (frames-bytes ns bs long))

  pub not_taken : (n : ℕ) → (4096 ≤ length ns) ⊎ (65536 - length bs < n) → takes seen n ≡ false
  not_taken n h = not_taken_by (length (frames_in ns bs)) (length (concat (frames_in ns bs))) n (not_there h)
    where
      not_there : (4096 ≤ length ns) ⊎ (65536 - length bs < n)
          → (4096 ≤ length (frames_in ns bs)) ⊎ (65536 < length (concat (frames_in ns bs)) + n)
      not_there (inl many) = inl (omega (arith, many, frames-count ns bs))
      not_there (inr past) = inr (omega (arith, past, bytes_long))

  pub is_taken : (n : ℕ) → length ns < 4096 → length bs ≤ 65536 → n ≤ 65536 - length bs → takes seen n ≡ true
  is_taken n few most room =
      is_taken_by (length (frames_in ns bs)) (length (concat (frames_in ns bs))) n
      (omega (arith, few, frames-count ns bs)) (omega (arith, most, room, bytes_long))

  pub holds_more : (ms cs piece : List ℕ) (m : ℕ) → ms ≡ ns ++ m ∷ [] → cs ≡ bs ++ piece → m ≡ length piece
      → record { frames = frames_in ms cs; out = out; allowed = allowed } ≡ with_frame seen piece
  holds_more ms cs piece m ms_is cs_is size =
      let frames : frames_in ms cs ≡ frames_in ns bs ++ piece ∷ [] =
      (λ k. frames_in (ms_is k) (cs_is k)) ∙ frames-push ns bs m piece long size in
      (λ k. record { frames = frames k; out = out; allowed = allowed })

  pub none_whole : length ns ≡ 0 → without_whole seen ≡ seen
  unfolding passed
  none_whole none = rw (nil_from_length ns none) refl

  pub first_stays : (n : ℕ) → ns ≡ n ∷ drop 1 ns → out < n → without_whole seen ≡ seen
  first_stays n is before = stays_by n (drop 1 ns) bs out allowed ns is long before

  pub first_goes : (n : ℕ) (ms cs : List ℕ) → ns ≡ n ∷ drop 1 ns → n ≤ out → ms ≡ drop 1 ns → cs ≡ drop n bs
      → without_whole (record { frames = frames_in ms cs; out = out - n; allowed = allowed - n })
      ≡ without_whole seen
  first_goes n ms cs is past ms_is cs_is = goes_by n (drop 1 ns) bs out allowed ns ms cs is long past ms_is cs_is

-- the first of a list that has one
pub first_is : (ns : List ℕ) (n : ℕ) → 0 < length ns → n ≡ get_or ns 0 n → ns ≡ n ∷ drop 1 ns
first_is [] n some is = absurd (omega (arith, some))
first_is (m ∷ ns) n some is = ap (λ t. t ∷ ns) (sym is)
